-- The searches of two worlds, side by side: they open the same numbers.
use Rattle.std.proofs.Common.{◌≡◌, ℕ, ◌*◌, ◌<◌, inl, inr, true, false, List, Some, refl, arith}
use Rattle.std.specs.Prelude.{nat_lt, nat_le}
use Rattle.std.proofs.lemmas.Bool.{cases_lt}
use Rattle.std.proofs.lemmas.Bool.Decides.{nat_tests}
use Rattle.beet_field.specs.Field.{add_of}
use Rattle.beet_gates.specs.Clear.{Values}
use Rattle.beet_gates.proofs.PlanNumbers.{plan_numbers}
use Rattle.beet_bids.specs.Grids.{comparisons_of}
use Rattle.beet_bids.specs.Outcomes.{shown_by}
use Rattle.beet_bids.specs.declared.outcomes.Policy.{Policy}
use Rattle.beet_bids.proofs.GridFacts.{below_comparisons}
use Rattle.beet_compare.specs.Compare.{doubled, is_doubled_even}
use Rattle.beet_masking.specs.Blocks.{Blocks}
use Rattle.beet_masking.specs.Compared.{item_compared}
use Rattle.beet_masking.proofs.AlikeMasks.{Alike}
use Rattle.beet_masking.proofs.BlockLaws.{AreBlocks}
use Rattle.beet_masking.proofs.Places.{along-start}
use Rattle.beet_masking.proofs.Words.{Deals}
use Rattle.beet_plan.specs.Auction.{plan_with}
use Rattle.beet_plan.specs.Search.{path, place_between}
use Rattle.beet_plan.proofs.BlockSteps.{Stands, AreElements}
use Rattle.beet_plan.proofs.SearchClaims.{search-claim, shown_at_end}

-- sums at which a comparison answers whether the clearing place is at most the place
pub record Turns (prices z : ℕ) (supply demand : ℕ → ℕ) : Type 0 where
  pub elements : AreElements prices supply demand
  pub reached : (k : ℕ) → k < prices → is_doubled_even (supply k) (demand k) ≡ nat_le z k

module _ (g : Blocks) (are : AreBlocks g) (policy : Policy) (deals deals' : ℕ → List ℕ) (masks masks' : ℕ → ℕ)
    (prices z : ℕ) (supply demand supply' demand' : ℕ → ℕ)
    (d : Deals g.words deals masks) (d' : Deals g.words deals' masks') (turns : Turns prices z supply demand)
    (turns' : Turns prices z supply' demand')
    (alike : Alike masks masks')
    (opens : (i m : ℕ) → m < prices → item_compared (path prices z) masks i ≡ Some m →
    add_of (doubled (supply' m) (demand' m)) (masks' i) ≡ add_of (doubled (supply m) (demand m)) (masks i))
    (shown : z < prices → shown_by policy (demand' z) (supply' z) ≡ shown_by policy (demand z) (supply z)) where
  same-end : shown_at_end policy prices supply' demand' z ≡ shown_at_end policy prices supply demand z
  same-end = elim (cases_lt z prices) [
    | inl l ↦ let e : nat_lt z prices ≡ true = grind (arith, nat_tests) in rw e (shown l)
    | inr l ↦ let e : nat_lt z prices ≡ false = grind (arith, nat_tests) in rw e refl
  ]

  pub both-search : (v v' : Values) → Stands prices supply demand (2 * prices) 0 v → Stands prices supply' demand' (2 * prices) 0 v' →
      place_between (nat_le z) (comparisons_of prices) 0 prices ≡ z →
      plan_numbers deals' (plan_with g policy prices) v' ≡ plan_numbers deals (plan_with g policy prices) v
  both-search v v' s s' end =
      (search-claim g are policy deals deals' masks masks' prices (path prices z) supply demand supply' demand'
      (nat_le z) d d' alike turns.elements turns'.elements
      turns.reached turns'.reached opens (comparisons_of prices) 0 prices 2 (2 * prices) 0 v v' s s' (omega arith)
      (omega arith) (omega arith)
      (omega (arith, below_comparisons prices)) (along-start masks (path prices z)) (rw end same-end)).numbers
