-- The plan that is left at a place of the script.
use Rattle.std.proofs.Common.{◌≡◌, ◌≢◌, ◌↔◌, ℕ, suc, ◌+◌, ◌-◌, ◌*◌, ◌/◌, ◌<◌, ◌≤◌, ◌⊎◌, inl, inr, Bool, true, false}
use Rattle.std.proofs.Common.{List, [], ◌∷◌, Option, Some, None, refl, ap, sym, ◌∙◌, arith, eq-eqb, ne_eqb}
use Rattle.std.specs.Prelude.{nat_lt, IsTrue, unwrap_or}
use Rattle.std.proofs.lemmas.Bool.{cases_lt, iff_false}
use Rattle.std.proofs.lemmas.Bool.Decides.{nat_tests}
use Rattle.beet_gates.specs.declared.Batch.{Batch}
use Rattle.beet_gates.specs.Batches.{reveal_batch, end_batch}
use Rattle.beet_gates.specs.Plans.{Plan, Ended, Block, Last, plan_batch, plan_length, plan_after, plan_finish, batch_at}
use Rattle.beet_gates.specs.Ends.{TellsEnd}
use Rattle.beet_gates.specs.Scripts.{bounds_of, start_of}
use Rattle.beet_gates.proofs.EachFacts.{get-past}
use Rattle.beet_gates.proofs.Ended.{plan-tells}
use Rattle.beet_walk.proofs.PlanParts.{past-one, block-batch, last-batch, ended-batch, read-batch, block-finish, last-finish, ended-finish}
use Rattle.beet_masking.specs.Blocks.{Blocks, after_mask}
use Rattle.beet_masking.proofs.BlockLaws.{AreBlocks, are-blocks, are-five_blocks}
use Rattle.beet_bids.specs.declared.outcomes.Policy.{Policy}
use Rattle.beet_bids.specs.Outcomes.{shown_by}
use Rattle.beet_plan.specs.Auction.{search_plan, end_plan, opening_plan, price_with, with_mask}
use Rattle.beet_plan.specs.Auction.{Auction, auction_plan, auction_batch, most_rounds, most_masks, most_coefficients, most_wires}
use Rattle.beet_plan.proofs.AuctionLaw.{auction-stands, follows-itself}
use Rattle.beet_plan.specs.declared.Finish.{Finish}
use Rattle.beet_plan.specs.declared.Finish.TheVariants.{NoPrice, MasksSpent}
use Rattle.beet_search.specs.Walk.{blocks_among, plan_at, stage_plan}
use Rattle.beet_search.specs.declared.blocks.Dealers.{Dealers}
use Rattle.beet_search.specs.declared.blocks.Dealers.TheVariants.{Three, Five}
use Rattle.beet_search.specs.declared.walk.Stage.{Stage}
use Rattle.beet_search.specs.declared.walk.Stage.TheVariants.{Search, Masked, Borrow, Supply, Ended as StageEnded}
use Rattle.beet_search.specs.declared.walk.Walk.{Walk}
use Rattle.beet_masking.specs.Accepting.{after_product, until_accepted}
use Rattle.beet_masking.proofs.Standing.{until-open}

-- the search goes on exactly where a mask may be dealt and the places differ
pub record IsOpen (b : Bool) (n lo hi : ℕ) : Type 0 where
  pub says : IsTrue b ↔ ((0 < n) × (lo < hi))

module _ (g : Blocks) (policy : Policy) (prices n lo hi spare first : ℕ) where
  pub open-plan : 0 < n → lo < hi → search_plan g policy prices n lo hi spare first
      ≡ until_accepted g MasksSpent spare first (with_mask g prices (search_plan g policy prices (n - 1)) lo hi)
  unfolding search_plan
  open-plan hn h =
      let e : n ≡ suc (n - 1) = omega arith in
      let t : nat_lt lo hi ≡ true = grind (arith, nat_tests) in
      ap (λ (k : ℕ). search_plan g policy prices k lo hi spare first) e ∙ rw t refl

  pub closed-plan : (n ≡ 0) ⊎ (hi ≤ lo) → search_plan g policy prices n lo hi spare first ≡ end_plan policy prices lo
  unfolding search_plan
  closed-plan (inl e) = rw e refl
  closed-plan (inr h) = elim (cases_lt 0 n) [
    | inl some ↦
        let e : n ≡ suc (n - 1) = omega arith in
        let t : nat_lt lo hi ≡ false = grind (arith, nat_tests) in
        ap (λ (k : ℕ). search_plan g policy prices k lo hi spare first) e ∙ rw t refl
    | inr none ↦ let e : n ≡ 0 = omega arith in rw e refl
  ]

-- with one mask rejected more
module _ (g : Blocks) (policy : Policy) (prices n lo hi spare first : ℕ) where
  pub again-plan : 0 < n → lo < hi → (product : ℕ) → product ≡ 1 → spare ≢ 0 →
      search_plan g policy prices n lo hi (spare - 1) (after_mask g first)
      ≡ after_product g MasksSpent spare first (with_mask g prices (search_plan g policy prices (n - 1)) lo hi) product
  again-plan hn h product one some = rw (eq-eqb product 1 one, ne_eqb spare 0 some)
      (open-plan g policy prices n lo hi (spare - 1) (after_mask g first) hn h)

module _ (policy : Policy) (prices place : ℕ) where
  -- the end of the search at no place of the grid, and at one of which this is shown
  pub end-past : prices ≤ place → end_plan policy prices place ≡ Ended NoPrice
  end-past h = let t : nat_lt place prices ≡ false = grind (arith, nat_tests) in rw t refl

  pub end-shows : (shown : Policy) → shown ≡ policy → place < prices →
      end_plan policy prices place ≡ opening_plan (shown_by shown (prices + place) place) (price_with place)
  end-shows shown e h =
      let t : nat_lt place prices ≡ true = grind (arith, nat_tests) in
      rw t (ap (λ (q : Policy). opening_plan (shown_by q (prices + place) place) (price_with place)) (sym e))

  -- it has one batch at most
  pub end-later : (step : ℕ) → 0 < step → plan_batch (end_plan policy prices place) step [] ≡ end_batch
  end-later step some = elim (cases_lt place prices) [
    | inl h ↦ ap (λ (p : Plan Finish). plan_batch p step []) (end-shows policy refl h) ∙ by_wires (shown_by policy (prices + place) place)
    | inr h ↦ ap (λ (p : Plan Finish). plan_batch p step []) (end-past h) ∙ ended-batch NoPrice step
  ] where
    by_wires : (wires : List ℕ) → plan_batch (opening_plan wires (price_with place)) step [] ≡ end_batch
    by_wires [] = ended-batch (price_with place []) step
    by_wires (w ∷ ws) = last-batch _ _ _ step ∙ past-one (reveal_batch [] (w ∷ ws)) step (λ e. omega (arith, e))

pub open-from : (b : Bool) (n lo hi : ℕ) → (IsTrue b ↔ ((0 < n) × (lo < hi))) → b ≡ true → (0 < n) × (lo < hi)
open-from b n lo hi e h = e.0 h

pub closed-from : (b : Bool) (n lo hi : ℕ) → (IsTrue b ↔ ((0 < n) × (lo < hi))) → b ≡ false → (n ≡ 0) ⊎ (hi ≤ lo)
closed-from b n lo hi e h = elim (cases_lt 0 n) [
  | inl some ↦ elim (cases_lt lo hi) [ inl below ↦ absurd (iff_false e h (some, below)) | inr past ↦ inr past ]
  | inr none ↦ inl (omega arith)
]

are-among : (d : Dealers) → AreBlocks (blocks_among d)
are-among (Three gates) = are-blocks gates
are-among Five = are-five_blocks

module _ (w : Walk) where
  pub stage-is : (s : Stage) → w.stage ≡ s → plan_at w ≡ stage_plan s w
  stage-is s e = ap (λ (t : Stage). stage_plan t w) e

  open-at : w.stage ≡ Search → (b : Bool) → (IsTrue b ↔ ((0 < w.left) × (w.lo < w.hi))) → b ≡ true →
      plan_at w ≡ Block ((blocks_among w.dealers).mask w.first)
      (after_product (blocks_among w.dealers) MasksSpent w.spare w.first (with_mask (blocks_among w.dealers) w.prices
      (search_plan (blocks_among w.dealers) w.policy w.prices (w.left - 1)) w.lo w.hi))
  open-at e b says t =
      let o = open-from b w.left w.lo w.hi says t in
      stage-is Search e ∙ open-plan (blocks_among w.dealers) w.policy w.prices w.left w.lo w.hi w.spare w.first o.0 o.1
      ∙ until-open (blocks_among w.dealers) MasksSpent w.spare w.first (with_mask (blocks_among w.dealers) w.prices
      (search_plan (blocks_among w.dealers) w.policy w.prices (w.left - 1)) w.lo w.hi)

  pub closed-at : w.stage ≡ Search → (b : Bool) → (IsTrue b ↔ ((0 < w.left) × (w.lo < w.hi))) → b ≡ false →
      plan_at w ≡ end_plan w.policy w.prices w.lo
  closed-at e b says t = stage-is Search e ∙ closed-plan
      (blocks_among w.dealers) w.policy w.prices w.left w.lo w.hi w.spare w.first (closed-from b w.left w.lo w.hi says t)

  -- the supply is still to be read
  pub supply-at : (volume : ℕ) → w.stage ≡ Supply volume → plan_at w ≡ Last end_batch 1 (λ opened. price_with w.lo (volume ∷ opened))
  supply-at volume e = stage-is (Supply volume) e

  -- lengths
  pub length-open : w.stage ≡ Search → (b : Bool) → (IsTrue b ↔ ((0 < w.left) × (w.lo < w.hi))) → b ≡ true →
      plan_length (plan_at w) ≡ (blocks_among w.dealers).mask_rounds
  length-open e b says t = ap plan_length (open-at e b says t) ∙ (are-among w.dealers).masks.rounds w.first

  pub length-borrow : (c : ℕ) → w.stage ≡ Borrow c → plan_length (plan_at w) ≡ (blocks_among w.dealers).compare_rounds - 1
  length-borrow c e = ap plan_length (stage-is (Borrow c) e)
      ∙ omega (arith, (are-among w.dealers).comparisons.rounds (after_mask (blocks_among w.dealers) w.first) w.first c)

  -- batches
  pub batch-open : w.stage ≡ Search → (b : Bool) → (IsTrue b ↔ ((0 < w.left) × (w.lo < w.hi))) → b ≡ true → (step : ℕ) →
      plan_batch (plan_at w) step [] ≡ batch_at ((blocks_among w.dealers).mask w.first) step
  batch-open e b says t step = ap (λ (p : Plan Finish). plan_batch p step []) (open-at e b says t) ∙ block-batch _ _ step

  pub batch-masked : w.stage ≡ Masked → (step : ℕ) →
      plan_batch (plan_at w) step [] ≡ batch_at ((blocks_among w.dealers).masked
      (after_mask (blocks_among w.dealers) w.first) w.first ((w.lo + w.hi) / 2) (w.prices + (w.lo + w.hi) / 2) ∷ []) step
  batch-masked e step = ap (λ (p : Plan Finish). plan_batch p step []) (stage-is Masked e) ∙ block-batch _ _ step

  pub batch-borrow : (c : ℕ) → w.stage ≡ Borrow c → (step : ℕ) → plan_batch (plan_at w) step []
      ≡ batch_at ((blocks_among w.dealers).answer (after_mask (blocks_among w.dealers) w.first) w.first c) step
  batch-borrow c e step = ap (λ (p : Plan Finish). plan_batch p step []) (stage-is (Borrow c) e) ∙ block-batch _ _ step

  pub batch-ended : (f : Finish) → w.stage ≡ StageEnded f → (step : ℕ) → plan_batch (plan_at w) step [] ≡ end_batch
  batch-ended f e step = ap (λ (p : Plan Finish). plan_batch p step []) (stage-is (StageEnded f) e) ∙ ended-batch f step

  pub batch-supply : (volume : ℕ) → w.stage ≡ Supply volume → (step : ℕ) → plan_batch (plan_at w) step [] ≡ end_batch
  batch-supply volume e step = ap (λ (p : Plan Finish). plan_batch p step []) (supply-at volume e) ∙ read-batch 1 _ step

  -- a batch past the end of a short block
  pub past-borrow : (c : ℕ) → w.stage ≡ Borrow c → (step : ℕ) → (blocks_among w.dealers).compare_rounds ≤ step + 1 →
      plan_batch (plan_at w) step [] ≡ end_batch
  past-borrow c e step h =
      let l = (are-among w.dealers).comparisons.rounds (after_mask (blocks_among w.dealers) w.first) w.first c in
      batch-borrow c e step ∙ ap (λ (o : Option Batch). unwrap_or o end_batch)
      (get-past ((blocks_among w.dealers).answer (after_mask (blocks_among w.dealers) w.first) w.first c) step (omega (arith, l)))

  -- the plan after a number
  pub after-open : w.stage ≡ Search → (b : Bool) → (IsTrue b ↔ ((0 < w.left) × (w.lo < w.hi))) → b ≡ true → (x : ℕ) →
      plan_after (plan_at w) x ≡ after_product (blocks_among w.dealers) MasksSpent w.spare w.first (with_mask
      (blocks_among w.dealers) w.prices (search_plan (blocks_among w.dealers) w.policy w.prices (w.left - 1)) w.lo w.hi) x
  after-open e b says t x = ap (λ (p : Plan Finish). plan_after p x) (open-at e b says t)

module _ (w : Walk) where
  pub finish-open : w.stage ≡ Search → (b : Bool) → (IsTrue b ↔ ((0 < w.left) × (w.lo < w.hi))) → b ≡ true →
      plan_finish (plan_at w) [] ≡ None
  finish-open e b says t = ap (λ (p : Plan Finish). plan_finish p []) (open-at w e b says t) ∙ block-finish _ _

  pub finish-masked : w.stage ≡ Masked → plan_finish (plan_at w) [] ≡ None
  finish-masked e = ap (λ (p : Plan Finish). plan_finish p []) (stage-is w Masked e) ∙ block-finish _ _

  pub finish-borrow : (c : ℕ) → w.stage ≡ Borrow c → plan_finish (plan_at w) [] ≡ None
  finish-borrow c e = ap (λ (p : Plan Finish). plan_finish p []) (stage-is w (Borrow c) e) ∙ block-finish _ _

  pub finish-supply : (volume : ℕ) → w.stage ≡ Supply volume → plan_finish (plan_at w) [] ≡ None
  finish-supply volume e = ap (λ (p : Plan Finish). plan_finish p []) (supply-at w volume e) ∙ last-finish _ 0 _

  pub finish-ended : (f : Finish) → w.stage ≡ StageEnded f → plan_finish (plan_at w) [] ≡ Some f
  finish-ended f e = ap (λ (p : Plan Finish). plan_finish p []) (stage-is w (StageEnded f) e) ∙ ended-finish f

-- the finish is there exactly at the end
pub auction-tells : (a : Auction) (opened : List ℕ) → TellsEnd (auction_batch a) opened (plan_finish (auction_plan a) opened)
auction-tells a = plan-tells (auction_batch a) (auction_plan a) (bounds_of (most_wires a) (most_masks a) (most_coefficients a))
    (most_rounds a) (start_of (2 * a.prices)) (auction-stands a) (follows-itself a)
