-- What a bidder buys and sells beside what it bought and sold before.
use Rattle.std.proofs.Common.{◌≡◌, ℕ, ◌+◌, ◌-◌, ◌≤◌, inl, inr, arith}
use Rattle.std.proofs.lemmas.Bool.{cases_eq}
use Rattle.beet_bids.specs.declared.curve.TheConstants.{LARGEST_QUANTITY}
use Rattle.beet_audit.specs.Audits.{IsStep}

-- the quantities at the place before, if there is one, and else the most that is bought and nothing that is sold
pub record IsBefore (prices : ℕ) (values : ℕ → ℕ) (place : ℕ) (before : ℕ × ℕ) : Type 0 where
  pub limit : before.0 ≤ LARGEST_QUANTITY
  pub first : place ≡ 0 → (before.0 ≡ LARGEST_QUANTITY) × (before.1 ≡ 0)
  pub later : (j : ℕ) → place ≡ j + 1 → (before.0 ≡ values j) × (before.1 ≡ values (prices + j))

-- at a step no more is bought than before and no less is sold, and that within the limit
pub goes-on : (prices : ℕ) (values : ℕ → ℕ) (place : ℕ) (before : ℕ × ℕ) → IsBefore prices values place before →
    IsStep prices values place →
    (values place ≤ before.0) × (before.1 ≤ values (prices + place)) × (values (prices + place) ≤ LARGEST_QUANTITY)
goes-on prices values place before b s = elim (cases_eq place 0) [
  | inl e ↦ (omega (arith, (b.first e).0, s.buy_limit), omega (arith, (b.first e).1), s.sell_limit)
  | inr ne ↦
      let j = place - 1 in
      let e : place ≡ j + 1 = omega arith in
      let at = b.later j e in
      (omega (arith, at.0, s.buy_never_rises j e), omega (arith, at.1, s.sell_never_falls j e), s.sell_limit)
]
