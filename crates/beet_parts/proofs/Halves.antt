-- A part in two halves.
use Rattle.std.proofs.Common.{◌≡◌, ℕ, ◌+◌, ◌-◌, ◌/◌, List, ◌++◌, arith, subst, sym}

pub half : (count : ℕ) → count / 2 + (count - count / 2) ≡ count
half count = omega arith

-- what holds of both parts holds of the whole
pub of-whole : {T : Type 0} (holds : ℕ → List T → Type 0) (count : ℕ) (own front back : List T) → own ≡ front ++ back →
    holds (count / 2 + (count - count / 2)) (front ++ back) → holds count own
of-whole holds count own front back is f = subst (holds count) (sym is) (subst (λ n. holds n (front ++ back)) (half count) f)
