-- Rows by their fields.
use Rattle.std.proofs.Common.{◌≡◌, ℕ, zero, suc, ◌<◌, List, [], ◌∷◌, length, drop, Some, None, arith}
use Rattle.csv.specs.Records.{field_at}

-- a place within the row has a field
pub field-there : (row : List (List ℕ)) (i : ℕ) → i < length row → field_at row i ≡ None → ⊥
unfolding field_at
field-there [] i h e = omega arith
field-there (f ∷ fs) zero h e = cc e
field-there (f ∷ fs) (suc i) h e = field-there fs i (omega arith) e

-- from a field on, the row is the field and what follows it
pub drop-field : (row : List (List ℕ)) (i : ℕ) (a : List ℕ) → field_at row i ≡ Some a → drop i row ≡ a ∷ drop (suc i) row
unfolding field_at
drop-field [] i a e = cc e
drop-field (f ∷ fs) zero a e = cc e
drop-field (f ∷ fs) (suc i) a e = drop-field fs i a e
