-- The first field of a row.
use Rattle.std.proofs.Common.{◌≡◌, List, [], ◌∷◌, ℕ, Some, None, false, refl, ap}
use Rattle.std.specs.Prelude.{bytes_eq}
use Rattle.csv.specs.Records.{field_at}
use Rattle.beet_book.specs.ServerFiles.{begins}

pub begins-field : (row : List (List ℕ)) (text field : List ℕ) → field_at row 0 ≡ Some field → begins text row ≡ bytes_eq field text
unfolding field_at
begins-field [] text field e = cc e
begins-field (first ∷ rest) text field e = let same : first ≡ field = cc e in ap (λ f. bytes_eq f text) same

pub begins-none : (row : List (List ℕ)) (text : List ℕ) → field_at row 0 ≡ None → begins text row ≡ false
unfolding field_at
begins-none [] text e = refl
begins-none (first ∷ rest) text e = cc e
