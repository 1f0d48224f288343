-- What is no UTF-8 fails the test for it.
use Rattle.std.proofs.Common.{◌≡◌, ℕ, List, Bool, true, false, IsUtf8, refl}
use Rattle.std.specs.Str.{is_utf8}
use Rattle.std.proofs.lemmas.Str.{IsUtf8-from_is_utf8}

refuted : (b : Bool) → (b ≡ true → ⊥) → b ≡ false
refuted true f = absurd (f refl)
refuted false f = refl

pub is_utf8-not : (bytes : List ℕ) → (IsUtf8 bytes → ⊥) → is_utf8 bytes ≡ false
is_utf8-not bytes f = refuted (is_utf8 bytes) (λ e. f (IsUtf8-from_is_utf8 bytes e))
