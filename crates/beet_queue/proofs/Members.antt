-- One value of a trio is changed.
use Rattle.std.proofs.Common.{◌≡◌, false, refl}
use Rattle.beet_field.specs.Trio.{member, with_member, trio_of}
use Rattle.beet_field.specs.declared.point.Point.{Point}
use Rattle.beet_field.specs.declared.point.Point.TheVariants.{One, Two, Three}
use Rattle.beet_field.specs.declared.trio.Trio.{Trio}
use Rattle.beet_delivery.specs.Events.{same}

module _ {A : Type 0} where
  -- what holds of the new value, and of the old ones elsewhere
  pub at_member : (P : A → Type 0) (t : Trio A) (s j : Point) (x : A) → (s ≡ j → P x) →
      (same s j ≡ false → P (member t j)) → P (member (with_member t s x) j)
  at_member P t One One x here there = here refl
  at_member P t Two Two x here there = here refl
  at_member P t Three Three x here there = here refl
  at_member P t One Two x here there = there refl
  at_member P t One Three x here there = there refl
  at_member P t Two One x here there = there refl
  at_member P t Two Three x here there = there refl
  at_member P t Three One x here there = there refl
  at_member P t Three Two x here there = there refl

  pub member-here : (t : Trio A) (s : Point) (x : A) → member (with_member t s x) s ≡ x
  member-here t One x = refl
  member-here t Two x = refl
  member-here t Three x = refl

  pub member-trio_of : (f : Point → A) (s : Point) → member (trio_of f) s ≡ f s
  member-trio_of f One = refl
  member-trio_of f Two = refl
  member-trio_of f Three = refl

-- of two trios with the same change
pub with_same : {A : Type 0} (t u : Trio A) (s j : Point) (x y : A) → x ≡ y → (same s j ≡ false → member t j ≡ member u j) →
    member (with_member t s x) j ≡ member (with_member u s y) j
with_same t u One One x y e rest = e
with_same t u Two Two x y e rest = e
with_same t u Three Three x y e rest = e
with_same t u One Two x y e rest = rest refl
with_same t u One Three x y e rest = rest refl
with_same t u Two One x y e rest = rest refl
with_same t u Two Three x y e rest = rest refl
with_same t u Three One x y e rest = rest refl
with_same t u Three Two x y e rest = rest refl
