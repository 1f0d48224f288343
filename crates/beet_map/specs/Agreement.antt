-- What one server can tell two lists apart by, of those who deal in two worlds: who knows each of them, and what is
-- told of those that it knows.
use Rattle.std.specs.Prelude.{◌≡◌, ◌≢◌, ◌<◌, ℕ, List, Option, Some, slice_get}
use Rattle.beet_field.specs.declared.point.Point.{Point}

-- those known to a server are told to be the same in both
abbrev pub SameKnown : {A B : Type 0} → (A → Option Point) → (A → B) → Point → List A → List A → Type 0
SameKnown {A} mark told s first second =
    (k : ℕ) (one other : A) → slice_get first k ≡ Some one → slice_get second k ≡ Some other → mark one ≡ Some s →
    told other ≡ told one

-- those before this place are
abbrev pub SameKnownBefore : {A B : Type 0} → (A → Option Point) → (A → B) → Point → List A → List A → ℕ → Type 0
SameKnownBefore {A} mark told s first second n =
    (k : ℕ) (one other : A) → k < n → slice_get first k ≡ Some one → slice_get second k ≡ Some other →
    mark one ≡ Some s →
    told other ≡ told one

-- the one at this place is known to the server and is told to be another in the second list, and none before it
pub record KnownDiffersAt {A B : Type 0} (mark : A → Option Point) (told : A → B) (s : Point) (first second : List A)
    (n : ℕ) : Type 0 where
  pub before : SameKnownBefore mark told s first second n
  pub one : A
  pub other : A
  pub is_one : slice_get first n ≡ Some one
  pub is_other : slice_get second n ≡ Some other
  pub known : mark one ≡ Some s
  pub here : told other ≢ told one
