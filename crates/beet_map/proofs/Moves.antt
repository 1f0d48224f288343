-- Moved numbers.
use Rattle.std.proofs.Common.{◌≡◌, ◌≢◌, ◌<◌, ℕ, List, sym, refl, subst, ◌∙◌, arith, ◌⊎◌, inl, inr}
use Rattle.beet_field.specs.Field.{p, IsElement}
use Rattle.beet_field.specs.declared.point.Point.{Point}
use Rattle.beet_field.specs.declared.point.Point.TheVariants.{One, Two, Three}
use Rattle.beet_shamir.specs.Line.{point_of, reshared}
use Rattle.beet_gates.specs.declared.Act.{Act}
use Rattle.beet_sharing.specs.Runs.{Shared}
use Rattle.beet_field.specs.Trio.{member, trio_of}
use Rattle.beet_field.specs.declared.trio.Trio.{Trio}
use Rattle.beet_map.specs.Mapped.{moved_of}
use Rattle.beet_map.specs.Secrets.{Secrets}
use Rattle.beet_map.specs.Steps.{MovesAt, MovesBatch}

-- the message to s stays
pub moved_same : (s : Point) (rho x y : ℕ) → IsElement y → point_of y (moved_of s rho x y) s ≡ point_of x rho s
moved_same One rho x y h = omega arith
moved_same Two rho x y h = omega arith
moved_same Three rho x y h = omega arith

-- and no other number does that
pub moved_only : (s : Point) (rho rho' x y : ℕ) → IsElement y → rho' < p → point_of y rho' s ≡ point_of x rho s → rho' ≡ moved_of s rho x y
moved_only One rho rho' x y h l e = omega arith
moved_only Two rho rho' x y h l e = omega arith
moved_only Three rho rho' x y h l e = omega arith

-- a move is undone by the move back
pub moved_back : (s : Point) (rho x y : ℕ) → IsElement x → IsElement y → rho < p → rho ≡ moved_of s (moved_of s rho x y) y x
moved_back s rho x y hx hy l = moved_only s (moved_of s rho x y) rho y x hx l (sym (moved_same s rho x y hy))

-- lines with the same point at s and the same value have the same points
pub slope_same : (s i : Point) (v a b : ℕ) → point_of v a s ≡ point_of v b s → point_of v a i ≡ point_of v b i
slope_same One One v a b e = e
slope_same One Two v a b e = omega arith
slope_same One Three v a b e = omega arith
slope_same Two One v a b e = omega arith
slope_same Two Two v a b e = e
slope_same Two Three v a b e = omega arith
slope_same Three One v a b e = omega arith
slope_same Three Two v a b e = omega arith
slope_same Three Three v a b e = e

-- the points of lines put together are those of the line put together
pub reshared_point : (x n : Point → ℕ) (i : Point) →
    point_of (reshared (trio_of x)) (reshared (trio_of n)) i ≡ reshared (trio_of (λ j. point_of (x j) (n j) i))
reshared_point x n One = omega arith
reshared_point x n Two = omega arith
reshared_point x n Three = omega arith

pub same_or : (j s : Point) → (j ≡ s) ⊎ (j ≢ s)
same_or One One = inl refl
same_or One Two = inr (λ e. cc)
same_or One Three = inr (λ e. cc)
same_or Two One = inr (λ e. cc)
same_or Two Two = inl refl
same_or Two Three = inr (λ e. cc)
same_or Three One = inr (λ e. cc)
same_or Three Two = inr (λ e. cc)
same_or Three Three = inl refl

module _ (me : Point) (a : Act) (first : Secrets) (here : Shared) (second : Secrets) (there : Shared) (old new : Trio (List ℕ)) where
  -- what a batch does to the list of one server
  abbrev ListMoved : Point → Type 0
  ListMoved j = (j ≡ me → member new j ≡ member old j) × (j ≢ me → MovesAt me a first here second there j (member old j) (member new j))

  pub list_moved : (j : Point) (list : List ℕ) → list ≡ member old j → (j ≡ me → member new j ≡ list) →
      (j ≢ me → MovesAt me a first here second there j list (member new j)) → ListMoved j
  list_moved j list is own other =
      (λ e. own e ∙ is, λ ne. subst (λ l. MovesAt me a first here second there j l (member new j)) is (other ne))

  each_moved : ListMoved One → ListMoved Two → ListMoved Three → (j : Point) → ListMoved j
  each_moved one two three One = one
  each_moved one two three Two = two
  each_moved one two three Three = three

  -- and to all three
  pub moves_batch : ListMoved One → ListMoved Two → ListMoved Three → MovesBatch me a first here second there old new
  moves_batch one two three = record { own = (each_moved one two three me).0 refl; others = λ j. (each_moved one two three j).1 }
