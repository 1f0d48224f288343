-- Dealing, one number after another.
use Rattle.std.proofs.Common.{◌≡◌, ℕ, ◌+◌, ◌<◌, ◌≤◌, List, [], ◌∷◌, ◌++◌, length, get_or, take, arith, refl, sym, ◌∙◌, ap}
use Rattle.std.proofs.lemmas.List.{take_more, get_or-drop, take_all, length-take-le, length-drop}
use Rattle.beet_field.specs.declared.point.Point.{Point}
use Rattle.beet_field.specs.declared.point.Point.TheVariants.{One, Two, Three}
use Rattle.beet_field.specs.declared.trio.Trio.{Trio}
use Rattle.beet_shamir.specs.Line.{point_of, points_of}
use Rattle.beet_words.specs.Tapes.{Tape, drawn_from, left_of}
use Rattle.beet_words.proofs.DrawnFrom.{left-drawn}
use Rattle.beet_book.specs.Columns.{Columns, pushed}
use Rattle.beet_book.specs.Dealing.{points_at, shares_of, AreShares, HasLengths}
use Rattle.beet_book.proofs.Pairs.{length-pairwise, item-pairwise, pairwise-front}

-- the first points at each server
abbrev pub front : ℕ → Trio (List ℕ) → Trio (List ℕ)
front n points = record { one = take n points.one; two = take n points.two; three = take n points.three }

-- a number is left where fewer are drawn than there were
pub some-left : (old mid : Tape) (n : ℕ) → mid ≡ drawn_from old n → n < length (left_of old) → 0 < length (left_of mid)
some-left old mid n drawn h = rw (drawn, left-drawn old n) (omega (arith, length-drop n (left_of old)))

-- the points of one place more
points-more : (values slopes : List ℕ) (n value slope : ℕ) (at : Point) →
    n < length values → n < length slopes → value ≡ get_or values n 0 → slope ≡ get_or slopes n 0 →
    take n (points_at values slopes at) ++ point_of value slope at ∷ [] ≡ take (n + 1) (points_at values slopes at)
points-more values slopes n value slope at h i e f =
    let point = λ (v s : ℕ). point_of v s at in
    let within : n < length (points_at values slopes at) = omega (arith, length-pairwise point values slopes) in
    let here : get_or (points_at values slopes at) n 0 ≡ point_of value slope at = rw (e, f) (item-pairwise point values slopes n h i) in
    sym (rw (take_more (points_at values slopes at) n 0 within, here) refl)

-- one value more is dealt
pub collected-more : (values : List ℕ) (old mid new : Tape) (before after : Columns) (n value : ℕ) →
    before.points ≡ front n (shares_of values (left_of old)) → mid ≡ drawn_from old n →
    after ≡ pushed before (points_of value (get_or (left_of mid) 0 0)) → value ≡ get_or values n 0 →
    n < length values → n < length (left_of old) →
    after.points ≡ front (n + 1) (shares_of values (left_of old))
collected-more values old mid new before after n value e drawn f g h i =
    let numbers = left_of old in
    let slope : get_or (left_of mid) 0 0 ≡ get_or numbers n 0 =
    rw (drawn, left-drawn old n) (get_or-drop n numbers 0 0 ∙ ap (λ k. get_or numbers k 0) (omega arith)) in
    rw (
      f,
      e,
      points-more values numbers n value (get_or (left_of mid) 0 0) One h i g slope,
      points-more values numbers n value (get_or (left_of mid) 0 0) Two h i g slope,
      points-more values numbers n value (get_or (left_of mid) 0 0) Three h i g slope,
    ) refl

length-points : (values slopes : List ℕ) (at : Point) → length values ≤ length slopes → length (points_at values slopes at) ≡ length values
length-points values slopes at h = omega (arith, length-pairwise (λ value slope. point_of value slope at) values slopes)

-- all points are the first so many
pub front-all : (values slopes : List ℕ) (n : ℕ) → n ≡ length values → n ≤ length slopes →
    front n (shares_of values slopes) ≡ shares_of values slopes
front-all values slopes n e h =
    rw (
      take_all n (points_at values slopes One) (omega (arith, length-points values slopes One (omega arith))),
      take_all n (points_at values slopes Two) (omega (arith, length-points values slopes Two (omega arith))),
      take_all n (points_at values slopes Three) (omega (arith, length-points values slopes Three (omega arith))),
    ) refl

-- what is dealt are points of lines with the quantities as values
pub dealt-shares : (values numbers : List ℕ) (points : Trio (List ℕ)) → length values ≤ length numbers →
    points ≡ shares_of values numbers → AreShares values points
dealt-shares values numbers points h e = record {
  slopes = take (length values) numbers;
  paired = length-take-le (length values) numbers h;
  shares = rw (
    e,
    pairwise-front (λ v s. point_of v s One) values numbers h,
    pairwise-front (λ v s. point_of v s Two) values numbers h,
    pairwise-front (λ v s. point_of v s Three) values numbers h,
  ) refl;
}

pub dealt-lengths : (values numbers : List ℕ) (points : Trio (List ℕ)) (n : ℕ) → n ≡ length values → length values ≤ length numbers →
    points ≡ shares_of values numbers → HasLengths points n
dealt-lengths values numbers points n e h f = rw (f, e) (record {
  one = length-points values numbers One h;
  two = length-points values numbers Two h;
  three = length-points values numbers Three h;
})
