-- Marks of delivered messages.
use Rattle.std.proofs.Common.{◌≡◌, ◌≢◌, ℕ, ◌+◌, ◌*◌, ◌-◌, ◌<◌, ◌≤◌, List, length, Option, Some, None, Bool, true, false}
use Rattle.std.proofs.Common.{true≢false, inl, inr, arith, refl, sym, ◌∙◌, ap, ◌==◌, ◌&&◌, ◌||◌}
use Rattle.std.specs.Prelude.{slice_index_or, slice_set, replicate}
use Rattle.std.proofs.lemmas.Bool.{cases_eq, cases_lt, and_parts, or_cases, or_left, or_right, eq-eqb, eqb-true}
use Rattle.std.proofs.lemmas.List.{get_or-set_same, get_or-set_other, get_or-replicate, length-replicate}
use Rattle.std.proofs.Math.ListN.{get_or-eq_default}
use Rattle.beet_field.proofs.Points.{point_low, point_high}
use Rattle.beet_field.specs.Point.{number_of}
use Rattle.beet_field.specs.declared.point.Point.{Point}
use Rattle.beet_field.specs.declared.point.Point.TheVariants.{One, Two, Three}
use Rattle.beet_round.specs.Sides.{peer, place_of, side_of}
use Rattle.beet_round.specs.declared.sides.Side.{Side}
use Rattle.beet_round.specs.declared.sides.Side.TheVariants.{Low, High}
use Rattle.beet_delivery.specs.Events.{Triple, nothing, same, with_triple}
use Rattle.beet_delivery.proofs.NetworkFacts.{bool_same}
use Rattle.beet_delivery.proofs.ThreeServers.{same_is, same_self}
use Rattle.beet_round.proofs.SideFacts.{side_of-peer}
use Rattle.beet_world.specs.Marks.{mark_at, marked_to, set_of, unmarked}

-- with the mark of a message
abbrev pub with_mark : List Bool → Point → Side → ℕ → List Bool
with_mark marks from side round = slice_set marks (mark_at from side round) true

-- what a mark's place tells: the round, the sender and the side
one_place : (f g a b r t : ℕ) → 1 ≤ f → f ≤ 3 → 1 ≤ g → g ≤ 3 → a < 2 → b < 2 → 6 * r + (2 * (f - 1) + a) ≡ 6 * t + (2 * (g - 1) + b) →
    (r ≡ t) × (f ≡ g) × (a ≡ b)
one_place f g a b r t f1 f3 g1 g3 a2 b2 e = (omega arith, omega arith, omega arith)

side_small : (s : Side) → place_of s < 2
side_small Low = omega arith
side_small High = omega arith

-- a place within so many rounds
pub place-within : (from : Point) (side : Side) (round rounds : ℕ) → round < rounds → mark_at from side round < 6 * rounds
place-within from side round rounds h = omega (arith, point_low from, point_high from, side_small side)

point_is : (s t : Point) → number_of s ≡ number_of t → s ≡ t
point_is One One e = refl
point_is Two Two e = refl
point_is Three Three e = refl
point_is One Two e = absurd (omega (arith, e))
point_is One Three e = absurd (omega (arith, e))
point_is Two One e = absurd (omega (arith, e))
point_is Two Three e = absurd (omega (arith, e))
point_is Three One e = absurd (omega (arith, e))
point_is Three Two e = absurd (omega (arith, e))

side_is : (s t : Side) → place_of s ≡ place_of t → s ≡ t
side_is Low Low e = refl
side_is High High e = refl
side_is Low High e = absurd (omega (arith, e))
side_is High Low e = absurd (omega (arith, e))

-- the other server of the side that another names
pub peer-side : (f t : Point) (s : Side) → side_of f t ≡ Some s → peer f s ≡ t
peer-side One One s e = cc e
peer-side One Two Low e = refl
peer-side One Two High e = cc e
peer-side One Three Low e = cc e
peer-side One Three High e = refl
peer-side Two One Low e = refl
peer-side Two One High e = cc e
peer-side Two Two s e = cc e
peer-side Two Three Low e = cc e
peer-side Two Three High e = refl
peer-side Three One Low e = refl
peer-side Three One High e = cc e
peer-side Three Two Low e = cc e
peer-side Three Two High e = refl
peer-side Three Three s e = cc e

module _ (marks : List Bool) (from : Point) (side : Side) (round : ℕ) (within : mark_at from side round < length marks) where
  e : Triple
  e = record { from = from; to = peer from side; round = round }

  -- the mark at the place of the message, and another
  here : (f : Point) (s : Side) (r : ℕ) → mark_at f s r ≡ mark_at from side round →
      slice_index_or (with_mark marks from side round) (mark_at f s r) false ≡ true
  here f s r same = ap (λ k. slice_index_or (with_mark marks from side round) k false) same
      ∙ get_or-set_same marks (mark_at from side round) true false within

  there : (f : Point) (s : Side) (r : ℕ) → mark_at f s r ≢ mark_at from side round →
      slice_index_or (with_mark marks from side round) (mark_at f s r) false ≡ slice_index_or marks (mark_at f s r) false
  there f s r other = get_or-set_other marks (mark_at from side round) (mark_at f s r) true false other

  is_it : (f t : Point) (s : Side) (r : ℕ) → side_of f t ≡ Some s → mark_at f s r ≡ mark_at from side round →
      (same f from && same t (peer from side) && (r == round)) ≡ true
  is_it f t s r named place =
      let p = one_place (number_of f) (number_of from) (place_of s) (place_of side) r round (point_low f) (point_high f)
      (point_low from) (point_high from) (side_small s) (side_small side) place in
      let f' : f ≡ from = point_is f from p.1 in
      let s' : s ≡ side = side_is s side p.2 in
      let t' : t ≡ peer from side = sym (peer-side f t s named) ∙ (λ i. peer (f' i) (s' i)) in
      rw (f', t', p.0, same_self from, same_self (peer from side)) (eq-eqb round round refl)

  to_set : (f t : Point) (s : Option Side) (r : ℕ) → side_of f t ≡ s → marked_to (with_mark marks from side round) f s r ≡ true →
      (marked_to marks f s r || (same f from && same t (peer from side) && (r == round))) ≡ true
  to_set f t None r named there_is = absurd (true≢false (sym there_is))
  to_set f t (Some s) r named there_is = elim (cases_eq (mark_at f s r) (mark_at from side round)) [
    | inl one ↦ or_right (slice_index_or marks (mark_at f s r) false) _ (is_it f t s r named one)
    | inr other ↦ or_left _ _ (sym (there f s r other) ∙ there_is)
  ]

  from_set : (f t : Point) (s : Option Side) (r : ℕ) → side_of f t ≡ s →
      (marked_to marks f s r || (same f from && same t (peer from side) && (r == round))) ≡ true →
      marked_to (with_mark marks from side round) f s r ≡ true
  from_set f t None r named there_is =
      let both = and_parts (same f from) (same t (peer from side))
      (and_parts (same f from && same t (peer from side)) (r == round) there_is).0 in
      let f' : f ≡ from = same_is f from both.0 in
      let t' : t ≡ peer from side = same_is t (peer from side) both.1 in
      let moved : side_of f t ≡ side_of from (peer from side) = λ i. side_of (f' i) (t' i) in
      cc (sym named, moved, side_of-peer from side)
  from_set f t (Some s) r named there_is = elim (cases_eq (mark_at f s r) (mark_at from side round)) [
    | inl one ↦ here f s r one
    | inr other ↦ there f s r other ∙ elim (or_cases (slice_index_or marks (mark_at f s r) false) _ there_is) [
      | inl old ↦ old
      | inr new ↦
          let all = and_parts (same f from && same t (peer from side)) (r == round) new in
          let both = and_parts (same f from) (same t (peer from side)) all.0 in
          let f' : f ≡ from = same_is f from both.0 in
          let t' : t ≡ peer from side = same_is t (peer from side) both.1 in
          let r' : r ≡ round = eqb-true r round all.1 in
          let moved : side_of f t ≡ side_of from (peer from side) = λ i. side_of (f' i) (t' i) in
          let s' : s ≡ side = cc (sym named, moved, side_of-peer from side) in
          absurd (other (λ i. mark_at (f' i) (s' i) (r' i)))
    ]
  ]

  -- one mark more is one message more
  pub set-with_mark : set_of (with_mark marks from side round)
      ≡ with_triple (set_of marks) (record { from = from; to = peer from side; round = round })
  set-with_mark = λ i f t r. bool_same
      (marked_to (with_mark marks from side round) f (side_of f t) r)
      (marked_to marks f (side_of f t) r || (same f from && same t (peer from side) && (r == round)))
      (to_set f t (side_of f t) r refl) (from_set f t (side_of f t) r refl) i

-- no mark, no message
no_mark : (rounds : ℕ) (f : Point) (s : Option Side) (r : ℕ) → marked_to (unmarked rounds) f s r ≡ false
no_mark rounds f None r = refl
no_mark rounds f (Some s) r = elim (cases_lt (mark_at f s r) (6 * rounds)) [
  | inl below ↦ get_or-replicate (6 * rounds) (mark_at f s r) false false below
  | inr past ↦ get_or-eq_default (replicate (6 * rounds) false) false (omega (arith, length-replicate (6 * rounds) false, past))
]

pub set-unmarked : (rounds : ℕ) → set_of (unmarked rounds) ≡ nothing
set-unmarked rounds = λ i f t r. no_mark rounds f (side_of f t) r i
