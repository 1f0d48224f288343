-- Three servers are a network, in which each is the peer of another on one of two sides.
use Rattle.std.proofs.Common.{◌≡◌, ◌≢◌, ◌≤◌, ◌<◌, ◌+◌, ◌==◌, ℕ, true, false, true≢false, cond, refl, sym, ap, subst, ◌∙◌, inl, inr, arith}
use Rattle.std.proofs.lemmas.Bool.{and_from, and_parts, cases_Bool, false_from_ne_true, not-true, not_from_false}
use Rattle.std.specs.Prelude.{count_by, List}
use Rattle.beet_field.specs.declared.point.Point.{Point}
use Rattle.beet_field.specs.declared.point.Point.TheVariants.{One, Two, Three}
use Rattle.beet_round.specs.Sides.{peer}
use Rattle.beet_round.specs.declared.sides.Side.{Side}
use Rattle.beet_round.specs.declared.sides.Side.TheVariants.{Low, High}
use Rattle.beet_delivery.specs.Events.{Delivered, Triple, both_in, passed, same, three}
use Rattle.beet_delivery.specs.Networks as networks
use Rattle.beet_delivery.proofs.NetworkFacts.{IsNetwork, WasSent, is_at}
use Rattle.beet_delivery.proofs.NetworkFacts as among

-- the six messages of a round, by sender and receiver
abbrev pub triples_of : ℕ → List Triple
triples_of = networks.triples_of three

pub same_is : (a b : Point) → same a b ≡ true → a ≡ b
same_is One One e = refl
same_is Two Two e = refl
same_is Three Three e = refl
same_is One Two e = absurd (true≢false (sym e))
same_is One Three e = absurd (true≢false (sym e))
same_is Two One e = absurd (true≢false (sym e))
same_is Two Three e = absurd (true≢false (sym e))
same_is Three One e = absurd (true≢false (sym e))
same_is Three Two e = absurd (true≢false (sym e))

pub same_self : (a : Point) → same a a ≡ true
same_self One = refl
same_self Two = refl
same_self Three = refl

pub same_not : (a b : Point) → a ≢ b → same a b ≡ false
same_not a b ne = false_from_ne_true (same a b) (λ e. ne (same_is a b e))

pub not_same : (a b : Point) → same a b ≡ false → a ≢ b
not_same a b other e = true≢false (sym (subst (λ c. same a c ≡ true) e (same_self a)) ∙ other)

pub peer_other : (s : Point) (side : Side) → same (peer s side) s ≡ false
peer_other One Low = refl
peer_other One High = refl
peer_other Two Low = refl
peer_other Two High = refl
peer_other Three Low = refl
peer_other Three High = refl

-- another server is the peer on one of the two sides
pub side_of : (s other : Point) → same other s ≡ false → (side : Side) × (peer s side ≡ other)
side_of One One e = absurd (true≢false e)
side_of One Two e = (Low, refl)
side_of One Three e = (High, refl)
side_of Two One e = (Low, refl)
side_of Two Two e = absurd (true≢false e)
side_of Two Three e = (High, refl)
side_of Three One e = (Low, refl)
side_of Three Two e = (High, refl)
side_of Three Three e = absurd (true≢false e)

pub both_from_sides : (x : Delivered) (s : Point) (t : ℕ) → ((side : Side) → x (peer s side) s t ≡ true) → both_in x s t ≡ true
both_from_sides x s t all = and_from (x (peer s Low) s t) (x (peer s High) s t) (all Low) (all High)

side_from_both : (x : Delivered) (s : Point) (t : ℕ) → both_in x s t ≡ true → (side : Side) → x (peer s side) s t ≡ true
side_from_both x s t h Low = (and_parts (x (peer s Low) s t) (x (peer s High) s t) h).0
side_from_both x s t h High = (and_parts (x (peer s Low) s t) (x (peer s High) s t) h).1

once : (f g : Point) (k t : ℕ) → same f g ≡ false
    → count_by (is_at three (record { from = f; to = g; round = k })) (triples_of t) ≡ cond (t == k) 1 0
once One One k t e = absurd (true≢false e)
once Two Two k t e = absurd (true≢false e)
once Three Three k t e = absurd (true≢false e)
once One Two k t e = omega arith
once One Three k t e = omega arith
once Two One k t e = omega arith
once Two Three k t e = omega arith
once Three One k t e = omega arith
once Three Two k t e = omega arith

pub three-is : IsNetwork three
three-is = record {
  same_is = same_is;
  same_self = same_self;
  back = λ a b may. not_from_false (same b a) (same_not b a (λ e. not_same a b (not-true (same a b) may) (sym e)));
  hears = λ x s t all. both_from_sides x s t (λ side. all (peer s side) (not_from_false (same (peer s side) s) (peer_other s side)));
  heard = λ x s t h j may.
      let side = side_of s j (not-true (same j s) may) in
      subst (λ (k : Point). x k s t ≡ true) side.1 (side_from_both x s t h side.0);
  once = λ e t may. once e.from e.to e.round t (not-true (same e.from e.to) may);
}

-- both messages of each passed round are in
pub passed_in : (rounds : ℕ) (x : Delivered) (s : Point) (t : ℕ) → t < passed rounds x s → (side : Side) → x (peer s side) s t ≡ true
passed_in rounds x s t lt side =
    among.passed_in three-is rounds x s t lt (peer s side) (not_from_false (same (peer s side) s) (peer_other s side))

-- and no greater number of rounds has both
pub passed_largest : (rounds : ℕ) (x : Delivered) (s : Point) (t : ℕ) → t ≤ rounds
    → ((r : ℕ) → r < t → (side : Side) → x (peer s side) s r ≡ true) → t ≤ passed rounds x s
passed_largest rounds x s t le all =
    among.passed_largest three-is rounds x s t le (λ r lt. three-is.heard x s r (both_from_sides x s r (all r lt)))

-- no two servers are more than one round apart
pub one_apart : (rounds : ℕ) (x : Delivered) → WasSent three rounds x → (s other : Point) → passed rounds x s ≤ passed rounds x other + 1
one_apart rounds x was s other = elim (cases_Bool (same other s)) [
  | inl e ↦
      let q : passed rounds x other ≡ passed rounds x s = ap (passed rounds x) (same_is other s e) in
      omega (arith, q)
  | inr e ↦ among.one_apart three-is rounds x was s other (not_from_false (same other s) e)
]
