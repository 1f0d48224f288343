-- Two servers of five that words name.
use Rattle.std.proofs.Common.{◌≡◌, ◌<◌, ◌≤◌, ℕ, List, Bool, true, false, Option, Some, None, refl, sym, ap, subst, ◌∙◌, arith}
use Rattle.std.specs.Prelude.{MatchOption, bytes_eq, codes, if◌then◌else◌, nat_lt, option_and_then, option_map}
use Rattle.std.proofs.lemmas.Bool.{lt-ltb, ltb-true}
use Rattle.beet_coalition_map.specs.declared.watchers.Watchers.{Watchers}
use Rattle.beet_app.specs.Jobs.{in_order, server_of_five, two_of_five}

of-choice : (one two three four five : Bool) (s : ℕ) →
    (if one then Some 1 else if two then Some 2 else if three then Some 3 else if four then Some 4
    else if five then Some 5 else None) ≡ Some s → (1 ≤ s) × (s ≤ 5)
of-choice true two three four five s e = let is : 1 ≡ s = cc in (omega (arith, is), omega (arith, is))
of-choice false true three four five s e = let is : 2 ≡ s = cc in (omega (arith, is), omega (arith, is))
of-choice false false true four five s e = let is : 3 ≡ s = cc in (omega (arith, is), omega (arith, is))
of-choice false false false true five s e = let is : 4 ≡ s = cc in (omega (arith, is), omega (arith, is))
of-choice false false false false true s e = let is : 5 ≡ s = cc in (omega (arith, is), omega (arith, is))
of-choice false false false false false s e = absurd cc

-- a digit is that of a server
pub within : (text : List ℕ) (s : ℕ) → server_of_five text ≡ Some s → (1 ≤ s) × (s ≤ 5)
within text s e =
    of-choice (bytes_eq text (codes "1")) (bytes_eq text (codes "2")) (bytes_eq text (codes "3")) (bytes_eq text (codes "4"))
    (bytes_eq text (codes "5")) s e

-- two servers of five, the first below the second
pub record AreTwo (two : ℕ × ℕ) : Type 0 where
  pub some : 1 ≤ two.0
  pub less : two.0 < two.1
  pub few : two.1 ≤ 5

ordered : (b : Bool) (one other : ℕ) (two : ℕ × ℕ) → 1 ≤ one → other ≤ 5 → nat_lt one other ≡ b →
    (if b then Some (one, other) else None) ≡ Some two → AreTwo two
ordered true one other two some few lt e =
    let is : (one, other) ≡ two = cc in
    subst AreTwo is (record { some = some; less = ltb-true one other lt; few = few })
ordered false one other two some few lt e = absurd cc

by-digits : (one other : Option ℕ) (two : ℕ × ℕ) → ((s : ℕ) → one ≡ Some s → (1 ≤ s) × (s ≤ 5)) →
    ((s : ℕ) → other ≡ Some s → (1 ≤ s) × (s ≤ 5)) →
    option_and_then (λ a. option_and_then (in_order a) other) one ≡ Some two → AreTwo two
by-digits None other two f g e = absurd cc
by-digits (Some a) None two f g e = absurd cc
by-digits (Some a) (Some b) two f g e = ordered (nat_lt a b) a b two (f a refl).0 (g b refl).1 refl e

pub are-two : (one other : List ℕ) (two : ℕ × ℕ) → two_of_five one other ≡ Some two → AreTwo two
are-two one other two e = by-digits (server_of_five one) (server_of_five other) two (within one) (within other) e

-- two servers are made of two digits exactly if the first is below the second
module _ (one other : List ℕ) (a b : ℕ) (e : Some a ≡ server_of_five one) (f : Some b ≡ server_of_five other) where
  abbrev Made : Option Watchers → Type 0
  Made result = MatchOption result (1 ≤ a → a < b → b ≤ 5 → ⊥) (λ two. (two.a ≡ a) × (two.b ≡ b))

  abbrev in_pair : Option (ℕ × ℕ)
  in_pair = Some (a, b)

  named : two_of_five one other ≡ in_order a b
  named =
      ap (λ x. option_and_then (λ s. option_and_then (in_order s) (server_of_five other)) x) (sym e)
      ∙ ap (λ x. option_and_then (in_order a) x) (sym f)

  refused : (less : Bool) → nat_lt a b ≡ less → (1 ≤ a → a < b → b ≤ 5 → ⊥) →
      None ≡ (if less then in_pair else None)
  refused true lt h = absurd (h (within one a (sym e)).0 (ltb-true a b lt) (within other b (sym f)).1)
  refused false lt h = refl

  judged : (result : Option Watchers) → Made result → option_map (λ two. (two.a, two.b)) result ≡ in_order a b
  judged None h = refused (nat_lt a b) refl h
  judged (Some two) h =
      let less : a < b = rw (h.0, h.1) at two.order in
      (λ i. Some (h.0 i, h.1 i)) ∙ sym (ap (λ (b' : Bool). if b' then in_pair else None) (lt-ltb a b less))

  pub made-so : (result : Option Watchers) → Made result → option_map (λ two. (two.a, two.b)) result ≡ two_of_five one other
  made-so result h = judged result h ∙ sym named
