-- How often a message stands in a list, and what a delivery changes in the number of undelivered messages.
use Rattle.std.proofs.Common.{◌≡◌, ◌≢◌, ◌≤◌, ◌<◌, ◌+◌, ◌==◌, ◌&&◌, ◌||◌, not, ℕ, zero, suc, Bool, true, false}
use Rattle.std.proofs.Common.{true≢false, List, [], ◌∷◌, cond, sym, refl, ap, subst, ◌∙◌, inl, inr, arith}
use Rattle.std.proofs.lemmas.Bool.{cases_lt, eq-eqb, ne_eqb}
use Rattle.std.proofs.lemmas.List.Sums.{length-filter, sum_by-append, sum_by-cons}
use Rattle.std.specs.List.{range_with_len, flat_map, sum_by}
use Rattle.std.specs.Prelude.{count_by}
use Rattle.beet_delivery.specs.Networks.{Network, Triple, Delivered, has, with_triple, is_missing, is_sent, of_round, triples_of}
use Rattle.beet_delivery.specs.Networks.{all_triples, undelivered}
use Rattle.beet_delivery.proofs.NetworkFacts.{IsNetwork, WasSent, is_at, sent_grows, sent_parts, triple_is, within_with}

-- terms of which two together are as the other two
sums_same : {X : Type 0} (f g h k : X → ℕ) → ((x : X) → f x + g x ≡ h x + k x) → (xs : List X)
    → sum_by f xs + sum_by g xs ≡ sum_by h xs + sum_by k xs
sums_same f g h k each_same [] = refl
sums_same f g h k each_same (x ∷ xs) =
    let here = each_same x in
    let rest = sums_same f g h k each_same xs in
    omega (arith, here, rest, sum_by-cons f x xs, sum_by-cons g x xs, sum_by-cons h x xs, sum_by-cons k x xs)

-- a test that nothing passes counts nothing
pub count_none : {X : Type 0} (p : X → Bool) → ((x : X) → p x ≡ false) → (xs : List X) → count_by p xs ≡ 0
count_none p none [] = refl
count_none p none (x ∷ xs) =
    let rest = count_none p none xs in
    let out : cond {A = ℕ} (p x) 1 0 ≡ 0 = ap (λ b. cond b 1 0) (none x) in
    omega (arith, sum_by-cons (λ y. cond (p y) 1 0) x xs, rest, out)

-- how many messages of so many rounds, from one on, pass a test
abbrev pub from_round : {P : Type 0} → Network P → (Triple P → Bool) → ℕ → ℕ → ℕ
from_round net p a n = count_by p (flat_map (triples_of net) (range_with_len a n))

-- a round more
pub round_more : {P : Type 0} (net : Network P) (p : Triple P → Bool) (n a : ℕ) →
    from_round net p a (suc n) ≡ of_round net p a + from_round net p (a + 1) n
round_more net p n a = sum_by-append (λ d. cond (p d) 1 0) (triples_of net a) (flat_map (triples_of net) (range_with_len (a + 1) n))

module _ {P : Type 0} {net : Network P} (law : IsNetwork net) where
  -- a message stands once among those of all rounds
  module _ (e : Triple P) (may : net.sends e.from e.to ≡ true) where
    abbrev it_from : ℕ → ℕ → ℕ
    it_from a n = from_round net (is_at net e) a n

    one_more : (n a : ℕ) → it_from a (suc n) ≡ cond (a == e.round) 1 0 + it_from (a + 1) n
    one_more n a = round_more net (is_at net e) n a ∙ ap (λ m. m + it_from (a + 1) n) (law.once e a may)

    one_less : (n a : ℕ) → a ≢ e.round → it_from a (suc n) ≡ it_from (a + 1) n
    one_less n a other =
        let out : cond {A = ℕ} (a == e.round) 1 0 ≡ 0 = ap (λ b. cond b 1 0) (ne_eqb a e.round other) in
        omega (arith, one_more n a, out)

    none_later : (n a : ℕ) → e.round < a → it_from a n ≡ 0
    none_later zero a lt = refl
    none_later (suc n) a lt = one_less n a (λ k. omega (arith, k, lt)) ∙ none_later n (a + 1) (omega (arith, lt))

    once_from : (n a : ℕ) → a ≤ e.round → e.round < a + n → it_from a n ≡ 1
    once_from zero a low high = absurd (omega (arith, low, high))
    once_from (suc n) a low high = elim (cases_lt a e.round) [
      | inl lt ↦ one_less n a (λ k. omega (arith, k, lt)) ∙ once_from n (a + 1) (omega (arith, lt)) (omega (arith, high))
      | inr le ↦
          let here : cond {A = ℕ} (a == e.round) 1 0 ≡ 1 = ap (λ b. cond b 1 0) (eq-eqb a e.round (omega (arith, low, le))) in
          omega (arith, one_more n a, here, none_later n (a + 1) (omega (arith, le)))
    ]

    pub one_there : (rounds : ℕ) → e.round < rounds → count_by (is_at net e) (all_triples net rounds) ≡ 1
    one_there rounds lt = once_from rounds 0 (omega arith) (omega (arith, lt))

  -- the tests at a message, before and after one more is delivered
  same_counts : (rounds : ℕ) (x : Delivered P) (e : Triple P) → WasSent net rounds x → is_sent net rounds x e ≡ true
      → has x e ≡ false → (d : Triple P)
      → cond (is_missing net rounds (with_triple net x e) d) 1 0 + cond (is_at net e d) 1 0
      ≡ cond (is_missing net rounds x d) 1 0
      + cond (is_sent net rounds (with_triple net x e) d && not (is_sent net rounds x d)) 1 0
  same_counts rounds x e was sent new d =
      by_cases (is_sent net rounds x d) (is_sent net rounds (with_triple net x e) d) (has x d) (is_at net e d)
      (sent_grows law rounds x (with_triple net x e) d (within_with law x e))
      (was d)
      (λ i. subst (λ (k : Triple P). is_sent net rounds x k ≡ true) (sym (triple_is law d e i)) sent)
      (λ i. subst (λ (k : Triple P). has x k ≡ false) (sym (triple_is law d e i)) new)
    where
      by_cases : (before now there is : Bool) → (before ≡ true → now ≡ true) → (there ≡ true → before ≡ true) → (is ≡ true → before ≡ true)
          → (is ≡ true → there ≡ false)
          → cond (now && not (there || is)) 1 0 + cond is 1 0 ≡ cond (before && not there) 1 0 + cond (now && not before) 1 0
      by_cases true true true false g w s n = refl
      by_cases true true false true g w s n = refl
      by_cases true true false false g w s n = refl
      by_cases true true true true g w s n = absurd (true≢false (n refl))
      by_cases true false there is g w s n = absurd (true≢false (sym (g refl)))
      by_cases false now true is g w s n = absurd (true≢false (sym (w refl)))
      by_cases false now false true g w s n = absurd (true≢false (sym (s refl)))
      by_cases false true false false g w s n = refl
      by_cases false false false false g w s n = refl

  -- a delivery of what was sent takes one away and adds what is sent by it
  pub counts_down : (rounds : ℕ) (x : Delivered P) (e : Triple P) → WasSent net rounds x → is_sent net rounds x e ≡ true → has x e ≡ false
      → undelivered net rounds (with_triple net x e) + 1
      ≡ undelivered net rounds x
      + count_by (λ d. is_sent net rounds (with_triple net x e) d && not (is_sent net rounds x d)) (all_triples net rounds)
  counts_down rounds x e was sent new =
      let p = sent_parts law rounds x e sent in
      let y : Delivered P = with_triple net x e in
      let all = all_triples net rounds in
      let sum = sums_same (λ d. cond (is_missing net rounds y d) 1 0) (λ d. cond (is_at net e d) 1 0)
      (λ d. cond (is_missing net rounds x d) 1 0) (λ d. cond (is_sent net rounds y d && not (is_sent net rounds x d)) 1 0)
      (same_counts rounds x e was sent new) all in
      (λ i. length-filter (is_missing net rounds y) all i + sym (one_there e p.0 rounds p.1.0) i) ∙ sum
      ∙ ap (λ m. m + count_by (λ d. is_sent net rounds y d && not (is_sent net rounds x d)) all)
      (sym (length-filter (is_missing net rounds x) all))

  -- one fewer where nothing is sent by it
  pub one_fewer : (rounds : ℕ) (x : Delivered P) (e : Triple P) → WasSent net rounds x → is_sent net rounds x e ≡ true → has x e ≡ false
      → ((d : Triple P) → is_sent net rounds (with_triple net x e) d ≡ true → is_sent net rounds x d ≡ true)
      → undelivered net rounds (with_triple net x e) + 1 ≡ undelivered net rounds x
  one_fewer rounds x e was sent new none =
      let down = counts_down rounds x e was sent new in
      let zero_more = count_none (λ d. is_sent net rounds (with_triple net x e) d && not (is_sent net rounds x d))
      (λ d. no_news (is_sent net rounds x d) (is_sent net rounds (with_triple net x e) d) (none d)) (all_triples net rounds) in
      omega (arith, down, zero_more)
    where
      no_news : (before now : Bool) → (now ≡ true → before ≡ true) → (now && not before) ≡ false
      no_news true true h = refl
      no_news true false h = refl
      no_news false true h = absurd (true≢false (sym (h refl)))
      no_news false false h = refl
