-- Undelivered messages are of two rounds at most: that of the server that is behind, and the next.
use Rattle.std.proofs.Common.{◌≡◌, ◌≤◌, ◌<◌, ◌+◌, not, ℕ, zero, suc, Bool, true, false, true≢false, List, [], ◌∷◌, cond}
use Rattle.std.proofs.Common.{sym, refl, ap, subst, ◌∙◌, inl, inr, arith, map}
use Rattle.std.specs.Prelude.{count_by, min}
use Rattle.std.specs.List.{flat_map}
use Rattle.std.proofs.lemmas.Bool.{and_parts, cases_lt, false_from_ne_true, not-true}
use Rattle.std.proofs.lemmas.List.Sums.{length-filter, sum_by-append, sum_by-cons}
use Rattle.beet_delivery.specs.Networks.{Delivered, Network, Triple, has, is_missing, is_sent, of_round, passed, undelivered}
use Rattle.beet_delivery.proofs.Counting.{from_round, round_more}
use Rattle.beet_delivery.proofs.NetworkFacts.{IsNetwork, passed_in, sent_parts}

-- the lesser of two numbers is one of them
pub lesser_is : (Of : ℕ → Type 0) (a b : ℕ) → Of a → Of b → Of (min a b)
lesser_is Of a b of_a of_b = elim (cases_lt a b) [
  | inl lt ↦ let e : a ≡ min a b = omega (arith, lt) in subst Of e of_a
  | inr le ↦ let e : b ≡ min a b = omega (arith, le) in subst Of e of_b
]

-- none of the messages of one server in a round passes a test, if none does whoever gets it
none_to : {P : Type 0} (p : Triple P → Bool) (from : P) (t : ℕ) → ((to : P) → p (record { from = from; to = to; round = t }) ≡ false) →
    (tos : List P) → count_by p (map (λ to. record { from = from; to = to; round = t }) tos) ≡ 0
none_to p from t none [] = refl
none_to p from t none (to ∷ tos) =
    let rest = none_to p from t none tos in
    let out : cond {A = ℕ} (p (record { from = from; to = to; round = t })) 1 0 ≡ 0 = ap (λ b. cond b 1 0) (none to) in
    omega (
      arith,
      sum_by-cons (λ e. cond (p e) 1 0) (record { from = from; to = to; round = t })
          (map (λ to. record { from = from; to = to; round = t }) tos),
      rest,
      out,
    )

module _ {P : Type 0} (net : Network P) (p : Triple P → Bool) where
  none_of_round : (t : ℕ) → ((from to : P) → p (record { from = from; to = to; round = t }) ≡ false) → of_round net p t ≡ 0
  none_of_round t none = by_list net.servers where
    by_list : (froms : List P) →
        count_by p (flat_map (λ from. map (λ to. record { from = from; to = to; round = t }) (net.peers from)) froms) ≡ 0
    by_list [] = refl
    by_list (from ∷ froms) =
        sum_by-append (λ e. cond (p e) 1 0) (map (λ to. record { from = from; to = to; round = t }) (net.peers from))
        (flat_map (λ from. map (λ to. record { from = from; to = to; round = t }) (net.peers from)) froms)
        ∙ (λ i. none_to p from t (none from) (net.peers from) i + by_list froms i)

  none_from : (n a : ℕ) → ((t : ℕ) → a ≤ t → of_round net p t ≡ 0) → from_round net p a n ≡ 0
  none_from zero a none = refl
  none_from (suc n) a none =
      omega (arith, round_more net p n a, none a (omega arith), none_from n (a + 1) (λ t le. none t (omega (arith, le))))

  -- all that pass are of two rounds that follow each other
  module _ (rounds m : ℕ) (none : (t : ℕ) → (m ≤ t → t ≤ m + 1 → t < rounds → ⊥) → of_round net p t ≡ 0) where
    second : (n : ℕ) → m + 1 + n ≡ rounds → from_round net p (m + 1) n ≡ of_round net p (m + 1)
    second zero e = sym (none (m + 1) (λ low high lt. omega (arith, e, lt)))
    second (suc n) e =
        omega (arith, round_more net p n (m + 1), none_from n (m + 1 + 1) (λ t le. none t (λ low high lt. omega (arith, le, high))))

    of_two : (n a : ℕ) → a ≤ m → m ≤ rounds → a + n ≡ rounds → from_round net p a n ≡ of_round net p m + of_round net p (m + 1)
    of_two zero a low most e =
        let first = none m (λ l h lt. omega (arith, low, e, lt)) in
        let next = none (m + 1) (λ l h lt. omega (arith, low, e, lt)) in
        omega (arith, first, next)
    of_two (suc n) a low most e = elim (cases_lt a m) [
      | inl lt ↦
          omega (
            arith,
            round_more net p n a,
            none a (λ l h k. omega (arith, l, lt)),
            of_two n (a + 1) (omega (arith, lt)) most (omega (arith, e)),
          )
      | inr le ↦
          let here : a ≡ m = omega (arith, low, le) in
          round_more net p n a
          ∙ (λ i. of_round net p (here i) + from_round net p (here i + 1) n)
          ∙ ap (λ k. of_round net p m + k) (second n (omega (arith, e, here)))
    ]

module _ {P : Type 0} {net : Network P} (law : IsNetwork net) (rounds : ℕ) (x : Delivered P) where
  -- if no server has passed fewer rounds, and none that sends has passed two more, what is undelivered is of that round
  -- or of the next
  pub undelivered_two : (m : ℕ) → m ≤ rounds →
      ((from to : P) → net.sends from to ≡ true → (m ≤ passed net rounds x to) × (passed net rounds x from ≤ m + 1)) →
      undelivered net rounds x ≡ of_round net (is_missing net rounds x) m + of_round net (is_missing net rounds x) (m + 1)
  undelivered_two m most near =
      length-filter (is_missing net rounds x) _
      ∙ of_two net (is_missing net rounds x) rounds m none rounds 0 (omega arith) most (omega arith)
    where
      is_near : (e : Triple P) → is_missing net rounds x e ≡ true → (m ≤ e.round) × (e.round ≤ m + 1) × (e.round < rounds)
      is_near e h =
          let q = and_parts (is_sent net rounds x e) (not (has x e)) h in
          let s = sent_parts law rounds x e q.0 in
          let n = near e.from e.to s.0 in (
            elim (cases_lt e.round m) [
              | inl lt ↦ absurd (true≢false (sym (passed_in law rounds x e.to e.round (omega (arith, lt, n.0)) e.from s.0)
                  ∙ not-true (has x e) q.1))
              | inr le ↦ le
            ],
            omega (arith, s.1.1, n.1),
            s.1.0,
          )

      none : (t : ℕ) → (m ≤ t → t ≤ m + 1 → t < rounds → ⊥) → of_round net (is_missing net rounds x) t ≡ 0
      none t out = none_of_round net (is_missing net rounds x) t (λ from to. false_from_ne_true _ (λ h.
          let n = is_near (record { from = from; to = to; round = t }) h in out n.0 n.1 n.2))
