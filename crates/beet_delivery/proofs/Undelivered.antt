-- Where nothing that is sent is undelivered, each server has passed all rounds.
use Rattle.std.proofs.Common.{◌≡◌, ◌≢◌, ◌≤◌, ◌<◌, not, nat_lt, ℕ, zero, suc, Bool, true, false, length, cond, sym}
use Rattle.std.proofs.Common.{ap, ◌∙◌, inl, inr, arith}
use Rattle.std.proofs.lemmas.Bool.{and_parts, and_from, and_left, and_right, both_ways, not_from_false, not_from_true}
use Rattle.std.proofs.lemmas.Bool.{cond_both, cases_Bool, cases_lt, false_from_ne_true, lt-ltb, ltb-true}
use Rattle.std.proofs.lemmas.List.Sums.{length-filter, sum_by-le-sum_by}
use Rattle.std.specs.Prelude.{filter}
use Rattle.beet_delivery.specs.Networks.{Network, Triple, Delivered, has, passed, is_missing, is_sent, all_triples, undelivered}
use Rattle.beet_delivery.specs.Networks.{all_delivered}
use Rattle.beet_delivery.proofs.NetworkFacts.{IsNetwork, WasSent, is_at, passed_in, passed_largest, passed_most}
use Rattle.beet_delivery.proofs.NetworkFacts.{sent_from, sent_parts, triple_is}
use Rattle.beet_delivery.proofs.Counting.{count_none, one_there}

module _ {P : Type 0} {net : Network P} (law : IsNetwork net) (rounds : ℕ) where
  -- a message of the run fails a test that none passes
  none_at : (p : Triple P → Bool) → length (filter p (all_triples net rounds)) ≡ 0 → (e : Triple P) → net.sends e.from e.to ≡ true
      → e.round < rounds → p e ≡ false
  none_at p none e may lt = false_from_ne_true (p e) (λ passes.
      let at : (d : Triple P) → cond (is_at net e d) 1 0 ≤ cond (p d) 1 0 =
      λ d. cond_both (is_at net e d) 1 0 (λ m. m ≤ cond (p d) 1 0)
      (λ is. let one : cond {A = ℕ} (p d) 1 0 ≡ 1 = ap (λ b. cond b 1 0) (ap p (triple_is law d e is) ∙ passes) in omega (arith, one))
      (λ _. omega arith) in
      omega (
        arith,
        none,
        length-filter p (all_triples net rounds),
        one_there law e may rounds lt,
        sum_by-le-sum_by (λ d. cond (is_at net e d) 1 0) (λ d. cond (p d) 1 0) (all_triples net rounds) at,
      ))

  -- where nothing is undelivered, each message that is sent is in the set
  sent_in : (x : Delivered P) → undelivered net rounds x ≡ 0 → (e : Triple P) → is_sent net rounds x e ≡ true → has x e ≡ true
  sent_in x h e sent =
      let p = sent_parts law rounds x e sent in
      elim (cases_Bool (has x e)) [
        | inl w ↦ w
        | inr w ↦ absurd (both_ways (is_missing net rounds x e)
            (none_at (is_missing net rounds x) h e p.0 p.1.0)
            (and_from (is_sent net rounds x e) (not (has x e)) sent (not_from_false (has x e) w)))
      ]

  -- and where each message that is sent is in the set, each server has passed all rounds
  reaches_all : (x : Delivered P) → ((e : Triple P) → is_sent net rounds x e ≡ true → has x e ≡ true)
      → (t : ℕ) → t ≤ rounds → (s : P) → t ≤ passed net rounds x s
  reaches_all x every zero le s = omega arith
  reaches_all x every (suc t) le s =
      passed_largest law rounds x s (suc t) le
      (λ r lt j may.
      let there = reaches_all x every t (omega arith) j in
      every (record { from = j; to = s; round = r })
      (sent_from law rounds x (record { from = j; to = s; round = r }) may (omega arith) (omega (arith, there))))

  pub all_passed : (x : Delivered P) → ((e : Triple P) → is_sent net rounds x e ≡ true → has x e ≡ true)
      → (s : P) → passed net rounds x s ≡ rounds
  all_passed x every s =
      let low = reaches_all x every rounds (omega arith) s in
      let high = passed_most law rounds x s in
      omega (arith, low, high)

  pub passed_all : (x : Delivered P) → undelivered net rounds x ≡ 0 → (s : P) → passed net rounds x s ≡ rounds
  passed_all x h = all_passed x (sent_in x h)

  -- where each server has passed all rounds, all messages are in the set
  all_there : (x : Delivered P) → ((s : P) → passed net rounds x s ≡ rounds)
      → (from to : P) (t : ℕ) → net.sends from to ≡ true → t < rounds → x from to t ≡ true
  all_there x every from to t may lt =
      let all = every to in
      passed_in law rounds x to t (omega (arith, all)) from may

  pub none_undelivered : (x : Delivered P) → ((s : P) → passed net rounds x s ≡ rounds) → undelivered net rounds x ≡ 0
  none_undelivered x every =
      length-filter (is_missing net rounds x) (all_triples net rounds)
      ∙ count_none (is_missing net rounds x)
      (λ e. elim (cases_Bool (is_sent net rounds x e)) [
        | inl sent ↦
            let p = sent_parts law rounds x e sent in
            let there = all_there x every e.from e.to e.round p.0 p.1.0 in
            and_right (is_sent net rounds x e) (not (has x e)) (not_from_true (has x e) there)
        | inr unsent ↦ and_left (is_sent net rounds x e) (not (has x e)) unsent
      ])
      (all_triples net rounds)

  pub some_undelivered : (x : Delivered P) (s : P) → passed net rounds x s ≢ rounds → 1 ≤ undelivered net rounds x
  some_undelivered x s waits = elim (cases_lt 0 (undelivered net rounds x)) [
    | inl lt ↦ omega (arith, lt)
    | inr le ↦
        let none : undelivered net rounds x ≡ 0 = omega (arith, le) in
        absurd (waits (passed_all x none s))
  ]

  -- and no others, where each was sent
  pub all_and_no_others : (x : Delivered P) → WasSent net rounds x → ((s : P) → passed net rounds x s ≡ rounds)
      → (from to : P) (t : ℕ) → x from to t ≡ all_delivered net rounds from to t
  all_and_no_others x was every from to t = elim (cases_Bool (x from to t)) [
    | inl w ↦
        let p = sent_parts law rounds x (record { from = from; to = to; round = t }) (was (record { from = from; to = to; round = t }) w) in
        w ∙ sym (and_from (net.sends from to) (nat_lt t rounds) p.0 (lt-ltb t rounds p.1.0))
    | inr w ↦ w ∙ sym (false_from_ne_true (all_delivered net rounds from to t) (λ all.
        let q = and_parts (net.sends from to) (nat_lt t rounds) all in
        both_ways (x from to t) w (all_there x every from to t q.0 (ltb-true t rounds q.1))))
  ]
