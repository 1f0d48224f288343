-- What holds of every set of delivered messages, and after every list of events, among servers of any number and name.
use Rattle.std.proofs.Common.{◌≡◌, ◌≤◌, ◌<◌, ◌+◌, ◌==◌, ◌&&◌, ◌||◌, nat_lt, nat_le, ℕ, zero, suc, Bool, true, false}
use Rattle.std.proofs.Common.{true≢false, List, [], ◌∷◌, ◌++◌, cond, sym, refl, ap, subst, ◌∙◌, ◌⊎◌, inl, inr, ⊎_elim}
use Rattle.std.proofs.Common.{arith}
use Rattle.std.proofs.lemmas.Bool.{and_parts, and_from, or_cases, or_left, or_right, both_ways, cond-true, cond-false}
use Rattle.std.proofs.lemmas.Bool.{cond_both, cases_lt, ltb-true, leb-true, eqb-true, lt-ltb, le-leb, eq-eqb}
use Rattle.std.specs.Prelude.{count_by}
use Rattle.beet_delivery.specs.Networks.{Network, Triple, Delivered, nothing, has, with_triple, all_in, first_rounds}
use Rattle.beet_delivery.specs.Networks.{passed, is_sent, deliver, after_from, after, triples_of}

-- whether a message is this one
abbrev pub is_at : {P : Type 0} → Network P → Triple P → Triple P → Bool
is_at net e d = net.same d.from e.from && net.same d.to e.to && (d.round == e.round)

-- one set is within another
abbrev pub Within : {P : Type 0} → Delivered P → Delivered P → Type 0
Within {P} x y = (from to : P) (t : ℕ) → x from to t ≡ true → y from to t ≡ true

-- each message of the set was sent
abbrev pub WasSent : {P : Type 0} → Network P → ℕ → Delivered P → Type 0
WasSent {P} net rounds x = (e : Triple P) → has x e ≡ true → is_sent net rounds x e ≡ true

-- what a network keeps: names are told apart, who sends is sent to, all peers are heard, and each message stands once in its round
pub record IsNetwork {P : Type 0} (net : Network P) : Type 0 where
  pub same_is : (a b : P) → net.same a b ≡ true → a ≡ b
  pub same_self : (a : P) → net.same a a ≡ true
  pub back : (a b : P) → net.sends a b ≡ true → net.sends b a ≡ true
  pub hears : (x : Delivered P) (s : P) (t : ℕ) → ((j : P) → net.sends j s ≡ true → x j s t ≡ true) → all_in net x s t ≡ true
  pub heard : (x : Delivered P) (s : P) (t : ℕ) → all_in net x s t ≡ true → (j : P) → net.sends j s ≡ true → x j s t ≡ true
  pub once : (e : Triple P) (t : ℕ) → net.sends e.from e.to ≡ true → count_by (is_at net e) (triples_of net t) ≡ cond (t == e.round) 1 0

-- truths that follow from each other are the same
pub bool_same : (a b : Bool) → (a ≡ true → b ≡ true) → (b ≡ true → a ≡ true) → a ≡ b
bool_same true b to back = sym (to refl)
bool_same false true to back = back refl
bool_same false false to back = refl

-- the first rounds

at_most : (test : ℕ → Bool) (n : ℕ) → first_rounds n test ≤ n
at_most test zero = omega arith
at_most test (suc n) =
    let k = first_rounds n test in
    let le = at_most test n in
    cond_both ((k == n) && test n) (suc n) k (λ m. m ≤ suc n) (λ _. omega arith) (λ _. omega (arith, le))

-- the test holds at each of these rounds
holds_below : (test : ℕ → Bool) (n r : ℕ) → r < first_rounds n test → test r ≡ true
holds_below test zero r lt = absurd (omega arith)
holds_below test (suc n) r lt =
    let k = first_rounds n test in
    cond_both ((k == n) && test n) (suc n) k (λ m. r < m → test r ≡ true)
    (λ all below.
    let p = and_parts (k == n) (test n) all in
    let full = eqb-true k n p.0 in
    elim (cases_lt r n) [
      | inl early ↦ holds_below test n r (omega (arith, early, full))
      | inr late ↦ let last : r ≡ n = omega (arith, below, late) in ap test last ∙ p.1
    ])
    (λ _ below. holds_below test n r below) lt

-- no more rounds can be had
reaches : (test : ℕ → Bool) (n t : ℕ) → t ≤ n → ((r : ℕ) → r < t → test r ≡ true) → t ≤ first_rounds n test
reaches test zero t le all = omega arith
reaches test (suc n) t le all =
    let k = first_rounds n test in
    cond_both ((k == n) && test n) (suc n) k (λ m. t ≤ m) (λ _. le)
    (λ short. elim (cases_lt n t) [
      | inl whole ↦
          let low = reaches test n n (omega arith) (λ r lt. all r (omega (arith, lt, whole))) in
          let high = at_most test n in
          absurd (both_ways ((k == n) && test n) short (and_from (k == n) (test n) (eq-eqb k n (omega (arith, low, high))) (all n whole)))
      | inr within ↦ reaches test n t within all
    ])

module _ {P : Type 0} {net : Network P} (law : IsNetwork net) where
  -- the passed rounds

  pub passed_most : (rounds : ℕ) (x : Delivered P) (s : P) → passed net rounds x s ≤ rounds
  passed_most rounds x s = at_most (all_in net x s) rounds

  -- all messages of each passed round are in
  pub passed_in : (rounds : ℕ) (x : Delivered P) (s : P) (t : ℕ) → t < passed net rounds x s → (j : P) → net.sends j s ≡ true
      → x j s t ≡ true
  passed_in rounds x s t lt = law.heard x s t (holds_below (all_in net x s) rounds t lt)

  -- and no greater number of rounds has all
  pub passed_largest : (rounds : ℕ) (x : Delivered P) (s : P) (t : ℕ) → t ≤ rounds
      → ((r : ℕ) → r < t → (j : P) → net.sends j s ≡ true → x j s r ≡ true) → t ≤ passed net rounds x s
  passed_largest rounds x s t le all = reaches (all_in net x s) rounds t le (λ r lt. law.hears x s r (all r lt))

  passed_grows : (rounds : ℕ) (x y : Delivered P) (s : P) → Within x y → passed net rounds x s ≤ passed net rounds y s
  passed_grows rounds x y s sub =
      passed_largest rounds y s (passed net rounds x s) (passed_most rounds x s)
      (λ r lt j may. sub j s r (passed_in rounds x s r lt j may))

  -- what is sent

  pub sent_parts : (rounds : ℕ) (x : Delivered P) (e : Triple P) → is_sent net rounds x e ≡ true
      → (net.sends e.from e.to ≡ true) × ((e.round < rounds) × (e.round ≤ passed net rounds x e.from))
  sent_parts rounds x e h =
      let p = and_parts (net.sends e.from e.to && nat_lt e.round rounds) (nat_le e.round (passed net rounds x e.from)) h in
      let q = and_parts (net.sends e.from e.to) (nat_lt e.round rounds) p.0 in
      (q.0, (ltb-true e.round rounds q.1, leb-true e.round (passed net rounds x e.from) p.1))

  pub sent_from : (rounds : ℕ) (x : Delivered P) (e : Triple P) → net.sends e.from e.to ≡ true → e.round < rounds
      → e.round ≤ passed net rounds x e.from → is_sent net rounds x e ≡ true
  sent_from rounds x e may lt le =
      and_from (net.sends e.from e.to && nat_lt e.round rounds) (nat_le e.round (passed net rounds x e.from))
      (and_from (net.sends e.from e.to) (nat_lt e.round rounds) may (lt-ltb e.round rounds lt))
      (le-leb e.round (passed net rounds x e.from) le)

  pub sent_grows : (rounds : ℕ) (x y : Delivered P) (e : Triple P) → Within x y → is_sent net rounds x e ≡ true
      → is_sent net rounds y e ≡ true
  sent_grows rounds x y e sub h =
      let p = sent_parts rounds x e h in
      let g = passed_grows rounds x y e.from sub in
      sent_from rounds y e p.0 p.1.0 (omega (arith, p.1.1, g))

  -- a message more

  pub triple_is : (d e : Triple P) → is_at net e d ≡ true → d ≡ e
  triple_is d e h =
      let p = and_parts (net.same d.from e.from && net.same d.to e.to) (d.round == e.round) h in
      let q = and_parts (net.same d.from e.from) (net.same d.to e.to) p.0 in
      let a : d.from ≡ e.from = law.same_is d.from e.from q.0 in
      let b : d.to ≡ e.to = law.same_is d.to e.to q.1 in
      let c : d.round ≡ e.round = eqb-true d.round e.round p.1 in
      λ i. record { from = a i; to = b i; round = c i }

  pub has_with : (x : Delivered P) (e : Triple P) → has (with_triple net x e) e ≡ true
  has_with x e =
      or_right (has x e) (is_at net e e)
      (and_from (net.same e.from e.from && net.same e.to e.to) (e.round == e.round)
      (and_from (net.same e.from e.from) (net.same e.to e.to) (law.same_self e.from) (law.same_self e.to))
      (eq-eqb e.round e.round refl))

  pub within_with : (x : Delivered P) (e : Triple P) → Within x (with_triple net x e)
  within_with x e from to t = or_left (x from to t) (is_at net e (record { from = from; to = to; round = t }))

  pub with_cases : (x : Delivered P) (e d : Triple P) → has (with_triple net x e) d ≡ true → (has x d ≡ true) ⊎ (d ≡ e)
  with_cases x e d h = ⊎_elim (λ old. inl old) (λ new. inr (triple_is d e new)) (or_cases (has x d) (is_at net e d) h)

  -- a repeat changes nothing
  pub repeat_same : (x : Delivered P) (e : Triple P) → has x e ≡ true → with_triple net x e ≡ x
  repeat_same x e h = λ i from to t. at (record { from = from; to = to; round = t }) i where
    by : (a b : Bool) → (b ≡ true → a ≡ true) → (a || b) ≡ a
    by true b there = refl
    by false false there = refl
    by false true there = sym (there refl)

    at : (d : Triple P) → has (with_triple net x e) d ≡ has x d
    at d = by (has x d) (is_at net e d) (λ is. subst (λ (k : Triple P). has x k ≡ true) (sym (triple_is d e is)) h)

  -- events

  pub deliver_sent : (rounds : ℕ) (x : Delivered P) (e : Triple P) → is_sent net rounds x e ≡ true
      → deliver net rounds x e ≡ with_triple net x e
  deliver_sent rounds x e = cond-true (is_sent net rounds x e) (with_triple net x e) x

  pub deliver_unsent : (rounds : ℕ) (x : Delivered P) (e : Triple P) → is_sent net rounds x e ≡ false → deliver net rounds x e ≡ x
  deliver_unsent rounds x e = cond-false (is_sent net rounds x e) (with_triple net x e) x

  pub deliver_repeat : (rounds : ℕ) (x : Delivered P) (e : Triple P) → has x e ≡ true → deliver net rounds x e ≡ x
  deliver_repeat rounds x e there =
      cond_both (is_sent net rounds x e) (with_triple net x e) x (λ y. y ≡ x) (λ _. repeat_same x e there) (λ _. refl)

  pub within_deliver : (rounds : ℕ) (x : Delivered P) (e : Triple P) → Within x (deliver net rounds x e)
  within_deliver rounds x e =
      cond_both (is_sent net rounds x e) (with_triple net x e) x (Within x) (λ _. within_with x e) (λ _ from to t h. h)

  -- the set only grows along a list
  pub within_after : (rounds : ℕ) (es : List (Triple P)) (x : Delivered P) → Within x (after_from net rounds x es)
  within_after rounds [] x from to t h = h
  within_after rounds (e ∷ es) x from to t h =
      within_after rounds es (deliver net rounds x e) from to t (within_deliver rounds x e from to t h)

  pub after_append : (rounds : ℕ) (front es : List (Triple P)) (x : Delivered P)
      → after_from net rounds x (front ++ es) ≡ after_from net rounds (after_from net rounds x front) es
  after_append rounds [] es x = refl
  after_append rounds (e ∷ front) es x = after_append rounds front es (deliver net rounds x e)

  pub front_within : (rounds : ℕ) (front es : List (Triple P)) → Within (after net rounds front) (after net rounds (front ++ es))
  front_within rounds front es =
      subst (Within (after net rounds front)) (sym (after_append rounds front es nothing))
      (within_after rounds es (after net rounds front))

  with_sent : (rounds : ℕ) (x : Delivered P) (e : Triple P) → is_sent net rounds x e ≡ true → WasSent net rounds x
      → WasSent net rounds (with_triple net x e)
  with_sent rounds x e sent was d h =
      sent_grows rounds x (with_triple net x e) d (within_with x e)
      (⊎_elim (was d) (λ new. subst (λ (k : Triple P). is_sent net rounds x k ≡ true) (sym new) sent) (with_cases x e d h))

  pub deliver_keeps_sent : (rounds : ℕ) (x : Delivered P) (e : Triple P) → WasSent net rounds x
      → WasSent net rounds (deliver net rounds x e)
  deliver_keeps_sent rounds x e was =
      cond_both (is_sent net rounds x e) (with_triple net x e) x (WasSent net rounds) (λ sent. with_sent rounds x e sent was) (λ _. was)

  all_sent : (rounds : ℕ) (es : List (Triple P)) (x : Delivered P) → WasSent net rounds x → WasSent net rounds (after_from net rounds x es)
  all_sent rounds [] x was = was
  all_sent rounds (e ∷ es) x was = all_sent rounds es (deliver net rounds x e) (deliver_keeps_sent rounds x e was)

  pub was_sent : (rounds : ℕ) (es : List (Triple P)) → WasSent net rounds (after net rounds es)
  was_sent rounds es = all_sent rounds es nothing (λ e h. absurd (true≢false (sym h)))

  pub was_sent_parts : (rounds : ℕ) (es : List (Triple P)) (from to : P) (t : ℕ) → after net rounds es from to t ≡ true
      → (net.sends from to ≡ true) × ((t < rounds) × (t ≤ passed net rounds (after net rounds es) from))
  was_sent_parts rounds es from to t h =
      let e : Triple P = record { from = from; to = to; round = t } in
      sent_parts rounds (after net rounds es) e (was_sent rounds es e h)

  -- no two servers of which one sends the other are more than one round apart
  pub one_apart : (rounds : ℕ) (x : Delivered P) → WasSent net rounds x → (s other : P) → net.sends other s ≡ true
      → passed net rounds x s ≤ passed net rounds x other + 1
  one_apart rounds x was s other may = by (passed net rounds x s) refl where
    -- a server that has passed t + 1 rounds was sent the other's message of round t
    by : (t : ℕ) → passed net rounds x s ≡ t → t ≤ passed net rounds x other + 1
    by zero e = omega arith
    by (suc t) e =
        let m : Triple P = record { from = other; to = s; round = t } in
        let p = sent_parts rounds x m (was m (passed_in rounds x s t (omega (arith, e)) other may)) in
        omega (arith, p.1.1)

  -- a message that is sent is of the round after the receiver's passed rounds at most
  pub near : (rounds : ℕ) (x : Delivered P) → WasSent net rounds x → (e : Triple P) → is_sent net rounds x e ≡ true
      → e.round ≤ passed net rounds x e.to + 1
  near rounds x was e h =
      let p = sent_parts rounds x e h in
      let q = one_apart rounds x was e.from e.to (law.back e.from e.to p.0) in
      omega (arith, p.1.1, q)
