-- A list of events gives what the events give that add a message: without what was not sent, and without repeats.
use Rattle.std.proofs.Common.{◌≡◌, ◌≢◌, not, ℕ, true, false, List, [], ◌∷◌, ◌++◌, length, get_or, drop, sym}
use Rattle.std.proofs.Common.{ap, subst, ◌∙◌, inl, inr, ⊎_elim, arith, refl}
use Rattle.std.proofs.lemmas.Bool.{and_parts, and_cases, both_ways, not-true, not-false, false_from_ne_true, cond-true}
use Rattle.std.proofs.lemmas.Bool.{cond-false, cond_both, cases_Bool}
use Rattle.std.proofs.lemmas.List.Elements.{All-nil, All-cons, All-weaker}
use Rattle.std.proofs.lemmas.List.Kept.{AllPairs-cons}
use Rattle.std.specs.Prelude.{All, AllPairs}
use Rattle.beet_delivery.specs.Networks.{Network, Triple, Delivered, has, with_triple, is_missing, is_sent, deliver, after_from, adding}
use Rattle.beet_delivery.proofs.NetworkFacts.{IsNetwork, deliver_repeat, deliver_sent, deliver_unsent, has_with, within_with}

module _ {P : Type 0} {net : Network P} (law : IsNetwork net) (rounds : ℕ) where
  -- what is added first, and what comes after it
  abbrev more : Delivered P → Triple P → List (Triple P) → List (Triple P)
  more x e es = e ∷ adding net rounds (with_triple net x e) es

  comes : (x : Delivered P) (e : Triple P) → is_missing net rounds x e ≡ true → deliver net rounds x e ≡ with_triple net x e
  comes x e h = deliver_sent law rounds x e (and_parts (is_sent net rounds x e) (not (has x e)) h).0

  stays : (x : Delivered P) (e : Triple P) → is_missing net rounds x e ≡ false → deliver net rounds x e ≡ x
  stays x e h =
      ⊎_elim (deliver_unsent law rounds x e) (λ old. deliver_repeat law rounds x e (not-false (has x e) old))
      (and_cases (is_sent net rounds x e) (not (has x e)) h)

  pub adding_same : (es : List (Triple P)) (x : Delivered P) → after_from net rounds x es ≡ after_from net rounds x (adding net rounds x es)
  adding_same [] x = refl
  adding_same (e ∷ es) x = elim (cases_Bool (is_missing net rounds x e)) [
    | inl h ↦
        ap (λ (y : Delivered P). after_from net rounds y es) (comes x e h) ∙ adding_same es (with_triple net x e)
        ∙ ap (λ (y : Delivered P). after_from net rounds y (adding net rounds (with_triple net x e) es)) (sym (comes x e h))
        ∙ ap (after_from net rounds x) (sym (cond-true (is_missing net rounds x e) (more x e es) (adding net rounds x es) h))
    | inr h ↦
        ap (λ (y : Delivered P). after_from net rounds y es) (stays x e h) ∙ adding_same es x
        ∙ ap (after_from net rounds x) (sym (cond-false (is_missing net rounds x e) (more x e es) (adding net rounds x es) h))
  ]

  -- what adds is not in the set before
  adding_new : (es : List (Triple P)) (x : Delivered P) → All (λ d. has x d ≡ false) (adding net rounds x es)
  adding_new [] x = All-nil (λ d. has x d ≡ false)
  adding_new (e ∷ es) x =
      cond_both (is_missing net rounds x e) (more x e es) (adding net rounds x es) (All (λ d. has x d ≡ false))
      (λ h. All-cons (λ d. has x d ≡ false) e (adding net rounds (with_triple net x e) es)
      (not-true (has x e) (and_parts (is_sent net rounds x e) (not (has x e)) h).1)
      (All-weaker (λ d. has (with_triple net x e) d ≡ false) (λ d. has x d ≡ false)
      (λ d none. false_from_ne_true (has x d) (λ there.
      both_ways (has (with_triple net x e) d) none (within_with law x e d.from d.to d.round there)))
      (adding net rounds (with_triple net x e) es) (adding_new es (with_triple net x e))))
      (λ _. adding_new es x)

  -- and no message stands twice in it
  pub adding_once : (es : List (Triple P)) (x : Delivered P) → AllPairs (λ a b. a ≢ b) (adding net rounds x es)
  adding_once [] x = λ i j d lt low. absurd (omega arith)
  adding_once (e ∷ es) x =
      cond_both (is_missing net rounds x e) (more x e es) (adding net rounds x es) (AllPairs (λ a b. a ≢ b))
      (λ h. AllPairs-cons (λ a b. a ≢ b) e (adding net rounds (with_triple net x e) es)
      (All-weaker (λ d. has (with_triple net x e) d ≡ false) (λ d. e ≢ d)
      (λ d none is. both_ways (has (with_triple net x e) d) none
      (subst (λ (k : Triple P). has (with_triple net x e) k ≡ true) is (has_with law x e)))
      (adding net rounds (with_triple net x e) es) (adding_new es (with_triple net x e)))
      (adding_once es (with_triple net x e)))
      (λ _. adding_once es x)

  -- whether the next message adds to what comes before it
  abbrev IsNew : Delivered P → List (Triple P) → Triple P → Type 0
  IsNew x front e = (is_sent net rounds (after_from net rounds x front) e ≡ true) × (has (after_from net rounds x front) e ≡ false)

  -- each message of it is new after those before it
  pub adding_sent : (es : List (Triple P)) (x : Delivered P) (front back : List (Triple P)) (e : Triple P)
      → adding net rounds x es ≡ front ++ e ∷ back → IsNew x front e
  adding_sent [] x [] back e h = absurd (omega (arith, ap length h))
  adding_sent [] x (f ∷ front) back e h = absurd (omega (arith, ap length h))
  adding_sent (d ∷ es) x [] back e h =
      cond_both (is_missing net rounds x d) (more x d es) (adding net rounds x es) (λ l. l ≡ e ∷ back → IsNew x [] e)
      (λ new is. let p = and_parts (is_sent net rounds x d) (not (has x d)) new in
      subst (IsNew x []) (ap (λ l. get_or l 0 d) is) (p.0, not-true (has x d) p.1))
      (λ _. adding_sent es x [] back e) h
  adding_sent (d ∷ es) x (f ∷ front) back e h =
      cond_both (is_missing net rounds x d) (more x d es) (adding net rounds x es) (λ l. l ≡ f ∷ front ++ e ∷ back → IsNew x (f ∷ front) e)
      (λ new is. subst (λ (y : Delivered P). IsNew y front e) (sym (comes x d new) ∙ ap (λ l. deliver net rounds x (get_or l 0 d)) is)
      (adding_sent es (with_triple net x d) front back e (ap (drop 1) is)))
      (λ _. adding_sent es x (f ∷ front) back e) h
