-- Whatever was delivered, the messages of all rounds in order bring a run to its end.
use Rattle.std.proofs.Common.{◌≡◌, ◌≤◌, ◌<◌, ℕ, zero, suc, true, inl, inr, List, [], ◌∷◌, ◌++◌, sym, subst, ap, ◌∙◌}
use Rattle.std.proofs.Common.{refl, arith, append_assoc}
use Rattle.std.specs.Prelude.{All, not}
use Rattle.std.proofs.lemmas.Bool.{cases_lt}
use Rattle.std.proofs.lemmas.List.Elements.{All-cons, All-head, All-nil, All-tail}
use Rattle.beet_field.specs.declared.point.Point.{Point}
use Rattle.beet_field.specs.declared.point.Point.TheVariants.{One, Two, Three}
use Rattle.beet_round.specs.Sides.{peer}
use Rattle.beet_round.specs.declared.sides.Side.{Side}
use Rattle.beet_round.specs.declared.sides.Side.TheVariants.{Low, High}
use Rattle.beet_delivery.specs.Events.{Delivered, Triple, after, after_from, deliver, has, is_sent, nothing, passed}
use Rattle.beet_delivery.specs.Events.{same, undelivered}
use Rattle.beet_delivery.proofs.NetworkFacts.{Within, after_append, deliver_sent, has_with, passed_most, sent_from}
use Rattle.beet_delivery.proofs.NetworkFacts.{sent_grows, within_after, within_deliver}
use Rattle.beet_delivery.proofs.ThreeServers.{passed_in, passed_largest, three-is, triples_of}
use Rattle.beet_delivery.proofs.Undelivered.{none_undelivered}

module _ (rounds : ℕ) where
  sent-later : (x y : Delivered) → Within x y → (es : List Triple) → All (λ e. is_sent rounds x e ≡ true) es →
      All (λ e. is_sent rounds y e ≡ true) es
  sent-later x y sub [] all = All-nil (λ e. is_sent rounds y e ≡ true)
  sent-later x y sub (e ∷ es) all =
      All-cons (λ e. is_sent rounds y e ≡ true) e es
      (sent_grows three-is rounds x y e sub (All-head (λ e. is_sent rounds x e ≡ true) e es all))
      (sent-later x y sub es (All-tail (λ e. is_sent rounds x e ≡ true) e es all))

  -- messages that are sent are in, once they are delivered
  all-in : (es : List Triple) (x : Delivered) → All (λ e. is_sent rounds x e ≡ true) es →
      All (λ e. has (after_from rounds x es) e ≡ true) es
  all-in [] x all = All-nil (λ e. has x e ≡ true)
  all-in (e ∷ es) x all =
      let y : Delivered = deliver rounds x e in
      let here : has y e ≡ true =
      subst (λ (z : Delivered). has z e ≡ true) (sym (deliver_sent three-is rounds x e
      (All-head (λ e. is_sent rounds x e ≡ true) e es all))) (has_with three-is x e) in
      All-cons (λ d. has (after_from rounds y es) d ≡ true) e es (within_after three-is rounds es y e.from e.to e.round here)
      (all-in es y (sent-later x y (within_deliver three-is rounds x e) es (All-tail (λ e. is_sent rounds x e ≡ true) e es all)))

  module _ (x : Delivered) (t : ℕ) (lt : t < rounds) (there : (s : Point) → t ≤ passed rounds x s) where
    abbrev round : List Triple
    round = triples_of t

    abbrev later : Delivered
    later = after_from rounds x round

    abbrev message : Point → Point → Triple
    message from to = record { from = from; to = to; round = t }

    abbrev IsSent : Triple → Type 0
    IsSent e = is_sent rounds x e ≡ true

    all-sent : All IsSent round
    all-sent =
        let to : (from to : Point) → not (same from to) ≡ true → IsSent (message from to) =
        λ from to other. sent_from three-is rounds x (message from to) other lt (there from) in
        let five : List Triple = message Three Two ∷ [] in
        let four : List Triple = message Three One ∷ five in
        let three : List Triple = message Two Three ∷ four in
        let two : List Triple = message Two One ∷ three in
        let one : List Triple = message One Three ∷ two in
        All-cons IsSent (message One Two) one (to One Two refl)
        (All-cons IsSent (message One Three) two (to One Three refl)
        (All-cons IsSent (message Two One) three (to Two One refl)
        (All-cons IsSent (message Two Three) four (to Two Three refl)
        (All-cons IsSent (message Three One) five (to Three One refl)
        (All-cons IsSent (message Three Two) [] (to Three Two refl) (All-nil IsSent))))))

    came : All (λ e. has later e ≡ true) round
    came = all-in round x all-sent

    from-side : (s : Point) (side : Side) → later (peer s side) s t ≡ true
    from-side One Low = came 2 (message One Two) (omega arith)
    from-side One High = came 4 (message One Two) (omega arith)
    from-side Two Low = came 0 (message One Two) (omega arith)
    from-side Two High = came 5 (message One Two) (omega arith)
    from-side Three Low = came 1 (message One Two) (omega arith)
    from-side Three High = came 3 (message One Two) (omega arith)

    passed-more : (s : Point) → suc t ≤ passed rounds later s
    passed-more s =
        passed_largest rounds later s (suc t) (omega (arith, lt))
        (λ r below side. elim (cases_lt r t) [
          | inl early ↦
              within_after three-is rounds round x (peer s side) s r (passed_in rounds x s r (omega (arith, early, there s)) side)
          | inr late ↦
              let is : t ≡ r = omega (arith, below, late) in
              subst (λ n. later (peer s side) s n ≡ true) is (from-side s side)
        ])

  pub record Brings (es : List Triple) (t : ℕ) : Type 0 where
    pub more : List Triple
    pub all_there : (s : Point) → t ≤ passed rounds (after rounds (es ++ more)) s

  brings : (es : List Triple) (t : ℕ) → t ≤ rounds → Brings es t
  brings es zero le = record { more = []; all_there = λ s. omega arith }
  brings es (suc t) le =
      let r = brings es t (omega (arith, le)) in
      let x : Delivered = after rounds (es ++ r.more) in
      let lt : t < rounds = omega (arith, le) in
      let is : after rounds (es ++ (r.more ++ triples_of t)) ≡ after_from rounds x (triples_of t) =
      ap (after rounds) (sym (append_assoc es r.more (triples_of t)))
      ∙ after_append three-is rounds (es ++ r.more) (triples_of t) nothing in
      record {
        more = r.more ++ triples_of t;
        all_there = λ s. subst (λ (y : Delivered). suc t ≤ passed rounds y s) (sym is) (passed-more x t lt r.all_there s);
      }

  pub to-the-end : (es : List Triple) → (more : List Triple) × (undelivered rounds (after rounds (es ++ more)) ≡ 0)
  to-the-end es =
      let r = brings es rounds (omega arith) in
      let x : Delivered = after rounds (es ++ r.more) in
      (r.more, none_undelivered three-is rounds x (λ s. omega (arith, r.all_there s, passed_most three-is rounds x s)))
