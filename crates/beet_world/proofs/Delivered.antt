-- A message of a `World` is delivered.
use Rattle.std.proofs.Common.{◌≡◌, ◌≢◌, ℕ, ◌+◌, ◌<◌, ◌≤◌, List, [], ◌∷◌, Bool, true, false, inl, inr, arith, refl, sym}
use Rattle.std.proofs.Common.{◌∙◌, ap, subst, length, slice_get, Some, Vec, Global, vec_capacity}
use Rattle.std.proofs.lemmas.Bool.{false_from_ne_true}
use Rattle.beet_field.specs.Trio.{member}
use Rattle.beet_field.specs.declared.point.Point.{Point}
use Rattle.beet_field.specs.declared.point.Point.TheVariants.{One, Two, Three}
use Rattle.beet_field.specs.declared.trio.Trio.{Trio}
use Rattle.beet_gates.specs.Scripts.{LawFrom, Standing, start_of}
use Rattle.beet_gates.specs.declared.Batch.{Batch}
use Rattle.beet_round.specs.Sides.{peer, side_of}
use Rattle.beet_round.specs.declared.message.RoundMessage.{RoundMessage}
use Rattle.beet_round.specs.declared.mailbox.Verdict.{Verdict}
use Rattle.beet_round.specs.declared.mailbox.Verdict.TheVariants.{Old, Repeat}
use Rattle.beet_round.specs.declared.sides.Side.{Side}
use Rattle.beet_round.specs.declared.sides.Side.TheVariants.{Low, High}
use Rattle.beet_server.specs.Answers.{Keeps, verdict_on}
use Rattle.beet_server.specs.Cores.{Core, is_quiet}
use Rattle.beet_delivery.specs.Events.{Delivered, deliver, is_sent, same, three}
use Rattle.beet_server.specs.Fits.{message_of, taken}
use Rattle.beet_sharing.specs.Runs.{HasRounds, Setup}
use Rattle.beet_delivery.proofs.NetworkFacts.{WasSent, passed_most, was_sent}
use Rattle.beet_delivery.proofs.ThreeServers.{one_apart, side_of as side_from, three-is}
use Rattle.beet_server.proofs.Passing.{round_most}
use Rattle.beet_sharing.proofs.Rounds.{lawful-rounds}
use Rattle.beet_world.specs.Happens.{IsGiven, MayGive, MayTakeMessages, event_of, of_side}
use Rattle.beet_world.specs.declared.world.Event.TheVariants.{Delivered as DeliveredBy, NotSent}
use Rattle.std.specs.Prelude.{Option, if◌then◌else◌, nat_lt, slice_index_or}
use Rattle.beet_round.proofs.SideFacts.{side_of-peer}
use Rattle.beet_delivery.specs.Events.{is_missing, passed, three, undelivered}
use Rattle.beet_delivery.specs.Networks.{of_round}
use Rattle.beet_delivery.proofs.TwoRounds.{undelivered_two}
use Rattle.beet_world.specs.Missing.{one_if, to_side}
use Rattle.beet_world.specs.Marks.{mark_at, marked_to}
use Rattle.beet_world.proofs.MarkFacts.{with_mark}
use Rattle.beet_world.specs.Worlds.{HoldsWorld, IsCoreOf, IsWorld, World, delivered_in, setup_in, rounds_in}
use Rattle.beet_world.proofs.Happening.{at_round, counted, given-stands, is-delivered, may-give, sent-at, sent-there}
use Rattle.beet_world.proofs.Happening.{there-sent, which, within, world-after}

-- the items of three lists
abbrev pub items_of : Trio (Vec (List RoundMessage) Global) → Trio (List (List RoundMessage))
items_of sent = record { one = sent.one.items; two = sent.two.items; three = sent.three.items }

pub items-at : (sent : Trio (Vec (List RoundMessage) Global)) (s : Point) → member (items_of sent) s ≡ (member sent s).items
items-at sent One = refl
items-at sent Two = refl
items-at sent Three = refl

-- the message to the peer of a side, of both messages of a round
picked : (o : Setup) (s : Point) (side : Side) (t : ℕ) →
    of_side side (message_of o s (peer s Low) t) (message_of o s (peer s High) t) ≡ message_of o s (peer s side) t
picked o s Low t = refl
picked o s High t = refl

-- the side on which a server stands for its peer
abbrev pub back_side : (s : Point) (side : Side) → (back : Side) × (peer (peer s side) back ≡ s)
back_side s side = side_from (peer s side) s (apart s side) where
  apart : (s : Point) (side : Side) → same s (peer s side) ≡ false
  apart One Low = refl
  apart One High = refl
  apart Two Low = refl
  apart Two High = refl
  apart Three Low = refl
  apart Three High = refl

-- the verdict on a message that is in the set
on-repeat : (x : Delivered) (s : Point) (round : ℕ) (side : Side) (t : ℕ) → x (peer s side) s t ≡ true →
    verdict_on x s round side t ≡ (if nat_lt t round then Old else Repeat)
on-repeat x s round side t there = rw there refl

module _ {S : Type 0} (next : S → ℕ → List ℕ → Batch) (inputs most : S → ℕ) (bounds : Standing) (w : World S)
    (cores : Trio (Core S)) (sent : Trio (Vec (List RoundMessage) Global))
    (law : LawFrom (next w.start.one.script) bounds (most w.start.one.script) (start_of (inputs w.start.one.script)) [])
    (k : HoldsWorld next inputs most w cores sent) where
  has : HasRounds (setup_in next inputs most w) (rounds_in next inputs most w)
  has = (lawful-rounds (setup_in next inputs most w) bounds (most w.start.one.script) (inputs w.start.one.script) law).0

  few : rounds_in next inputs most w ≤ most w.start.one.script
  few = (lawful-rounds (setup_in next inputs most w) bounds (most w.start.one.script) (inputs w.start.one.script) law).1

  i : IsWorld next inputs most w cores (items_of sent)
  i = k.is_world

  -- a message is sent exactly where it is among those of its sender
  pub is-there : (from : Point) (side : Side) (t : ℕ) → t < length (member sent from).items →
      is_sent (rounds_in next inputs most w) (delivered_in w) (to_side from side t) ≡ true
  is-there from side t lt = there-sent next inputs most w cores (items_of sent) has i few from side t
      (subst (λ (l : List (List RoundMessage)). t < length l) (sym (items-at sent from)) lt)

  pub not-there : (from : Point) (side : Side) (t : ℕ) → length (member sent from).items ≤ t →
      is_sent (rounds_in next inputs most w) (delivered_in w) (to_side from side t) ≡ false
  not-there from side t le = false_from_ne_true (is_sent (rounds_in next inputs most w) (delivered_in w) (to_side from side t)) (λ e.
      let lt = sent-there next inputs most w cores (items_of sent) has i few from side t e in
      omega (arith, ap length (items-at sent from), lt, le))

  -- its mark is among the marks
  pub in-marks : (from : Point) (side : Side) (t : ℕ) → t < length (member sent from).items → mark_at from side t < length w.marks
  in-marks from side t lt = within next inputs most w cores (items_of sent) has i few from side t
      (subst (λ (l : List (List RoundMessage)). t < length l) (sym (items-at sent from)) lt)

  -- a message that is not sent, or is delivered, is not missing, and each other is
  pub not-missing : (from : Point) (side : Side) (t : ℕ) → length (member sent from).items ≤ t →
      one_if (is_missing (rounds_in next inputs most w) (delivered_in w) (to_side from side t)) ≡ 0
  not-missing from side t le = rw (not-there from side t le) refl

  pub is-marked : (from : Point) (side : Side) (t : ℕ) → t < length (member sent from).items →
      slice_index_or w.marks (mark_at from side t) false ≡ true →
      one_if (is_missing (rounds_in next inputs most w) (delivered_in w) (to_side from side t)) ≡ 0
  is-marked from side t lt m = rw (is-there from side t lt, side_of-peer from side, m) refl

  pub is-unmarked : (from : Point) (side : Side) (t : ℕ) → t < length (member sent from).items →
      slice_index_or w.marks (mark_at from side t) false ≡ false →
      one_if (is_missing (rounds_in next inputs most w) (delivered_in w) (to_side from side t)) ≡ 1
  is-unmarked from side t lt m = rw (is-there from side t lt, side_of-peer from side, m) refl

  -- each message that was delivered was sent
  was : WasSent three (rounds_in next inputs most w) (delivered_in w)
  was = subst (λ (x : Delivered). WasSent three (rounds_in next inputs most w) x) (sym i.reached)
      (was_sent three-is (rounds_in next inputs most w) i.events)

  -- the core of each server
  pub core-in : (s : Point) → IsCoreOf next inputs most w s (member cores s)
  core-in s =
      let c = i.standing s in
      record {
        name = c.name;
        script = k.script s;
        masks = k.masks s;
        coefficients = k.coefficients s;
        fits = c.fits;
        quiet = c.quiet;
        going = c.going;
        round = at_round next inputs most w cores (items_of sent) has i few s;
        near = one_apart (rounds_in next inputs most w) (delivered_in w) was s;
        events = i.events;
        reached = i.reached;
      }

  -- what is undelivered is of the round of the server that is behind, and of the next
  pub two-rounds : (behind : ℕ) (s : Point) → behind ≡ (member cores s).round → ((other : Point) → behind ≤ (member cores other).round) →
      undelivered (rounds_in next inputs most w) (delivered_in w)
      ≡ of_round three (is_missing (rounds_in next inputs most w) (delivered_in w)) behind
      + of_round three (is_missing (rounds_in next inputs most w) (delivered_in w)) (behind + 1)
  two-rounds behind s is least =
      let rounds = rounds_in next inputs most w in
      let at = at_round next inputs most w cores (items_of sent) has i few in
      undelivered_two three-is rounds (delivered_in w) behind (omega (arith, passed_most three-is rounds (delivered_in w) s, is, at s))
      (λ from to may. (
        omega (arith, least to, at to),
        omega (arith, one_apart rounds (delivered_in w) was from s, is, at s),
      ))

  -- the same of a message to a server
  pub not-sent-to : (from to : Point) (side : Side) (t : ℕ) → to ≡ peer from side → length (member sent from).items ≤ t →
      is_sent (rounds_in next inputs most w) (delivered_in w) (record { from = from; to = to; round = t }) ≡ false
  not-sent-to from to side t e le =
      (λ j. is_sent (rounds_in next inputs most w) (delivered_in w) (record { from = from; to = e j; round = t }))
      ∙ not-there from side t le

  pub sent-to : (from to : Point) (side : Side) (t : ℕ) → to ≡ peer from side → t < length (member sent from).items →
      is_sent (rounds_in next inputs most w) (delivered_in w) (record { from = from; to = to; round = t }) ≡ true
  sent-to from to side t e lt =
      (λ j. is_sent (rounds_in next inputs most w) (delivered_in w) (record { from = from; to = e j; round = t })) ∙ is-there from side t lt

  -- a message that is not there is not sent
  pub not-sent-event : (from to : Point) (side : Side) (t : ℕ) → to ≡ peer from side → length (member sent from).items ≤ t →
      NotSent ≡ event_of (rounds_in next inputs most w) (delivered_in w) (record { from = from; to = to; round = t })
  not-sent-event from to side t e le = rw (not-sent-to from to side t e le) refl

  -- a message that was delivered before is delivered again, with the verdict that its receiver's round tells
  pub told-again : (from to : Point) (side : Side) (t : ℕ) → to ≡ peer from side →
      slice_index_or w.marks (mark_at from side t) false ≡ true →
      (v : Verdict) → v ≡ (if nat_lt t (member cores to).round then Old else Repeat) →
      (delivered_in w from to t ≡ true)
      × (DeliveredBy v ≡ event_of (rounds_in next inputs most w) (delivered_in w) (record { from = from; to = to; round = t }))
  told-again from to side t e m v is =
      let rounds = rounds_in next inputs most w in
      let back = (back_side from side).0 in
      let named : side_of from to ≡ Some side = (λ j. side_of from (e j)) ∙ side_of-peer from side in
      let there : delivered_in w from to t ≡ true = ap (λ (s : Option Side). marked_to w.marks from s t) named ∙ m in
      let sender : peer to back ≡ from = (λ j. peer (e j) back) ∙ (back_side from side).1 in
      let again : delivered_in w (peer to back) to t ≡ true = (λ j. delivered_in w (sender j) to t) ∙ there in
      let back_is : side_of to from ≡ Some back =
      (λ j. side_of (e j) (sym (back_side from side).1 j)) ∙ side_of-peer (peer from side) back in
      let at : (member cores to).round ≡ passed rounds (delivered_in w) to =
      at_round next inputs most w cores (items_of sent) has i few to in
      let told : v ≡ verdict_on (delivered_in w) to (passed rounds (delivered_in w) to) back t =
      is ∙ (λ j. if nat_lt t (at j) then Old else Repeat)
      ∙ sym (on-repeat (delivered_in w) to (passed rounds (delivered_in w) to) back t again) in
      let sent : is_sent rounds (delivered_in w) (record { from = from; to = to; round = t }) ≡ true =
      was (record { from = from; to = to; round = t }) there in
      (there, rw (sent, back_is) (ap DeliveredBy told))

  -- each server may be given a message
  pub may-take : (s : Point) → MayTakeMessages next (most (member cores s).script) (member cores s) (member sent s)
  may-take s =
      let c = i.standing s in
      let script : most (member cores s).script ≡ most w.start.one.script = ap most (k.script s) in
      let count : length (member sent s).items ≡ taken (member cores s).round (member cores s).handed =
      ap length (sym (items-at sent s)) ∙ counted next inputs most w cores (items_of sent) has i few s in
      let rounds = round_most next (setup_in next inputs most w) (delivered_in w) (member cores s)
      (rounds_in next inputs most w) has c.fits in
      record {
        quiet = c.quiet;
        holds = record {
          room = omega (arith, script, k.room s);
          counted = count;
          within = omega (arith, script, few, count, most-taken (member cores s) rounds c.going);
        };
      }
    where
      most-taken : (c : Core S) → c.round ≤ rounds_in next inputs most w → (c.handed ≡ true → c.round < rounds_in next inputs most w) →
          taken c.round c.handed ≤ rounds_in next inputs most w
      most-taken c le going = by c.handed refl where
        by : (b : Bool) → c.handed ≡ b → taken c.round b ≤ rounds_in next inputs most w
        by true e = omega (arith, going e)
        by false e = le

  module _ (from : Point) (side : Side) (t : ℕ) (lt : t < length (member sent from).items) (to : Point) (is_to : to ≡ peer from side)
      (m : RoundMessage) (m_is : (low high : RoundMessage) →
      slice_get (member sent from).items t ≡ Some (low ∷ high ∷ []) → m ≡ of_side side low high) where
    lt' : t < length (member (items_of sent) from)
    lt' = subst (λ (l : List (List RoundMessage)). t < length l) (sym (items-at sent from)) lt

    m-is : m ≡ message_of (setup_in next inputs most w) from (peer from side) t
    m-is =
        let o = setup_in next inputs most w in
        m_is (message_of o from (peer from Low) t) (message_of o from (peer from High) t)
        (ap (λ l. slice_get l t) (sym (items-at sent from)) ∙ sent-at next inputs most w cores (items_of sent) has i few from t lt')
        ∙ picked o from side t

    back : Side
    back = (back_side from side).0

    -- the message may be given
    pub gives : MayGive next (setup_in next inputs most w) (delivered_in w) (rounds_in next inputs most w)
        (back_side from side).0 t (member cores to) (member sent to).items m
    gives =
        subst (λ (r : Point). MayGive next (setup_in next inputs most w) (delivered_in w) (rounds_in next inputs most w)
        (back_side from side).0 t (member cores r) (member sent r).items m) (sym is_to)
        (subst (λ (l : List (List RoundMessage)). MayGive next (setup_in next inputs most w) (delivered_in w)
        (rounds_in next inputs most w) (back_side from side).0 t (member cores (peer from side)) l m)
        (items-at sent (peer from side))
        (may-give next inputs most w cores (items_of sent) has i few from side t lt' m (back_side from side).0 m-is
        (back_side from side).1))

    -- the set is that of the event
    pub delivered : delivered_in (record w { marks = with_mark w.marks from side t })
        ≡ deliver (rounds_in next inputs most w) (delivered_in w) (record { from = from; to = to; round = t })
    delivered =
        is-delivered next inputs most w cores (items_of sent) has i few from side t lt'
        ∙ (λ j. deliver (rounds_in next inputs most w) (delivered_in w) (record { from = from; to = sym is_to j; round = t }))

    pub mark-within : mark_at from side t < length w.marks
    mark-within = within next inputs most w cores (items_of sent) has i few from side t lt'

    side-is : side_of to from ≡ Some (back_side from side).0
    side-is = (λ j. side_of (is_to j) (sym (back_side from side).1 j)) ∙ side_of-peer (peer from side) (back_side from side).0

    -- the event is that it is delivered with this verdict
    pub told-event : (v : Verdict) →
        v ≡ verdict_on (delivered_in w) (member cores to).me (member cores to).round (back_side from side).0 t →
        DeliveredBy v ≡ event_of (rounds_in next inputs most w) (delivered_in w) (record { from = from; to = to; round = t })
    told-event v is =
        let at = at_round next inputs most w cores (items_of sent) has i few to in
        let told : v ≡ verdict_on (delivered_in w) to (passed (rounds_in next inputs most w) (delivered_in w) to)
        (back_side from side).0 t =
        is ∙ (λ j. verdict_on (delivered_in w) ((i.standing to).name j) (at j) (back_side from side).0 t) in
        rw (sent-to from to side t is_to lt, side-is) (ap DeliveredBy told)

    -- the `World` holds after it
    pub holds-after : (cores' : Trio (Core S)) (sent' : Trio (Vec (List RoundMessage) Global)) (v : Verdict) →
        ((s : Point) → s ≢ to → (member cores' s ≡ member cores s) × (member sent' s ≡ member sent s)) →
        vec_capacity (member sent' to) ≡ vec_capacity (member sent to) → Keeps (member cores to) (member cores' to) →
        is_quiet next (member cores' to) ≡ true →
        IsGiven next (setup_in next inputs most w) (delivered_in w) (rounds_in next inputs most w)
        (back_side from side).0 t (member cores to) (member cores' to) (member sent' to).items v →
        HoldsWorld next inputs most (record w { marks = with_mark w.marks from side t }) cores' sent'
    holds-after cores' sent' v others capacity keeps quiet given =
        let r = peer from side in
        let keeps' : Keeps (member cores r) (member cores' r) =
        subst (λ (q : Point). Keeps (member cores q) (member cores' q)) is_to keeps in
        let quiet' : is_quiet next (member cores' r) ≡ true = subst (λ (q : Point). is_quiet next (member cores' q) ≡ true) is_to quiet in
        let given' : IsGiven next (setup_in next inputs most w) (delivered_in w) (rounds_in next inputs most w)
        (back_side from side).0 t (member cores r) (member cores' r) (member sent' r).items v =
        subst (λ (q : Point). IsGiven next (setup_in next inputs most w) (delivered_in w) (rounds_in next inputs most w)
        (back_side from side).0 t (member cores q) (member cores' q) (member sent' q).items v) is_to given in
        let stands = given-stands next inputs most w cores (items_of sent) has i few from side t lt' (back_side from
        side).0 (member cores' r) (member sent' r).items v (back_side from side).1 keeps' quiet' given' in
        record {
          is_world = world-after next inputs most w cores (items_of sent) has i few from side t lt' cores' (items_of sent') stands
              (items-at sent' r ∙ given'.sends)
              (λ s other. let e = others s (λ q. other (q ∙ is_to)) in (
                e.0,
                items-at sent' s ∙ ap (λ (q : Vec (List RoundMessage) Global). q.items) e.1 ∙ sym (items-at sent s),
              ));
          room = λ s. elim (which s to) [
            | inl it ↦ omega (
              arith,
              k.room s,
              ap (λ (q : Point). vec_capacity (member sent' q)) it,
              capacity,
              ap (λ (q : Point). vec_capacity (member sent q)) it,
            )
            | inr other ↦ omega (arith, k.room s, ap (λ (q : Vec (List RoundMessage) Global). vec_capacity q) (others s other).1)
          ];
          script = λ s. elim (which s to) [
            | inl it ↦ (λ j. (member cores' (it j)).script) ∙ keeps.script ∙ (λ j. (member cores (sym it j)).script) ∙ k.script s
            | inr other ↦ ap (λ (q : Core S). q.script) (others s other).0 ∙ k.script s
          ];
          masks = λ s. elim (which s to) [
            | inl it ↦ (λ j. (member cores' (it j)).masks.words) ∙ keeps.masks ∙ (λ j. (member cores (sym it j)).masks.words) ∙ k.masks s
            | inr other ↦ ap (λ (q : Core S). q.masks.words) (others s other).0 ∙ k.masks s
          ];
          coefficients = λ s. elim (which s to) [
            | inl it ↦ (λ j. (member cores' (it j)).coefficients.words) ∙ keeps.coefficients
                ∙ (λ j. (member cores (sym it j)).coefficients.words) ∙ k.coefficients s
            | inr other ↦ ap (λ (q : Core S). q.coefficients.words) (others s other).0 ∙ k.coefficients s
          ];
        }
