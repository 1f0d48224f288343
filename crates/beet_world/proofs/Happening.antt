-- What an event makes of a `World`.
use Rattle.std.proofs.Common.{◌≡◌, ◌≢◌, ℕ, ◌+◌, ◌<◌, ◌≤◌, List, [], ◌∷◌, ◌++◌, Bool, true, false, true≢false, inl, inr}
use Rattle.std.proofs.Common.{arith, refl, sym, ◌∙◌, ap, subst, ◌||◌, ◌⊎◌, length, length-set, slice_get, Some}
use Rattle.std.proofs.lemmas.Bool.{cases_Bool, not_from_false}
use Rattle.beet_field.specs.Trio.{member}
use Rattle.beet_field.specs.declared.point.Point.{Point}
use Rattle.beet_field.specs.declared.trio.Trio.{Trio}
use Rattle.beet_gates.specs.declared.Batch.{Batch}
use Rattle.beet_gates.proofs.EachFacts.{get-each, length-each}
use Rattle.beet_round.specs.Sides.{peer}
use Rattle.beet_round.specs.declared.message.RoundMessage.{RoundMessage}
use Rattle.beet_round.specs.declared.sides.Side.{Side}
use Rattle.beet_round.proofs.SideFacts.{peer-apart}
use Rattle.beet_sharing.specs.Runs.{HasRounds}
use Rattle.beet_delivery.specs.Events.{Delivered, deliver, is_sent, nothing, passed, same, with_triple, three}
use Rattle.beet_server.specs.Cores.{Core, is_quiet, has_ended}
use Rattle.beet_server.specs.Answers.{Keeps}
use Rattle.beet_server.specs.Fits.{Fits, IsRound, message_of, messages_from, taken}
use Rattle.beet_round.specs.declared.mailbox.Verdict.{Verdict}
use Rattle.beet_world.specs.Happens.{IsGiven, MayGive}
use Rattle.beet_delivery.proofs.NetworkFacts.{WasSent, after_append, deliver_sent, near, sent_from, sent_parts, was_sent}
use Rattle.beet_delivery.proofs.ThreeServers.{not_same, same_is, same_not, three-is}
use Rattle.beet_server.proofs.Passing.{at_passed, away, ended_at, is_round}
use Rattle.beet_world.specs.Missing.{to_side}
use Rattle.beet_world.specs.Marks.{mark_at}
use Rattle.beet_world.specs.Worlds.{World, StandsIn, IsWorld, delivered_in, setup_in, rounds_in, sent_by}
use Rattle.beet_world.proofs.MarkFacts.{place-within, set-with_mark, with_mark}

pub which : (s t : Point) → (s ≡ t) ⊎ (s ≢ t)
which s t = elim (cases_Bool (same s t)) [
  | inl it ↦ inl (same_is s t it)
  | inr other ↦ inr (not_same s t other)
]

module _ {S : Type 0} (next : S → ℕ → List ℕ → Batch) (inputs most : S → ℕ) (w : World S) (cores : Trio (Core S))
    (sent : Trio (List (List RoundMessage)))
    (h : HasRounds (setup_in next inputs most w) (rounds_in next inputs most w)) (i : IsWorld next inputs most w cores sent)
    (few : rounds_in next inputs most w ≤ most w.start.one.script) where
  -- how many rounds' messages a server has sent
  pub counted : (s : Point) → length (member sent s) ≡ taken (member cores s).round (member cores s).handed
  counted s = ap length (i.sent_all s) ∙ length-each (messages_from (setup_in next inputs most w) (member cores s).me)
      (taken (member cores s).round (member cores s).handed)

  -- the rounds that a server has passed
  pub at_round : (s : Point) → (member cores s).round ≡ passed (rounds_in next inputs most w) (delivered_in w) s
  at_round s =
      let c = i.standing s in
      at_passed next (setup_in next inputs most w) (delivered_in w) (member cores s) (rounds_in next inputs most w) h c.fits c.quiet
      ∙ ap (passed (rounds_in next inputs most w) (delivered_in w)) c.name

  -- a core with nothing to hand out that has not handed out its round has ended
  at_end : (s : Point) → (member cores s).handed ≡ false → (member cores s).round ≡ rounds_in next inputs most w
  at_end s idle =
      let c = i.standing s in
      (ended_at next (setup_in next inputs most w) (delivered_in w) (member cores s) (rounds_in next inputs most w) h c.fits).0
      (by_quiet (member cores s).handed (has_ended next (member cores s)) idle c.quiet)
    where
      by_quiet : (a b : Bool) → a ≡ false → (a || b) ≡ true → b ≡ true
      by_quiet true b e q = absurd (true≢false e)
      by_quiet false b e q = q

  sent_count : (s : Point) (b : Bool) → (member cores s).handed ≡ b → (t : ℕ) →
      (t < taken (member cores s).round b → (t < rounds_in next inputs most w) × (t ≤ (member cores s).round))
      × (t < rounds_in next inputs most w → t ≤ (member cores s).round → t < taken (member cores s).round b)
  sent_count s true e t = let lt = (i.standing s).going e in (λ k. (omega arith, omega arith), λ k l. omega arith)
  sent_count s false e t = let end = at_end s e in (λ k. (omega arith, omega arith), λ k l. omega arith)

  -- a message is there exactly where it is sent
  pub there-sent : (s : Point) (side : Side) (t : ℕ) → t < length (member sent s) →
      is_sent (rounds_in next inputs most w) (delivered_in w) (to_side s side t) ≡ true
  there-sent s side t lt =
      let p = (sent_count s (member cores s).handed refl t).0 (omega (arith, counted s, lt)) in
      sent_from three-is (rounds_in next inputs most w) (delivered_in w) (to_side s side t)
      (not_from_false (same s (peer s side)) (same_not s (peer s side) (λ e. peer-apart s side (sym e))))
      p.0 (omega (arith, p.1, at_round s))

  pub sent-there : (s : Point) (side : Side) (t : ℕ) → is_sent (rounds_in next inputs most w) (delivered_in w) (to_side s side t) ≡ true →
      t < length (member sent s)
  sent-there s side t is =
      let p = sent_parts three-is (rounds_in next inputs most w) (delivered_in w) (to_side s side t) is in
      let q = (sent_count s (member cores s).handed refl t).1 p.1.0 (omega (arith, p.1.1, at_round s)) in
      omega (arith, counted s, q)

  -- it is a round of the run, at most one after the rounds that the receiver has passed
  pub close : (s : Point) (side : Side) (t : ℕ) → t < length (member sent s) →
      (IsRound (setup_in next inputs most w) t) × (t ≤ (member cores (peer s side)).round + 1)
  close s side t lt =
      let is = there-sent s side t lt in
      let p = sent_parts three-is (rounds_in next inputs most w) (delivered_in w) (to_side s side t) is in
      let was = subst (λ (x : Delivered). WasSent three (rounds_in next inputs most w) x) (sym i.reached)
      (was_sent three-is (rounds_in next inputs most w) i.events) in
      let q = near three-is (rounds_in next inputs most w) (delivered_in w) was (to_side s side t) is in
      ((is_round (setup_in next inputs most w) (rounds_in next inputs most w) t h).1 p.1.0, omega (arith, q, at_round (peer s side)))

  -- the messages that were sent in a round
  pub sent-at : (s : Point) (t : ℕ) → t < length (member sent s) →
      slice_get (member sent s) t ≡ Some (messages_from (setup_in next inputs most w) s t)
  sent-at s t lt =
      let c = member cores s in
      ap (λ l. slice_get l t) (i.sent_all s)
      ∙ get-each (messages_from (setup_in next inputs most w) c.me) (taken c.round c.handed) t (omega (arith, counted s, lt))
      ∙ ap (λ m. Some (messages_from (setup_in next inputs most w) m t)) (i.standing s).name

  -- the set with a message that was sent is the one after its event
  module _ (from : Point) (side : Side) (t : ℕ) (lt : t < length (member sent from)) where
    abbrev pub marked_world : World S
    marked_world = record w { marks = with_mark w.marks from side t }

    pub within : mark_at from side t < length w.marks
    within =
        let p = sent_parts three-is (rounds_in next inputs most w) (delivered_in w) (to_side from side t) (there-sent from side t lt) in
        omega (arith, i.room, place-within from side t (most w.start.one.script) (omega (arith, p.1.0, few)))

    pub set-after : delivered_in (record w { marks = with_mark w.marks from side t }) ≡ with_triple (delivered_in w) (to_side from side t)
    set-after = set-with_mark w.marks from side t within

    pub is-delivered : delivered_in (record w { marks = with_mark w.marks from side t })
        ≡ deliver (rounds_in next inputs most w) (delivered_in w) (to_side from side t)
    is-delivered = set-after ∙ sym (deliver_sent three-is (rounds_in next inputs most w) (delivered_in w)
        (to_side from side t) (there-sent from side t lt))

    -- the message may be given to its receiver, for which it comes from the other side
    pub may-give : (m : RoundMessage) (back : Side) →
        m ≡ message_of (setup_in next inputs most w) from (peer from side) t → peer (peer from side) back ≡ from →
        MayGive next (setup_in next inputs most w) (delivered_in w) (rounds_in next inputs most w) back t
        (member cores (peer from side)) (member sent (peer from side)) m
    may-give m back is other =
        let c = i.standing (peer from side) in
        let near = close from side t lt in
        record {
          has_rounds = h;
          fits = c.fits;
          going = c.going;
          sends = i.sent_all (peer from side);
          is_round = near.0;
          near = near.1;
          is_message = is ∙ (λ k. message_of (setup_in next inputs most w) (sym other k) (peer from side) t)
              ∙ (λ k. message_of (setup_in next inputs most w) (peer (sym c.name k) back) (sym c.name k) t);
        }

    -- the receiver then stands in the `World` after the event
    pub given-stands : (back : Side) (d : Core S) (sent' : List (List RoundMessage)) (v : Verdict) → peer (peer from side) back ≡ from →
        Keeps (member cores (peer from side)) d → is_quiet next d ≡ true →
        IsGiven next (setup_in next inputs most w) (delivered_in w) (rounds_in next inputs most w) back t
        (member cores (peer from side)) d sent' v →
        StandsIn next inputs most (record w { marks = with_mark w.marks from side t }) (peer from side) d
    given-stands back d sent' v other keeps quiet g =
        let c = i.standing (peer from side) in
        let e1 : with_triple (delivered_in w) (record {
          from = peer (member cores (peer from side)).me back;
          to = (member cores (peer from side)).me;
          round = t;
        })
        ≡ with_triple (delivered_in w) (record { from = peer (peer from side) back; to = peer from side; round = t }) =
        λ k. with_triple (delivered_in w) (record { from = peer (c.name k) back; to = c.name k; round = t }) in
        let e2 : with_triple (delivered_in w) (record { from = peer (peer from side) back; to = peer from side; round = t })
        ≡ with_triple (delivered_in w) (to_side from side t) =
        λ k. with_triple (delivered_in w) (record { from = other k; to = peer from side; round = t }) in
        record {
          name = keeps.me ∙ c.name;
          fits = subst (λ (x : Delivered). Fits next (setup_in next inputs most w) x d) (e1 ∙ e2 ∙ sym set-after) g.fits;
          quiet = quiet;
          going = g.going;
        }

    -- a server that did not get it fits as before
    other-stands : (s : Point) → s ≢ peer from side →
        StandsIn next inputs most (record w { marks = with_mark w.marks from side t }) s (member cores s)
    other-stands s other =
        let c = i.standing s in
        record {
          name = c.name;
          fits = subst (λ (x : Delivered). Fits next (setup_in next inputs most w) x (member cores s)) (sym set-after)
              (away next (setup_in next inputs most w) (delivered_in w) (member cores s) (to_side from side t)
              (λ e. other (sym (e ∙ c.name))) c.fits);
          quiet = c.quiet;
          going = c.going;
        }

    -- the `World` after the event
    pub world-after : (cores' : Trio (Core S)) (sent' : Trio (List (List RoundMessage))) →
        StandsIn next inputs most (record w { marks = with_mark w.marks from side t }) (peer from side) (member cores' (peer from side)) →
        member sent' (peer from side) ≡ sent_by (setup_in next inputs most w) (member cores' (peer from side)) →
        ((s : Point) → s ≢ peer from side → (member cores' s ≡ member cores s) × (member sent' s ≡ member sent s)) →
        IsWorld next inputs most (record w { marks = with_mark w.marks from side t }) cores' sent'
    world-after cores' sent' given sends others = record {
      fresh = i.fresh;
      standing = λ s. elim (which s (peer from side)) [
        | inl it ↦ subst (λ (k : Point). StandsIn next inputs most
            (record w { marks = with_mark w.marks from side t }) k (member cores' k)) (sym it) given
        | inr other ↦ subst (λ (c : Core S). StandsIn next inputs most
            (record w { marks = with_mark w.marks from side t }) s c) (sym (others s other).0) (other-stands s other)
      ];
      sent_all = λ s. elim (which s (peer from side)) [
        | inl it ↦ subst (λ (k : Point). member sent' k ≡ sent_by (setup_in next inputs most w) (member cores' k)) (sym it) sends
        | inr other ↦ (others s other).1 ∙ i.sent_all s ∙ ap (sent_by (setup_in next inputs most w)) (sym (others s other).0)
      ];
      events = i.events ++ to_side from side t ∷ [];
      reached = is-delivered ∙ ap (λ x. deliver (rounds_in next inputs most w) x (to_side from side t)) i.reached
          ∙ sym (after_append three-is (rounds_in next inputs most w) i.events (to_side from side t ∷ []) nothing);
      room = length-set w.marks (mark_at from side t) true ∙ i.room;
    }
