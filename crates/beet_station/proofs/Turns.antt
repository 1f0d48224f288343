-- One round of a server with its ends.
use Rattle.std.proofs.Common.{◌≡◌, ◌<◌, ◌+◌, ℕ, List, [], true, false, inl, inr, sym, ap, subst, ◌∙◌, arith}
use Rattle.std.proofs.lemmas.Bool.{both_ways, cases_lt}
use Rattle.beet_field.specs.Trio.{member}
use Rattle.beet_field.specs.declared.point.Point.{Point}
use Rattle.beet_field.specs.declared.trio.Trio.{Trio}
use Rattle.beet_gates.specs.Scripts.{LawFrom, Standing, bounds_of, start_of}
use Rattle.beet_gates.specs.declared.Batch.{Batch}
use Rattle.beet_round.specs.Sides.{peer}
use Rattle.beet_round.specs.declared.mailbox.Verdict.{Verdict}
use Rattle.beet_round.specs.declared.message.RoundMessage.{RoundMessage}
use Rattle.beet_round.specs.declared.sides.Side.TheVariants.{Low, High}
use Rattle.beet_sharing.specs.Runs.{HasRounds, Setup}
use Rattle.beet_sharing.proofs.Rounds.{lawful-rounds}
use Rattle.beet_delivery.specs.Events.{Delivered, all_delivered}
use Rattle.beet_server.specs.Answers.{Keeps, Moves}
use Rattle.beet_server.specs.Cores.{Core, has_ended, is_quiet, setup_of}
use Rattle.beet_server.specs.Fits.{Fits, IsRound, message_of}
use Rattle.beet_server.proofs.Passing.{ended_at, is_round, round_most}
use Rattle.beet_server.specs.Lockstep.{HasHanded, IsAtRound}
use Rattle.beet_server.proofs.Rounds.{hands-out, high-taken, loud-then, low-taken, quiet-then, with_low}
use Rattle.beet_link.specs.Ends.{IsNext, LinkEnd, end_at, one_on}
use Rattle.beet_link.specs.Streams.{rounds_from}
use Rattle.beet_link.proofs.StreamFacts.{next-is, next-only}
use Rattle.beet_station.specs.declared.station.Station.{Station}
use Rattle.beet_station.specs.Stations.{HasHeard, HasPut, IsEnded, IsTied}

pub keeps-on : {S : Type 0} (a b c : Core S) → Keeps a b → Keeps b c → Keeps a c
keeps-on a b c k l = record {
  me = l.me ∙ k.me;
  script = l.script ∙ k.script;
  masks = l.masks ∙ k.masks;
  coefficients = l.coefficients ∙ k.coefficients;
}

-- the bounds of each script
abbrev pub bounds_at : {S : Type 0} → (wires masks coefficients : S → ℕ) → S → Standing
bounds_at wires masks coefficients script = bounds_of (wires script) (masks script) (coefficients script)

-- one end moved one message
moved-one : (room : ℕ) (l : List RoundMessage) (t u : ℕ) (old new : LinkEnd) → old ≡ end_at room l t →
    new ≡ one_on old → u ≡ t + 1 → new ≡ end_at room l u
moved-one room l t u old new is next count = next ∙ ap one_on is ∙ ap (end_at room l) (sym count)

module _ {S : Type 0} (next : S → ℕ → List ℕ → Batch) (inputs most : S → ℕ) (bounds : S → Standing)
    (lawful : (s : S) → LawFrom (next s) (bounds s) (most s) (start_of (inputs s)) []) (start : Trio (Core S)) where
  abbrev run : Setup
  run = setup_of next inputs start

  abbrev rounds : ℕ
  rounds = rounds_from next inputs most start

  pub has-rounds : HasRounds run rounds
  has-rounds =
      let first = start.one.script in
      (lawful-rounds run (bounds first) (most first) (inputs first) (lawful first)).0

  -- a core that has not ended is at a round of the run
  below : (x : Delivered) (c : Core S) → Fits next run x c → has_ended next c ≡ false → c.round < rounds
  below x c f going = elim (cases_lt c.round rounds) [
    | inl lt ↦ lt
    | inr le ↦
        let within = round_most next run x c rounds has-rounds f in
        let last : c.round ≡ rounds = omega (arith, le, within) in
        absurd (both_ways (has_ended next c) going ((ended_at next run x c rounds has-rounds f).1 last))
  ]

  module _ {Place : Type 0} (s : Point) (x : Station S Place) (tied : IsTied next inputs most start s x)
      (going : has_ended next x.core ≡ false) where
    abbrev t : ℕ
    t = x.core.round

    -- the round is one of the run
    pub within : t < rounds
    within = below (all_delivered t) x.core tied.stands.fits going

    on : IsRound run t
    on = (is_round run rounds t has-rounds).1 within

    -- the messages of the round are still to be handed out
    pub loud : is_quiet next x.core ≡ false
    loud = loud-then next run t s x.core tied.stands on

    -- and are the next of the two links
    pub puts-low : (low : RoundMessage) → low ≡ message_of run x.core.me (peer x.core.me Low) t → IsNext x.to_low low
    puts-low low is =
        next-is run rounds s (peer s Low) t x.to_low low tied.to_low within
        (is ∙ (λ i. message_of run (tied.stands.name i) (peer (tied.stands.name i) Low) t))

    pub puts-high : (high : RoundMessage) → high ≡ message_of run x.core.me (peer x.core.me High) t → IsNext x.to_high high
    puts-high high is =
        next-is run rounds s (peer s High) t x.to_high high tied.to_high within
        (is ∙ (λ i. message_of run (tied.stands.name i) (peer (tied.stands.name i) High) t))

    -- so both are put
    pub puts-both : (y : Station S Place) → Fits next run (all_delivered t) y.core → Keeps x.core y.core → Moves x.core y.core →
        y.to_low ≡ one_on x.to_low → y.to_high ≡ one_on x.to_high → y.from_low ≡ x.from_low → y.from_high ≡ x.from_high →
        HasPut next inputs most start s x y
    puts-both y fits keeps moves to_low to_high from_low from_high = record {
      is_round = on;
      handed = hands-out next run t s x.core y.core tied.stands fits keeps.me moves;
      keeps = keeps;
      to_low = to_low;
      to_high = to_high;
      from_low = from_low;
      from_high = from_high;
    }

  -- a server that has ended has passed all rounds
  pub all-passed : {Place : Type 0} (s : Point) (x : Station S Place) → IsTied next inputs most start s x →
      has_ended next x.core ≡ true → IsEnded next inputs most start s x.core
  all-passed s x tied over = record {
    stands =
        subst (λ r. IsAtRound next run r s x.core)
        ((ended_at next run (all_delivered x.core.round) x.core rounds has-rounds tied.stands.fits).0 over) tied.stands;
    over = over;
    keeps = tied.keeps;
  }

-- a round from the moment that its messages are put
module _ {S : Type 0} (next : S → ℕ → List ℕ → Batch) (inputs most : S → ℕ) (start : Trio (Core S)) {Place : Type 0} (s : Point)
    (x y : Station S Place) (tied : IsTied next inputs most start s x) (put : HasPut next inputs most start s x y) where
  abbrev o : Setup
  o = setup_of next inputs start

  abbrev turn : ℕ
  turn = x.core.round

  -- nothing is to be handed out
  pub quiet : is_quiet next y.core ≡ true
  quiet = quiet-then next o turn (all_delivered turn) s y.core put.handed

  module _ (from_low : LinkEnd) (same_low : from_low ≡ x.from_low) (c : Core S) (v : Verdict)
      (heard : HasHeard next y.core c from_low v) (keeps_low : Keeps y.core c) where
    after-low : HasHanded next o turn (with_low s turn) s c
    after-low =
        low-taken next o turn s y.core c heard.message v put.handed put.is_round heard.answers heard.fits keeps_low.me
        (next-only o (rounds_from next inputs most start) (peer s Low) s turn from_low heard.message
        (same_low ∙ tied.from_low) heard.is_next)

    -- and neither is once the lower peer's message is in
    pub quiet-still : is_quiet next c ≡ true
    quiet-still = quiet-then next o turn (with_low s turn) s c after-low

    module _ (from_high : LinkEnd) (same_high : from_high ≡ x.from_high) (d : Core S) (w : Verdict)
        (heard_high : HasHeard next c d from_high w) (keeps_high : Keeps c d) where
      -- with both messages the server has passed the round
      pub passes : IsAtRound next o (turn + 1) s d
      passes =
          high-taken next o turn s c d heard_high.message w after-low put.is_round heard_high.answers heard_high.fits keeps_high.me
          (next-only o (rounds_from next inputs most start) (peer s High) s turn from_high heard_high.message
          (same_high ∙ tied.from_high) heard_high.is_next)

      -- and stands at the next
      pub steps : (z : Station S Place) → z.core ≡ d → z.to_low ≡ y.to_low → z.to_high ≡ y.to_high →
          z.from_low ≡ one_on from_low → z.from_high ≡ one_on from_high → IsTied next inputs most start s z
      steps z is to_low to_high low high = record {
        stands = subst (λ (e : Core S). IsAtRound next o e.round s e) (sym is)
            (subst (λ r. IsAtRound next o r s d) (sym passes.round) passes);
        keeps = subst (λ (e : Core S). Keeps (member start s) e) (sym is)
            (keeps-on _ _ _ (keeps-on _ _ _ (keeps-on _ _ _ tied.keeps put.keeps) keeps_low) keeps_high);
        to_low = moved-one _ _ turn _ x.to_low z.to_low tied.to_low (to_low ∙ put.to_low) (count z is);
        to_high = moved-one _ _ turn _ x.to_high z.to_high tied.to_high (to_high ∙ put.to_high) (count z is);
        from_low = moved-one _ _ turn _ x.from_low z.from_low tied.from_low (low ∙ ap one_on same_low) (count z is);
        from_high = moved-one _ _ turn _ x.from_high z.from_high tied.from_high (high ∙ ap one_on same_high) (count z is);
      } where
        count : (z : Station S Place) → z.core ≡ d → z.core.round ≡ turn + 1
        count z is = ap (λ (e : Core S). e.round) is ∙ passes.round
