-- A server of a run with its ends, and how three of them begin and end.
use Rattle.std.specs.Prelude.{◌≡◌, ◌≤◌, ◌+◌, ℕ, List, true, false}
use Rattle.beet_field.specs.Trio.{member}
use Rattle.beet_field.specs.declared.point.Point.{Point}
use Rattle.beet_field.specs.declared.point.Point.TheVariants.{One, Two, Three}
use Rattle.beet_field.specs.declared.trio.Trio.{Trio}
use Rattle.beet_gates.specs.declared.Batch.{Batch}
use Rattle.beet_round.specs.Sides.{peer}
use Rattle.beet_round.specs.declared.mailbox.Verdict.{Verdict}
use Rattle.beet_round.specs.declared.message.RoundMessage.{RoundMessage}
use Rattle.beet_round.specs.declared.sides.Side.{Side}
use Rattle.beet_round.specs.declared.sides.Side.TheVariants.{Low, High}
use Rattle.beet_sharing.specs.Runs.{Setup}
use Rattle.beet_delivery.specs.Events.{Delivered, all_delivered, with_triple}
use Rattle.beet_server.specs.Answers.{Answers, Keeps}
use Rattle.beet_server.specs.Cores.{Core, has_ended, setup_of}
use Rattle.beet_server.specs.Fits.{Fits, IsRound, message_of}
use Rattle.beet_server.specs.Lockstep.{HasHanded, IsAtRound}
use Rattle.beet_link.specs.Ends.{IsNext, LinkEnd, one_on}
use Rattle.beet_link.specs.Streams.{link_at, rounds_from}
use Rattle.beet_station.specs.declared.station.Station.{Station}

module _ {S : Type 0} (next : S → ℕ → List ℕ → Batch) where
  -- a core was given the next message of a link, and this is its verdict
  pub record HasHeard (old new : Core S) (from : LinkEnd) (v : Verdict) : Type 0 where
    pub message : RoundMessage
    pub is_next : IsNext from message
    pub answers : has_ended next old ≡ false → Answers next old new message v
    pub fits : (o : Setup) (x : Delivered) (s : Side) (t : ℕ) → Fits next o x old →
        message ≡ message_of o (peer old.me s) old.me t → IsRound o t →
        t ≤ old.round + 1 → Fits next o (with_triple x (record { from = peer old.me s; to = old.me; round = t })) new

module _ {S : Type 0} (next : S → ℕ → List ℕ → Batch) (inputs most : S → ℕ) where
  -- a server of the run of three fresh cores, at a round that it has to hand out: the messages of all rounds before
  -- are delivered to it and no others, and on each of its links it has put or taken as many
  pub record IsTied {Place : Type 0} (start : Trio (Core S)) (s : Point) (x : Station S Place) : Type 0 where
    pub stands : IsAtRound next (setup_of next inputs start) x.core.round s x.core
    pub keeps : Keeps (member start s) x.core
    pub to_low : x.to_low ≡ link_at next inputs most start s (peer s Low) x.core.round
    pub to_high : x.to_high ≡ link_at next inputs most start s (peer s High) x.core.round
    pub from_low : x.from_low ≡ link_at next inputs most start (peer s Low) s x.core.round
    pub from_high : x.from_high ≡ link_at next inputs most start (peer s High) s x.core.round

  -- a server of the run has handed out its messages of a round and put one more on each of its links, and has taken
  -- none
  pub record HasPut {Place : Type 0} (start : Trio (Core S)) (s : Point) (before after : Station S Place) : Type 0 where
    pub is_round : IsRound (setup_of next inputs start) before.core.round
    pub handed : HasHanded next (setup_of next inputs start) before.core.round (all_delivered before.core.round) s
        after.core
    pub keeps : Keeps before.core after.core
    pub to_low : after.to_low ≡ one_on before.to_low
    pub to_high : after.to_high ≡ one_on before.to_high
    pub from_low : after.from_low ≡ before.from_low
    pub from_high : after.from_high ≡ before.from_high

  -- so stand all three
  pub record AreTied {Place : Type 0} (start : Trio (Core S)) (stations : Trio (Station S Place)) : Type 0 where
    pub one : IsTied start One stations.one
    pub two : IsTied start Two stations.two
    pub three : IsTied start Three stations.three

  -- the core of a server has passed all rounds of the run of three fresh cores, with all its messages delivered, and
  -- still has the words that it began with
  pub record IsEnded (start : Trio (Core S)) (s : Point) (c : Core S) : Type 0 where
    pub stands : IsAtRound next (setup_of next inputs start) (rounds_from next inputs most start) s c
    pub over : has_ended next c ≡ true
    pub keeps : Keeps (member start s) c

  -- so have all three
  pub record AreEnded (start cores : Trio (Core S)) : Type 0 where
    pub one : IsEnded start One cores.one
    pub two : IsEnded start Two cores.two
    pub three : IsEnded start Three cores.three
