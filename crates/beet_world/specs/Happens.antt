-- What is known when a message of a run is given to a server, and after it.
use Rattle.std.specs.Prelude.{◌≡◌, ◌+◌, ◌<◌, ◌≤◌, ℕ, List, true, Vec, vec_capacity, length, Option, Some, None}
use Rattle.std.specs.Prelude.{if◌then◌else◌}
use Rattle.std.specs.Global.{Global}
use Rattle.beet_round.specs.declared.sides.Side.TheVariants.{Low, High}
use Rattle.beet_world.specs.declared.world.Event.{Event}
use Rattle.beet_world.specs.declared.world.Event.TheVariants.{Delivered, NotSent}
use Rattle.beet_gates.specs.declared.Batch.{Batch}
use Rattle.beet_field.specs.declared.point.Point.{Point}
use Rattle.beet_round.specs.Sides.{peer, side_of}
use Rattle.beet_round.specs.declared.mailbox.Verdict.{Verdict}
use Rattle.beet_round.specs.declared.mailbox.Verdict.TheVariants.{Stranger}
use Rattle.beet_round.specs.declared.message.RoundMessage.{RoundMessage}
use Rattle.beet_round.specs.declared.sides.Side.{Side}
use Rattle.beet_server.specs.Answers.{Keeps, verdict_on}
use Rattle.beet_server.specs.Cores.{Core, is_quiet}
use Rattle.beet_delivery.specs.Events.{Delivered as Set, Triple, deliver, is_sent, passed, with_triple}
use Rattle.beet_server.specs.Fits.{Fits, IsRound, message_of, taken}
use Rattle.beet_sharing.specs.Runs.{HasRounds, Setup}
use Rattle.beet_world.specs.Worlds.{World, delivered_in, rounds_in, sent_by}

module _ {S : Type 0} (next : S → ℕ → List ℕ → Batch) (o : Setup) (x : Set) (rounds : ℕ) (s : Side) (t : ℕ) where
  -- the message of the round t of a run comes from the other server of this side, at most one round early, to a core
  -- that fits the run
  pub record MayGive (c : Core S) (sent : List (List RoundMessage)) (m : RoundMessage) : Type 0 where
    pub has_rounds : HasRounds o rounds
    pub fits : Fits next o x c
    pub going : c.handed ≡ true → c.round < rounds
    pub sends : sent ≡ sent_by o c
    pub is_round : IsRound o t
    pub near : t ≤ c.round + 1
    pub is_message : m ≡ message_of o (peer c.me s) c.me t

  -- the core fits with this message more, what it has sent is that of the run, and the set and its round told the
  -- verdict
  pub record IsGiven (old new : Core S) (sent : List (List RoundMessage)) (v : Verdict) : Type 0 where
    pub fits : Fits next o (with_triple x (record { from = peer old.me s; to = old.me; round = t })) new
    pub going : new.handed ≡ true → new.round < rounds
    pub sends : sent ≡ sent_by o new
    pub told : v ≡ verdict_on x old.me old.round s t

-- of the messages to the lower and to the higher peer, that of a side
abbrev pub of_side : Side → RoundMessage → RoundMessage → RoundMessage
of_side Low low high = low
of_side High low high = high

-- what a core has handed out is there, and there is room for the messages of all its rounds
pub record HoldsMessages {S : Type 0} (rounds : ℕ) (c : Core S) (sent : Vec (List RoundMessage) Global) : Type 0 where
  pub room : rounds ≤ vec_capacity sent
  pub counted : length sent.items ≡ taken c.round c.handed
  pub within : length sent.items ≤ rounds

module _ {S : Type 0} (next : S → ℕ → List ℕ → Batch) (rounds : ℕ) where
  -- and it has nothing left to hand out
  pub record MayTakeMessages (c : Core S) (sent : Vec (List RoundMessage) Global) : Type 0 where
    pub quiet : is_quiet next c ≡ true
    pub holds : HoldsMessages rounds c sent

  -- after it took messages the same is so again; its name, script, words and room stay
  pub record HasTakenMessages (old new : Core S) (before after : Vec (List RoundMessage) Global) : Type 0 where
    pub capacity : vec_capacity after ≡ vec_capacity before
    pub keeps : Keeps old new
    pub quiet : is_quiet next new ≡ true
    pub counted : length after.items ≡ taken new.round new.handed
    pub within : length after.items ≤ rounds

-- the verdict of a server in a round on a message of the run; one from the server itself is a stranger's, and none is
-- sent
abbrev pub verdict_from : Set → Point → ℕ → Option Side → ℕ → Verdict
verdict_from x s round None t = Stranger
verdict_from x s round (Some side) t = verdict_on x s round side t

-- what becomes of a message: not sent, or delivered with the verdict of its receiver, which is at its passed rounds
abbrev pub event_of : ℕ → Set → Triple → Event
event_of rounds x e =
    if is_sent rounds x e then
    Delivered (verdict_from x e.to (passed rounds x e.to) (side_of e.to e.from) e.round) else NotSent

-- an event changes the set as it says, and if the message was not sent, nothing
pub record HasHappened {S : Type 0} (next : S → ℕ → List ℕ → Batch) (inputs most : S → ℕ) (old : World S) (e : Triple)
    (event : Event) (new : World S) : Type 0 where
  pub delivered : delivered_in new ≡ deliver (rounds_in next inputs most old) (delivered_in old) e
  pub start : new.start ≡ old.start
  pub told : event ≡ event_of (rounds_in next inputs most old) (delivered_in old) e
  pub unchanged : event ≡ NotSent → new ≡ old
