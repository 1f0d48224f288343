-- How contracts see a `World`.
use Rattle.std.specs.Prelude.{◌≡◌, ◌<◌, ◌≤◌, ◌*◌, ◌+◌, ℕ, List, map, length, Bool, true, Vec, vec_capacity}
use Rattle.std.specs.Global.{Global}
use Rattle.beet_field.specs.Trio.{member}
use Rattle.beet_field.specs.declared.point.Point.{Point}
use Rattle.beet_field.specs.declared.trio.Trio.{Trio}
use Rattle.beet_gates.specs.Each.{each}
use Rattle.beet_gates.specs.declared.Batch.{Batch}
use Rattle.beet_round.specs.declared.message.RoundMessage.{RoundMessage}
use Rattle.beet_server.specs.Cores.{Core, AreFresh, is_quiet, setup_of}
use Rattle.beet_delivery.specs.Events.{Delivered, Triple, after, passed}
use Rattle.beet_server.specs.Fits.{Fits, messages_from, taken}
use Rattle.beet_sharing.specs.Runs.{Setup, rounds_among}
use Rattle.beet_world.specs.Marks.{set_of}
use Rattle.beet_world.specs.declared.schedule.Delivery.{Delivery}

-- the fresh cores that it began with, and a mark for each message that was delivered since
pub record World (S : Type 0) : Type 0 where
  pub start : Trio (Core S)
  pub marks : List Bool

-- a delivery as the name of its message
abbrev pub triple_of : Delivery → Triple
triple_of d = record { from = d.from; to = d.to; round = d.round }

-- the messages of a schedule, in order
abbrev pub named_in : List Delivery → List Triple
named_in schedule = map triple_of schedule

-- the set of the messages that were delivered in a `World`
abbrev pub delivered_in : {S : Type 0} → World S → Delivered
delivered_in w = set_of w.marks

-- the messages of a server that were sent: of each round that it has passed, and of its own once they are handed out
abbrev pub sent_by : {S : Type 0} → Setup → Core S → List (List RoundMessage)
sent_by o c = each (messages_from o c.me) (taken c.round c.handed)

module _ {S : Type 0} (next : S → ℕ → List ℕ → Batch) (inputs most : S → ℕ) where
  abbrev pub setup_in : World S → Setup
  setup_in w = setup_of next inputs w.start

  -- the number of rounds of its run
  abbrev pub rounds_in : World S → ℕ
  rounds_in w = rounds_among (setup_in w) (most w.start.one.script)

  -- the core of a server stands in a `World`: it fits what was delivered, and nothing is left to hand out
  pub record StandsIn (w : World S) (s : Point) (c : Core S) : Type 0 where
    pub name : c.me ≡ s
    pub fits : Fits next (setup_in w) (delivered_in w) c
    pub quiet : is_quiet next c ≡ true
    pub going : c.handed ≡ true → c.round < rounds_in w

  -- the core of a server in a `World`: it has the script and the words that it began with, fits what was delivered, has
  -- nothing left to hand out, is at the rounds that its server has passed, and at most one ahead of each other; some
  -- list of events led there
  pub record IsCoreOf (w : World S) (s : Point) (c : Core S) : Type 0 where
    pub name : c.me ≡ s
    pub script : c.script ≡ w.start.one.script
    pub masks : c.masks.words ≡ (member w.start s).masks.words
    pub coefficients : c.coefficients.words ≡ (member w.start s).coefficients.words
    pub fits : Fits next (setup_in w) (delivered_in w) c
    pub quiet : is_quiet next c ≡ true
    pub going : c.handed ≡ true → c.round < rounds_in w
    pub round : c.round ≡ passed (rounds_in w) (delivered_in w) s
    pub near : (other : Point) →
        passed (rounds_in w) (delivered_in w) s ≤ passed (rounds_in w) (delivered_in w) other + 1
    pub events : List Triple
    pub reached : delivered_in w ≡ after (rounds_in w) events

  -- what a `World` always keeps
  pub record IsWorld (w : World S) (cores : Trio (Core S)) (sent : Trio (List (List RoundMessage))) : Type 0 where
    pub fresh : AreFresh next inputs w.start
    pub standing : (s : Point) → StandsIn w s (member cores s)
    pub sent_all : (s : Point) → member sent s ≡ sent_by (setup_in w) (member cores s)
    pub events : List Triple
    pub reached : delivered_in w ≡ after (rounds_in w) events
    pub room : length w.marks ≡ 6 * most w.start.one.script

  -- what it keeps, with room for the messages of all rounds, and each server's script and words
  pub record HoldsWorld (w : World S) (cores : Trio (Core S))
      (sent : Trio (Vec (List RoundMessage) Global)) : Type 0 where
    pub is_world : IsWorld w cores (record { one = sent.one.items; two = sent.two.items; three = sent.three.items })
    pub room : (s : Point) → most w.start.one.script ≤ vec_capacity (member sent s)
    pub script : (s : Point) → (member cores s).script ≡ w.start.one.script
    pub masks : (s : Point) → (member cores s).masks.words ≡ (member w.start s).masks.words
    pub coefficients : (s : Point) → (member cores s).coefficients.words ≡ (member w.start s).coefficients.words
