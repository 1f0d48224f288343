-- Which messages are delivered after a list of events among three servers, and what follows from it.
use Rattle.std.specs.Prelude.{ℕ, not, List, [], ◌∷◌, Bool, true, false}
use Rattle.beet_field.specs.declared.point.Point.{Point}
use Rattle.beet_field.specs.declared.point.Point.TheVariants.{One, Two, Three}
use Rattle.beet_round.specs.Sides.{peer}
use Rattle.beet_round.specs.declared.sides.Side.TheVariants.{Low, High}
use Rattle.beet_delivery.specs.Networks as among

-- whether two servers are the same
abbrev pub same : Point → Point → Bool
same One One = true
same Two Two = true
same Three Three = true
same _ _ = false

-- three servers, each of which hears the other two
abbrev pub three : among.Network Point
three = record {
  servers = One ∷ Two ∷ Three ∷ [];
  peers = λ s. peer s Low ∷ peer s High ∷ [];
  same = same;
  sends = λ from to. not (same from to);
}

-- a message by its name: from one server to another in a round
abbrev pub Triple : Type 0
Triple = among.Triple Point

-- a set of messages: whether each is in it
abbrev pub Delivered : Type 0
Delivered = among.Delivered Point

-- the empty set
abbrev pub nothing : Delivered
nothing = among.nothing

-- whether a set has a message
abbrev pub has : Delivered → Triple → Bool
has = among.has

-- the set with one message more; a repeat changes nothing
abbrev pub with_triple : Delivered → Triple → Delivered
with_triple = among.with_triple three

-- whether both messages of a round to a server are in the set
abbrev pub both_in : Delivered → Point → ℕ → Bool
both_in = among.all_in three

-- the rounds that a server has passed, in a run of so many: both its messages of each are in the set
abbrev pub passed : ℕ → Delivered → Point → ℕ
passed = among.passed three

-- whether a message is sent: its sender has passed all rounds before its own
abbrev pub is_sent : ℕ → Delivered → Triple → Bool
is_sent = among.is_sent three

-- whether a message is sent and not in the set
abbrev pub is_missing : ℕ → Delivered → Triple → Bool
is_missing = among.is_missing three

-- an event: a message is delivered, if it is sent
abbrev pub deliver : ℕ → Delivered → Triple → Delivered
deliver = among.deliver three

-- the set after a list of events, from a set on
abbrev pub after_from : ℕ → Delivered → List Triple → Delivered
after_from = among.after_from three

-- the set after a list of events
abbrev pub after : ℕ → List Triple → Delivered
after = among.after three

-- the events that add a message: without those that were not sent, and without repeats
abbrev pub adding : ℕ → Delivered → List Triple → List Triple
adding = among.adding three

-- all messages of a run of so many rounds, by round, sender and receiver
abbrev pub all_triples : ℕ → List Triple
all_triples = among.all_triples three

-- the messages of a set in this order, without repeats
abbrev pub listed : ℕ → Delivered → List Triple
listed = among.listed three

-- how many messages are sent and not in the set
abbrev pub undelivered : ℕ → Delivered → ℕ
undelivered = among.undelivered three

-- the set of all messages of a run of so many rounds
abbrev pub all_delivered : ℕ → Delivered
all_delivered = among.all_delivered three
