-- What one server does in a round: what it sends, and what the three messages to it give.
use Rattle.std.specs.Prelude.{ℕ, ◌+◌, List, [], ◌∷◌, ◌++◌, slice_index, slice_get, take, Option, Some, None, Bool, true}
use Rattle.std.specs.Prelude.{false, option_map, option_and_then}
use Rattle.beet_field.specs.declared.point.Point.{Point}
use Rattle.beet_field.specs.declared.point.Point.TheVariants.{One, Two, Three}
use Rattle.beet_words.specs.Tapes.{Tape, drawn_from, left_of}
use Rattle.beet_gates.specs.Clear.{with_lets}
use Rattle.beet_gates.specs.Scripts.{deals_in, size_of}
use Rattle.beet_gates.specs.declared.Batch.{Batch}
use Rattle.beet_gates.specs.Draws.{draws_in}
use Rattle.beet_round.specs.Boxes.{Mailbox, numbers_at, turned}
use Rattle.beet_round.specs.Sides.{peer, side_of}
use Rattle.beet_round.specs.declared.message.RoundMessage.{RoundMessage}
use Rattle.beet_round.specs.declared.sides.Side.{Side}
use Rattle.beet_round.specs.declared.sides.Side.TheVariants.{Low, High}
use Rattle.beet_server.specs.Cores.{Core}
use Rattle.beet_sharing.specs.Steps.{numbers_for, points_given, numbers_opened}

-- what is of a sender, at a server: its own, or that of its lower or higher peer
abbrev pub at_side : {A : Type 0} → Option Side → A → A → A → A
at_side None own low high = own
at_side (Some Low) own low high = low
at_side (Some High) own low high = high

-- what computes in a server
pub record Work (S : Type 0) : Type 0 where
  pub me : Point
  pub script : S
  pub masks : Tape
  pub coefficients : Tape
  pub round : ℕ
  pub wires : List ℕ
  pub opened : List ℕ
  pub own : List ℕ
  pub handed : Bool

-- a core is what computes, the messages of the passed rounds, and the box
abbrev pub core_of : {S : Type 0} → Work S → List (List RoundMessage) → Mailbox → Core S
core_of w received mail = record {
  me = w.me;
  script = w.script;
  masks = w.masks;
  coefficients = w.coefficients;
  round = w.round;
  received = received;
  wires = w.wires;
  opened = w.opened;
  own = w.own;
  mail = mail;
  handed = w.handed;
}

-- what computes in a core
abbrev pub work_of : {S : Type 0} → Core S → Work S
work_of c = record {
  me = c.me;
  script = c.script;
  masks = c.masks;
  coefficients = c.coefficients;
  round = c.round;
  wires = c.wires;
  opened = c.opened;
  own = c.own;
  handed = c.handed;
}

-- the numbers of a sender, if these came from the lower and the higher peer
abbrev pub came_from : {S : Type 0} → Work S → List ℕ → List ℕ → Point → List ℕ
came_from w low high sender = at_side (side_of w.me sender) w.own low high

module _ {S : Type 0} (next : S → ℕ → List ℕ → Batch) where
  -- the batch that comes
  abbrev pub batch_of : Work S → Batch
  batch_of w = next w.script w.round w.opened

  -- the numbers of the round for a server
  abbrev pub sends : Work S → Point → List ℕ
  sends w to =
      let act = (batch_of w).act in
      numbers_for act w.wires (slice_index w.masks.words w.masks.passed)
      (take (draws_in act) (left_of w.coefficients)) to

  -- the messages of the round are handed out, and the words and numbers are taken for them
  abbrev pub handing : Work S → Work S
  handing w = record w {
    masks = record w.masks { passed = w.masks.passed + deals_in (batch_of w).act };
    coefficients = drawn_from w.coefficients (draws_in (batch_of w).act);
    own = sends w w.me;
    handed = true;
  }

  -- the points of the wires with those that these numbers from the peers give
  abbrev pub wires_given : Work S → List ℕ → List ℕ → List ℕ
  wires_given w low high =
      let from = came_from w low high in
      w.wires ++ points_given (batch_of w).act (from One) (from Two) (from Three)

  -- the opened numbers with those that they open
  abbrev pub opened_after : Work S → List ℕ → List ℕ → List ℕ
  opened_after w low high =
      let from = came_from w low high in
      w.opened ++ numbers_opened (batch_of w).act (from One) (from Two) (from Three)

  -- the round is passed with these numbers from the peers, and the lets of the next batch are there
  abbrev pub passing : Work S → List ℕ → List ℕ → Work S
  passing w low high =
      let opened = opened_after w low high in
      record w {
        round = w.round + 1;
        wires = with_lets (wires_given w low high) (next w.script (w.round + 1) opened).lets.items;
        opened = opened;
        own = [];
        handed = false;
      }

  -- both messages, if they are there
  abbrev pub both_of : Option RoundMessage → Option RoundMessage → List RoundMessage
  both_of (Some low) (Some high) = low ∷ high ∷ []
  both_of None high = []
  both_of (Some low) None = []

  -- the message of a core's round to its peer of a side
  abbrev pub message_out : Core S → Side → RoundMessage
  message_out c side =
      let to = peer c.me side in
      record { from = c.me; to = to; round = c.round; numbers = record { items = sends (work_of c) to } }

  -- both messages of its round, to the lower peer first
  abbrev pub messages_out : Core S → List RoundMessage
  messages_out c = message_out c Low ∷ message_out c High ∷ []

  -- a core hands out the messages of its round
  abbrev pub handed_out : Core S → Core S
  handed_out c = core_of (handing (work_of c)) c.received c.mail

  -- a core passes the round whose messages are in its box
  abbrev pub moved_on : Core S → Core S
  moved_on c =
      let w = passing (work_of c) (numbers_at c.mail.now Low) (numbers_at c.mail.now High) in
      core_of w (c.received ++ both_of c.mail.now.low c.mail.now.high ∷ []) (turned c.mail (size_of (batch_of w).act))

-- the numbers of a sender in a passed round
abbrev pub received_from : {S : Type 0} → Core S → ℕ → Point → Option (List ℕ)
received_from c round sender =
    option_and_then (λ messages. option_map (λ m. m.numbers.items)
    (at_side (side_of c.me sender) None (slice_get messages 0) (slice_get messages 1)))
    (slice_get c.received round)
