-- What always holds of what computes in a server.
use Rattle.std.specs.Prelude.{◌≡◌, ℕ, ◌+◌, ◌*◌, ◌^◌, ◌<◌, ◌≤◌, List, length, Bool, true, false}
use Rattle.beet_field.specs.declared.point.Point.{Point}
use Rattle.beet_field.specs.declared.TheConstants.{MOST_NUMBERS}
use Rattle.beet_words.specs.Tapes.{Tape, left_of}
use Rattle.beet_gates.specs.Scripts.{Standing, LawFrom, deals_in, size_of}
use Rattle.beet_gates.specs.declared.Batch.{Batch}
use Rattle.beet_gates.specs.Draws.{draws_in}
use Rattle.beet_round.specs.Boxes.{Mailbox}
use Rattle.beet_round.specs.declared.message.RoundMessage.{RoundMessage}
use Rattle.beet_server.specs.Steps.{Work, batch_of}

-- a number once the messages of the round are handed out, and else none
abbrev pub if_handed : Bool → ℕ → ℕ
if_handed true n = n
if_handed false n = 0

-- the script is as far as its batches before this round led it; the wires and tapes are as many as it counts among so
-- many servers that draw so many numbers for each secret, and there is room for all that may come
pub record IsSound (servers numbers : ℕ) (next : ℕ → List ℕ → Batch) (bounds : Standing) (rounds : ℕ)
    (batch : Batch) (round : ℕ)
    (wires opened : List ℕ) (masks coefficients : Tape) (handed : Bool) (wire_room opened_room : ℕ) : Type 0 where
  pub coming : batch ≡ next round opened
  pub standing : Standing
  pub dealers : standing.dealers ≡ servers
  pub left : ℕ
  pub done : standing.done ≡ round
  pub few : round + left ≤ rounds
  pub law : LawFrom next bounds left standing opened
  pub counted : length wires ≡ standing.wires + length batch.lets.items
  pub answers : length opened ≤ MOST_NUMBERS * round
  pub dealt : masks.passed ≡ standing.masks + if_handed handed (deals_in batch.act)
  pub words : bounds.masks ≤ length masks.words
  pub drawn : numbers * bounds.coefficients
      ≤ length (left_of coefficients) + numbers * (standing.coefficients + if_handed handed (draws_in batch.act))
  pub wires_fit : bounds.wires ≤ wire_room
  pub opened_fit : MOST_NUMBERS * rounds ≤ opened_room
  pub small : rounds < 2 ^ 32

-- what computes in a server, the messages of the passed rounds and the box are of one round, and there is room for the
-- messages of all rounds
pub record AreTied {S : Type 0} (next : S → ℕ → List ℕ → Batch) (rounds : ℕ) (w : Work S)
    (received : List (List RoundMessage)) (mail : Mailbox) (room : ℕ) (keeper : Point) : Type 0 where
  pub me : mail.me ≡ w.me
  pub round : mail.round ≡ w.round
  pub want : mail.want ≡ size_of (batch_of next w).act
  pub count : length received ≡ w.round
  pub fit : rounds ≤ room
  pub keeps : keeper ≡ w.me
