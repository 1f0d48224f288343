-- The messages to a server: a place for each round and sender, the server itself among them.
use Rattle.std.specs.Prelude.{◌≡◌, ◌≤◌, ℕ, ◌+◌, ◌-◌, ◌*◌, ◌==◌, ◌&&◌, ◌||◌, not, nat_lt, if◌then◌else◌, List, []}
use Rattle.std.specs.Prelude.{length, Option, Some, None, is_some, Bool, slice_index_or, slice_set}
use Rattle.std.specs.Prelude.{IfSome}
use Rattle.std.specs.List.{list_all}
use Rattle.arrayvec.specs.ArrayVec.{array_vec_len}
use Rattle.beet_field.specs.declared.TheConstants.{MOST_NUMBERS}
use Rattle.beet_weights.specs.Quadratics.{IsServer, servers}
use Rattle.beet_round.specs.declared.mailbox.Verdict.{Verdict}
use Rattle.beet_round.specs.declared.mailbox.Verdict.TheVariants.{Stored, Ready, Repeat, Old, TooEarly, WrongLength}
use Rattle.beet_round.specs.declared.mailbox.Verdict.TheVariants.{Stranger}
use Rattle.beet_five_server.specs.Network.{is_server}
use Rattle.beet_five_server.specs.declared.mail.FiveMessage.{FiveMessage}

-- a server, its round, the length that it wants of the round's messages, and the messages by round and sender
pub record Mailbag : Type 0 where
  pub me : ℕ
  pub round : ℕ
  pub want : ℕ
  pub places : List (Option FiveMessage)

-- the place of a message
abbrev pub place_of : ℕ → ℕ → ℕ
place_of round from = 5 * round + (from - 1)

-- the message of a sender in a round, if it is there
abbrev pub cell : List (Option FiveMessage) → ℕ → ℕ → Option FiveMessage
cell places round from = slice_index_or places (place_of round from) None

-- the numbers of a message, if it is there
abbrev pub numbers_of : Option FiveMessage → List ℕ
numbers_of None = []
numbers_of (Some m) = m.numbers.items

-- the numbers of the round from a sender
abbrev pub numbers_at : Mailbag → ℕ → List ℕ
numbers_at b from = numbers_of (cell b.places b.round from)

-- whether all five messages of a round are there
abbrev pub all_there : List (Option FiveMessage) → ℕ → Bool
all_there places round = list_all (λ j. is_some (cell places round j)) servers

-- the message is put in its place
abbrev pub put : Mailbag → FiveMessage → Mailbag
put b m = record b { places = slice_set b.places (place_of m.round m.from) (Some m) }

-- the message is not to the server, is from the server itself, or is from none of the five
abbrev pub is_stranger : ℕ → FiveMessage → Bool
is_stranger me m = not (m.to == me) || m.from == me || not (is_server m.from)

-- the verdict on a message: the first of these that stands
abbrev pub verdict_of : Mailbag → FiveMessage → Verdict
verdict_of b m =
    if is_stranger b.me m then Stranger
    else if nat_lt m.round b.round then Old
    else if nat_lt (b.round + 1) m.round then TooEarly b.round
    else if is_some (cell b.places m.round m.from) then Repeat
    else if m.round == b.round && not (array_vec_len m.numbers == b.want) then WrongLength (array_vec_len m.numbers)
    else if m.round == b.round && all_there (put b m).places b.round then Ready
    else Stored

-- what a verdict leaves: only `Ready` and `Stored` put the message in its place
abbrev pub left_by : Verdict → Mailbag → FiveMessage → Mailbag
left_by Ready b m = put b m
left_by Stored b m = put b m
left_by _ b m = b

-- a message of the wanted length stays
abbrev pub kept : ℕ → Option FiveMessage → Option FiveMessage
kept want None = None
kept want (Some m) = if array_vec_len m.numbers == want then Some m else None

-- the next round, of whose messages those of the wanted length stay
pub record Turned (old new : Mailbag) (want : ℕ) : Type 0 where
  pub me : new.me ≡ old.me
  pub round : new.round ≡ old.round + 1
  pub wants : new.want ≡ want
  pub room : length new.places ≡ length old.places
  pub next : (j : ℕ) → IsServer j → cell new.places (old.round + 1) j ≡ kept want (cell old.places (old.round + 1) j)
  pub others : (t j : ℕ) → IsServer j → (t ≡ old.round + 1 → ⊥) → cell new.places t j ≡ cell old.places t j

-- each message of the round has the wanted length, and there are places for this round and the next
pub record IsSound (b : Mailbag) : Type 0 where
  pub wanted : b.want ≤ MOST_NUMBERS
  pub room : 5 * (b.round + 2) ≤ length b.places
  pub lengths : (j : ℕ) → IsServer j → IfSome (cell b.places b.round j) (λ m. array_vec_len m.numbers ≡ b.want)
