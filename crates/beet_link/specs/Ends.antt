-- How contracts see an end of a link.
use Rattle.std.specs.Prelude.{◌≡◌, ◌+◌, ℕ, List, Some, slice_get, length}
use Rattle.beet_field.specs.declared.point.Point.TheVariants.{One}
use Rattle.beet_queue.specs.Rule.{of}
use Rattle.beet_round.specs.declared.message.RoundMessage.{RoundMessage}

-- for how many messages the link has room, all that go over it, in order, and how many of them this end has moved:
-- put, or taken
pub record LinkEnd : Type 0 where
  pub room : ℕ
  pub stream : List RoundMessage
  pub moved : ℕ

abbrev pub end_at : ℕ → List RoundMessage → ℕ → LinkEnd
end_at room stream moved = record { room = room; stream = stream; moved = moved }

-- the end with one message more moved
abbrev pub one_on : LinkEnd → LinkEnd
one_on e = end_at e.room e.stream (e.moved + 1)

-- the message is the next that the end moves
abbrev pub IsNext : LinkEnd → RoundMessage → Type 0
IsNext e m = slice_get e.stream e.moved ≡ Some m

-- how many messages of a link were taken: its queue knows the server that puts as the first
abbrev pub count_taken : List RoundMessage → ℕ
count_taken taken = length (of (λ _. One) One taken)
