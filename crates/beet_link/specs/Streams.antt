-- The messages from one server to another.
use Rattle.std.specs.Prelude.{ℕ, List, max}
use Rattle.beet_field.specs.declared.point.Point.{Point}
use Rattle.beet_field.specs.declared.trio.Trio.{Trio}
use Rattle.beet_gates.specs.Each.{each}
use Rattle.beet_gates.specs.declared.Batch.{Batch}
use Rattle.beet_round.specs.declared.message.RoundMessage.{RoundMessage}
use Rattle.beet_sharing.specs.Runs.{Setup, rounds_among}
use Rattle.beet_server.specs.Cores.{Core, setup_of}
use Rattle.beet_server.specs.Fits.{message_of}
use Rattle.beet_link.specs.Ends.{LinkEnd, end_at}

-- those of a run of so many rounds, round by round
abbrev pub stream : Setup → ℕ → Point → Point → List RoundMessage
stream o rounds from to = each (message_of o from to) rounds

module _ {S : Type 0} (next : S → ℕ → List ℕ → Batch) (inputs most : S → ℕ) where
  -- the rounds of the run of three fresh cores
  abbrev pub rounds_from : Trio (Core S) → ℕ
  rounds_from cores = rounds_among (setup_of next inputs cores) (most cores.one.script)

  -- all messages of that run from one server to another
  abbrev pub stream_of : Trio (Core S) → Point → Point → List RoundMessage
  stream_of cores from to = stream (setup_of next inputs cores) (rounds_from cores) from to

  -- an end of the link for these that has moved so many: the link has room for as many as the script has rounds, and at
  -- least for one
  abbrev pub link_at : Trio (Core S) → Point → Point → ℕ → LinkEnd
  link_at cores from to = end_at (max (most cores.one.script) 1) (stream_of cores from to)
