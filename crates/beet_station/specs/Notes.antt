-- What the servers of a run tell of their rounds.
use Rattle.std.specs.Prelude.{◌≡◌, ℕ, List, drop}
use Rattle.beet_field.specs.Trio.{trio_of}
use Rattle.beet_field.specs.declared.point.Point.{Point}
use Rattle.beet_field.specs.declared.trio.Trio.{Trio}
use Rattle.beet_gates.specs.Each.{each}
use Rattle.beet_gates.specs.declared.Batch.{Batch}
use Rattle.beet_sharing.specs.Runs.{Setup, coming, opened_by, standing_at}
use Rattle.beet_server.specs.Cores.{Core, setup_of}
use Rattle.beet_link.specs.Streams.{rounds_from}
use Rattle.beet_station.specs.declared.notes.DeskNote.{DeskNote}

abbrev pub a_note : Point → ℕ → List ℕ → DeskNote
a_note server round opened = record { server = server; round = round; numbers = record { items = opened } }

-- of what is left these notes are still due
abbrev pub Awaits : (List DeskNote → List DeskNote) → List DeskNote → Type 0
Awaits due left = due left ≡ left

-- the numbers that a round of a run opens
abbrev pub opened_in : Setup → ℕ → List ℕ
opened_in o t = opened_by (standing_at o t) (coming o t).act

-- the note of a server on a round: the server, the round and the numbers that the round opens
abbrev pub note_of : Setup → Point → ℕ → DeskNote
note_of o s t = a_note s t (opened_in o t)

-- the notes of a server in a run of so many rounds, round by round
abbrev pub notes : Setup → ℕ → Point → List DeskNote
notes o rounds s = each (note_of o s) rounds

module _ {S : Type 0} (next : S → ℕ → List ℕ → Batch) (inputs most : S → ℕ) where
  -- the notes of a server in the run of three fresh cores
  abbrev pub notes_at : Trio (Core S) → Point → List DeskNote
  notes_at cores s = notes (setup_of next inputs cores) (rounds_from next inputs most cores) s

  -- those of each server
  abbrev pub notes_from : Trio (Core S) → Trio (List DeskNote)
  notes_from cores = trio_of (notes_at cores)

  -- those of a server on the rounds that are left
  abbrev pub notes_left : Trio (Core S) → Point → ℕ → List DeskNote
  notes_left cores s round = drop round (notes_at cores s)
