-- How contracts see the ends of the queue of notes.
use Rattle.std.specs.Prelude.{◌≡◌, ◌≤◌, ◌<◌, ◌^◌, ◌+◌, ℕ, List, [], ◌∷◌, ◌++◌, Some, slice_get, length, take, drop}
use Rattle.atomic_table.specs.Seated.{TableId}
use Rattle.beet_field.specs.Trio.{member, trio_of, with_member}
use Rattle.beet_field.specs.declared.TheConstants.{MOST_NUMBERS}
use Rattle.beet_field.specs.declared.point.Point.{Point}
use Rattle.beet_field.specs.declared.trio.Trio.{Trio}
use Rattle.beet_queue.specs.Rule.{of}
use Rattle.beet_station.specs.declared.notes.DeskNote.{DeskNote}

-- the end of a server: its queue, all its notes, in order, and how many of them were pushed
pub record Sender : Type 0 where
  pub queue : TableId
  pub server : Point
  pub notes : List DeskNote
  pub pushed : ℕ

-- the desk's end: its queue, for how many notes that has room, all notes of each server, in order, and the notes that
-- were taken, in order
pub record Receiver : Type 0 where
  pub queue : TableId
  pub room : ℕ
  pub notes : Trio (List DeskNote)
  pub taken : List DeskNote

abbrev pub sender_at_start : TableId → Trio (List DeskNote) → Point → Sender
sender_at_start queue notes s = record { queue = queue; server = s; notes = member notes s; pushed = 0 }

abbrev pub receiver_at_start : TableId → ℕ → Trio (List DeskNote) → Receiver
receiver_at_start queue room notes = record { queue = queue; room = room; notes = notes; taken = [] }

-- the notes of one server, in order
abbrev pub of_server : Point → List DeskNote → List DeskNote
of_server = of (λ note. note.server)

-- the notes are of this server
abbrev pub AreFrom : Point → List DeskNote → Type 0
AreFrom s notes = (k : ℕ) (note : DeskNote) → slice_get notes k ≡ Some note → note.server ≡ s

-- the note is the next of the server
abbrev pub IsNextNote : Sender → DeskNote → Type 0
IsNextNote e note = slice_get e.notes e.pushed ≡ Some note

abbrev pub one_pushed : Sender → Sender
one_pushed e = record { queue = e.queue; server = e.server; notes = e.notes; pushed = e.pushed + 1 }

-- the note is the next of its server that was not taken
abbrev pub IsNextTaken : Receiver → DeskNote → Type 0
IsNextTaken e note = slice_get (member e.notes note.server) (length (of_server note.server e.taken)) ≡ Some note

abbrev pub one_received : DeskNote → Receiver → Receiver
one_received note e = record { queue = e.queue; room = e.room; notes = e.notes; taken = e.taken ++ note ∷ [] }

-- what was taken of each server, in order, is the first of its notes, each whole and once
abbrev pub AreFirst : Trio (List DeskNote) → List DeskNote → Type 0
AreFirst notes taken = (s : Point) → of_server s taken ≡ take (length (of_server s taken)) (member notes s)

-- of each server, the notes that were pushed and not taken
abbrev pub left_of : Trio (List DeskNote) → Trio ℕ → List DeskNote → Trio (List DeskNote)
left_of notes pushed taken = trio_of (λ s. drop (length (of_server s taken)) (take (member pushed s) (member notes s)))

abbrev pub none_left : Trio (List DeskNote)
none_left = trio_of (λ _. [])

-- the three senders were made with this receiver
pub record AreOf (e : Receiver) (senders : Trio Sender) : Type 0 where
  pub queues : (s : Point) → (member senders s).queue ≡ e.queue
  pub servers : (s : Point) → (member senders s).server ≡ s

-- what is left of each server once its sender has ended
abbrev pub left_after : Receiver → Trio Sender → Trio (List DeskNote)
left_after e senders = left_of e.notes (trio_of (λ s. (member senders s).pushed)) e.taken

-- the note is handed out: it was the first that was left of its server, and the others are still left
abbrev pub Hands : Trio (List DeskNote) → Trio (List DeskNote) → DeskNote → Type 0
Hands old new note = old ≡ with_member new note.server (note ∷ member new note.server)

-- it is the end of the same server, and all its notes were pushed
abbrev pub IsWholeOf : Sender → Sender → Type 0
IsWholeOf old new = (drop new.pushed new.notes ≡ []) × (new.queue ≡ old.queue) × (new.server ≡ old.server)
    × (new.notes ≡ old.notes)

-- there are fewer than 2^31, and each names at most MOST_NUMBERS numbers
abbrev pub AreSmall : List DeskNote → Type 0
AreSmall notes = (length notes < 2 ^ 31)
    × ((k : ℕ) (note : DeskNote) → slice_get notes k ≡ Some note → length note.numbers.items ≤ MOST_NUMBERS)
