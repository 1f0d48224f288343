-- How many notes there are, and how many numbers they name.
use Rattle.std.specs.Prelude.{◌≡◌, ◌≤◌, ◌<◌, ◌+◌, ◌*◌, ◌^◌, ℕ, List, [], ◌∷◌, Some, slice_get, length}
use Rattle.beet_field.specs.Trio.{member, with_member}
use Rattle.beet_field.specs.declared.TheConstants.{MOST_NUMBERS}
use Rattle.beet_field.specs.declared.point.Point.{Point}
use Rattle.beet_field.specs.declared.trio.Trio.{Trio}
use Rattle.beet_sharing.specs.Runs.{Setup, shared_at}
use Rattle.beet_station.specs.declared.notes.DeskNote.{DeskNote}
use Rattle.beet_desk.specs.Ends.{of_server}
use Rattle.beet_desk.specs.declared.counts.NoteCount.{NoteCount}

abbrev pub none_yet : NoteCount
none_yet = record { notes = 0; opened = 0 }

abbrev pub one_more : DeskNote → NoteCount → NoteCount
one_more note c = record { notes = c.notes + 1; opened = c.opened + length note.numbers.items }

-- those of two lists together
abbrev pub together : NoteCount → NoteCount → NoteCount
together a b = record { notes = a.notes + b.notes; opened = a.opened + b.opened }

abbrev pub count_of : List DeskNote → NoteCount
count_of [] = none_yet
count_of (note ∷ notes) = one_more note (count_of notes)

abbrev pub with_note : DeskNote → Trio NoteCount → Trio NoteCount
with_note note t = with_member t note.server (one_more note (member t note.server))

-- the count of a server's notes, each of which names at most MOST_NUMBERS numbers
abbrev pub IsTally : List DeskNote → Trio NoteCount → Type 0
IsTally taken counts = (s : Point) → (member counts s ≡ count_of (of_server s taken))
    × ((member counts s).opened ≤ MOST_NUMBERS * (member counts s).notes)

-- these notes can be added to the count
abbrev pub HasPlace : NoteCount → List DeskNote → Type 0
HasPlace c notes =
    (c.opened ≤ MOST_NUMBERS * c.notes) × (c.notes + length notes < 2 ^ 31)
    × ((k : ℕ) (note : DeskNote) → slice_get notes k ≡ Some note → length note.numbers.items ≤ MOST_NUMBERS)

-- they are added
abbrev pub Added : NoteCount → List DeskNote → NoteCount → Type 0
Added c notes d = d ≡ together c (count_of notes)

-- the notes of one server in a run of so many rounds
abbrev pub count_in : Setup → ℕ → NoteCount
count_in o rounds = record { notes = rounds; opened = length (shared_at o rounds).opened }
