-- How a program ends.
use Rattle.std.specs.Prelude.{◌≡◌, ℕ, Bool, List, ◌==◌, codes, if◌then◌else◌, Option, Some, None}
use Rattle.beet_store.specs.Desks.{DeskSeen}
use Rattle.beet_store.specs.Files.{Seen}
use Rattle.beet_errand.specs.Statuses.{code_of}
use Rattle.beet_errand.specs.Tasks.{DoesRun, Task}
use Rattle.beet_errand.specs.declared.answer.Status.TheVariants.{OutOfMemory, WriteFault}

-- what standard error tells: that memory ran out, or that something could not be written; at every other status the
-- printed text tells it
abbrev pub cause_text : ℕ → Option (List ℕ)
cause_text status =
    if status == code_of OutOfMemory then Some (codes "memory ran out")
    else if status == code_of WriteFault then Some (codes "a file or the text could not be written")
    else None

-- what it tells besides, if the files of servers and bidders name one seed twice
abbrev pub notice_text : Bool → Option (List ℕ)
notice_text twice = if twice then Some (codes "two parties have one seed") else None

-- the words are run, for the task that a program has for them; if there was no memory for them, nothing was fetched,
-- put or said
abbrev pub RunsWords : (List (List ℕ) → Task) → Option (List (List ℕ)) → Seen → Seen → DeskSeen → DeskSeen → ℕ → Type 0
RunsWords task_for None shelf shelf_now desk desk_now status =
    (status ≡ code_of OutOfMemory) × (shelf_now ≡ shelf) × (desk_now ≡ desk)
RunsWords task_for (Some words) shelf shelf_now desk desk_now status =
    DoesRun (task_for words) shelf shelf_now desk desk_now status
