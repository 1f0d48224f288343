-- The desk's end once it has taken a note.
use Rattle.std.proofs.Common.{◌≡◌, Option, None, Some, MatchOption, ap}
use Rattle.beet_station.specs.declared.notes.DeskNote.{DeskNote}
use Rattle.beet_desk.specs.Ends.{IsNextTaken, Receiver, one_received}

-- it is of the same queue
pub taken-queue : (old new : Receiver) (taken : Option DeskNote) →
    MatchOption taken (new ≡ old) (λ note. IsNextTaken old note × (new ≡ one_received note old)) → new.queue ≡ old.queue
taken-queue old new None is = ap (λ e. e.queue) is
taken-queue old new (Some note) is = ap (λ e. e.queue) is.1
