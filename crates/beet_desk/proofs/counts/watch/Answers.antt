use Rattle.std.proofs.Common.{◌<◌, ◌^◌, List, ap, length, sym, subst, ◌∙◌}
use Rattle.beet_field.specs.Trio.{member}
use Rattle.beet_field.specs.declared.trio.Trio.{Trio}
use Rattle.beet_station.specs.declared.notes.DeskNote.{DeskNote}
use Rattle.beet_desk.specs.declared.counts.NoteCount.{NoteCount}
use Rattle.beet_desk.specs.Counts.{IsTally}
use Rattle.beet_desk.specs.Ends.{AreSmall, of_server}
use Rattle.beet_desk.proofs.CountFacts.{tally-more, tally-room}
use Rattle.beet_desk.proofs.counts.watch.Goals as goal

pub with_note-counts-requires-clause-notes : goal.with_note-counts-requires-clause-notes
with_note-counts-requires-clause-notes g c =
    let note = c.in-Some-take.note in
    tally-room c.loop.receiver.notes c.loop.receiver.taken c.loop.counts note c.loop.invariant.counts c.in-Some-take.ensures.taken.0
    (subst (λ (n : Trio (List DeskNote)). length (member n note.server) < 2 ^ 31) (sym c.loop.invariant.notes)
    (c.requires.small note.server).0)

pub loop-preserved-in-Some-take : goal.loop-preserved-in-Some-take
loop-preserved-in-Some-take g c =
    let note = c.in-Some-take.note in
    let new = c.in-Some-take.ensures.taken.1 in
    let small : AreSmall (member c.loop.receiver.notes note.server) =
    subst (λ (n : Trio (List DeskNote)). AreSmall (member n note.server)) (sym c.loop.invariant.notes) (c.requires.small note.server) in
    let few = small.1 (length (of_server note.server c.loop.receiver.taken)) note c.in-Some-take.ensures.taken.0 in
    record {
      queue = ap (λ e. e.queue) new ∙ c.loop.invariant.queue;
      notes = ap (λ e. e.notes) new ∙ c.loop.invariant.notes;
      first = c.take.ensures.first;
      counts = subst (λ (p : List DeskNote × Trio NoteCount). IsTally p.0 p.1)
          (λ i. ((sym new i).taken, sym c.with_note-counts.ensures i))
          (tally-more c.loop.receiver.taken c.loop.counts note c.loop.invariant.counts few);
    }
