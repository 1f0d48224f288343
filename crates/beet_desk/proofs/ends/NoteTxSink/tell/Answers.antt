use Rattle.std.proofs.Common.{◌≡◌, Some, ap, drop, sym, subst, ◌∙◌}
use Rattle.beet_station.specs.Notes.{a_note}
use Rattle.beet_desk.specs.Ends.{Sender}
use Rattle.beet_desk.proofs.NoteFacts.{next-due}
use Rattle.beet_desk.proofs.ends.NoteTxSink.tell.Goals as goal

pub push-requires : goal.push-requires
push-requires g c =
    let e = c.args.self.now in
    (next-due e.notes e.pushed (a_note c.args.server c.args.round c.args.opened.now) c.requires.next.0 c.requires.next.1).0
    ∙ ap Some (sym c.note_on.ensures)

pub returns-clause-told : goal.returns-clause-told
returns-clause-told g c = λ rest awaits.
    let e = c.args.self.now in
    subst (λ (n : Sender). drop n.pushed n.notes ≡ rest) (sym c.push.ensures)
    (next-due e.notes e.pushed (a_note c.args.server c.args.round c.args.opened.now) rest awaits).1
