use Rattle.std.proofs.Common.{sym, subst}
use Rattle.crossbeam_queue.specs.Passes.{view}
use Rattle.beet_queue.proofs.Keeps.{has_room, never_full, puts}
use Rattle.beet_desk.specs.Ends.{IsNextNote, Sender}
use Rattle.beet_desk.proofs.NoteFacts.{next-put}
use Rattle.beet_desk.proofs.ends.NoteTx.push.Goals as goal

pub push_as-requires-clause-rule : goal.push_as-requires-clause-rule
push_as-requires-clause-rule g c =
    let next = subst (λ (e : Sender). IsNextNote e c.args.note) (sym c.self.view_is) c.requires in
    let may = next-put (view c.self.inside.pass) c.self.inside.server c.args.note c.self.invariant.1 c.self.invariant.3 next in
    (puts _ _ _ _ c.args.note may.0 may.1, has_room _ _ _)

pub unreachable-requires : goal.unreachable-requires
unreachable-requires g c =
    let next = subst (λ (e : Sender). IsNextNote e c.args.note) (sym c.self.view_is) c.requires in
    let may = next-put (view c.self.inside.pass) c.self.inside.server c.args.note c.self.invariant.1 c.self.invariant.3 next in
    never_full (view c.self.inside.pass) c.args.note.server c.args.note _ may.0 may.1 c.self.invariant.2
    (rw c.deref.ensures at c.in-Err.ensures.rule.2)
