use Rattle.std.proofs.Common.{◌∙◌}
use Rattle.crossbeam_queue.specs.Passes.{view}
use Rattle.beet_queue.proofs.Keeps.{knows_all, takes}
use Rattle.beet_desk.proofs.NoteFacts.{receives}
use Rattle.beet_desk.proofs.ends.NoteRx.take.Goals as goal

pub pop_as-note-requires-clause-rule : goal.pop_as-note-requires-clause-rule
pop_as-note-requires-clause-rule g c = (takes _ _ _ c.self.invariant.1, knows_all _ _ _)

pub invariant_of-self : goal.invariant_of-self
invariant_of-self g c =
    let queue = c.pop_as-note.ensures.queue in
    let still = receives (view c.self.inside.pass) (view c.pop_as-note.new.pass) c.pop_as-note.result c.self.invariant.1
    c.self.invariant.2 c.self.invariant.3 c.pop_as-note.ensures.rule in
    ((queue.0 ∙ c.self.invariant.0.0, queue.2 ∙ c.self.invariant.0.1), still.0, still.1, still.2)

pub returns-clause-first : goal.returns-clause-first
returns-clause-first g c =
    (receives (view c.self.inside.pass) (view c.pop_as-note.new.pass) c.pop_as-note.result c.self.invariant.1 c.self.invariant.2
    c.self.invariant.3 c.pop_as-note.ensures.rule).2
