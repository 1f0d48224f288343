use Rattle.std.proofs.Common.{◌≡◌, List, MatchOption, subst}
use Rattle.crossbeam_queue.specs.Passes.{view}
use Rattle.beet_queue.proofs.Keeps.{knows_all, takes}
use Rattle.beet_field.specs.declared.trio.Trio.{Trio}
use Rattle.beet_station.specs.declared.notes.DeskNote.{DeskNote}
use Rattle.beet_desk.specs.Ends.{Hands, left_of, none_left}
use Rattle.beet_desk.proofs.NoteFacts.{rest-after}
use Rattle.beet_desk.proofs.ends.NoteRest.next.Goals as goal

pub pop_as-requires-clause-rule : goal.pop_as-requires-clause-rule
pop_as-requires-clause-rule g c = (takes _ _ _ c.self.invariant.1, knows_all _ _ _)

pub returns : goal.returns
returns g c =
    let w = view c.pop_as.new.pass in
    subst (λ (n : Trio (List DeskNote)). MatchOption c.pop_as.result ((left_of w.streams w.put w.taken ≡ n) × (n ≡ none_left))
    (Hands n (left_of w.streams w.put w.taken)))
    c.self.view_is (rest-after (view c.self.inside.pass) w c.pop_as.result c.self.invariant.1 c.self.invariant.2 c.pop_as.ensures.rule)
