use Rattle.std.proofs.Common.{subst}
use Rattle.beet_gates.specs.Ends.{ComesTo}
use Rattle.beet_five_server.specs.Answers.{Core}
use Rattle.beet_five_server.proofs.server.FiveCore.opened.Goals as goal

pub returns-clause-came : goal.returns-clause-came
returns-clause-came g c =
    subst (λ (v : Core g.row.S.Denot). ComesTo (g.S.Script.batch_of v.work.script) v.work.round c.opened.result.now) c.self.view_is
    c.opened.ensures.came
