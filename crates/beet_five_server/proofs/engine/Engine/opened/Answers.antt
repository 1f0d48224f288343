use Rattle.std.proofs.Common.{ℕ, List, sym, subst}
use Rattle.beet_gates.specs.Ends.{ComesTo}
use Rattle.beet_five_server.specs.Cores.{Work}
use Rattle.beet_five_server.proofs.engine.Engine.opened.Goals as goal

pub returns-clause-came : goal.returns-clause-came
returns-clause-came g c =
    let next = g.S.Script.batch_of in
    subst (λ (w : Work g.row.S.Denot). ComesTo (next w.script) w.round c.as_slice.result.now) c.self.view_is
    (subst (λ (l : List ℕ). ComesTo (next c.self.inside.script) c.self.inside.round l) (sym c.as_slice.ensures.value) c.self.invariant.2)
