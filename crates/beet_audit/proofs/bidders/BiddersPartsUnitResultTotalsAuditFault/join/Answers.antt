use Rattle.std.proofs.Common.{◌∙◌, sym}
use Rattle.beet_audit.proofs.PartFacts.{judges-both, judges-first, judges-second}
use Rattle.beet_audit.proofs.bidders.BiddersPartsUnitResultTotalsAuditFault.join.Goals as goal

pub returns-in_err-rest : goal.returns-in_err-rest
returns-in_err-rest c = λ from count more _ _ _ _ _ _ a b.
    judges-first c.args.self.now.grid.now c.args.self.now.views.now from count more _ _ c.from_residual.ensures.1
    (rw c.in_err-rest.ensures at a)

pub returns-in_err-totals : goal.returns-in_err-totals
returns-in_err-totals c = λ from count more _ _ _ _ _ _ a b.
    judges-second c.args.self.now.grid.now c.args.self.now.views.now from count more _ _ _
    c.from_residual-in_err-totals.ensures.1 (rw c.in_ok-rest.ensures.1 at a)
    (rw (sym c.in_ok-rest.ensures.0 ∙ c.in_err-totals.ensures) at b)

pub returns : goal.returns
returns c = λ from count more _ _ _ _ _ _ a b.
    judges-both c.args.self.now.grid.now c.args.self.now.views.now from count more _ _ _
    (rw c.in_ok-totals.ensures.0 (rw c.in_ok-rest.ensures.1 at a))
    (rw (sym c.in_ok-rest.ensures.0 ∙ c.in_ok-totals.ensures.1) at b) c.merge.ensures.sums
