use Rattle.std.proofs.Common.{◌+◌, ◌∙◌, refl, sym}
use Rattle.beet_job_trial.proofs.Bidders.{deals-joined, part-stops, tests-first, tests-second}
use Rattle.beet_job_trial.proofs.adding.BiddersPartsUnitResultTotalsStop.join.Goals as goal

pub returns-in_err-rest : goal.returns-in_err-rest
returns-in_err-rest c = λ from count more _ _ _ _ _ _ a b.
    let grid = c.args.self.now.grid.now in
    let first = rw c.in_err-rest.ensures at a in
    part-stops grid from (count + more) _ c.from_residual.ensures.1
    (tests-first grid from count more (from + count) (count + more) _ refl refl first)

pub returns-in_err-totals : goal.returns-in_err-totals
returns-in_err-totals c = λ from count more _ _ _ _ _ _ a b.
    let grid = c.args.self.now.grid.now in
    let first = rw c.in_ok-rest.ensures.1 at a in
    let second = rw (sym c.in_ok-rest.ensures.0 ∙ c.in_err-totals.ensures) at b in
    part-stops grid from (count + more) _ c.from_residual-in_err-totals.ensures.1
    (tests-second grid from count more (from + count) (count + more) _ refl refl first.0 second)

pub returns : goal.returns
returns c = λ from count more _ _ _ _ _ _ a b.
    let first = rw c.in_ok-rest.ensures.1 at a in
    let second = rw (sym c.in_ok-rest.ensures.0 ∙ c.in_ok-totals.ensures.1) at b in
    deals-joined c.args.self.now.grid.now from count more _ _ _ (rw c.in_ok-totals.ensures.0 first) second
    c.merge.ensures.sums c.merge.ensures.values
