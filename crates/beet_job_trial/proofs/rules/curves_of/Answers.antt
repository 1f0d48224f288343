use Rattle.std.proofs.Common.{◌≡◌, ◌∙◌, arith, ap, map}
use Rattle.std.specs.List.{range_with_len}
use Rattle.beet_job_trial.specs.declared.rules.TheConstants.{PERIOD}
use Rattle.beet_job_trial.specs.Rules.{trial_curve}
use Rattle.beet_job_trial.proofs.Curves.{curves-all, curves-more}
use Rattle.beet_job_trial.proofs.rules.curves_of.Goals as goal

pub loop-i-preserved : goal.loop-i-preserved
loop-i-preserved c =
    rw (c.in_ok-push.ensures.items, c.in_ok-curve_of.ensures)
    (curves-more c.args.grid.now c.loop-i.curves.items c.loop-i.i c.loop-i.invariant)

pub returns : goal.returns
returns c =
    let all : c.loop-i.i ≡ PERIOD = omega (arith, c.loop-i.auto.i-end, c.loop-i-test.false) in
    c.loop-i.invariant ∙ ap (λ n. map (trial_curve c.args.grid.now) (range_with_len 0 n)) all ∙ curves-all c.args.grid.now
