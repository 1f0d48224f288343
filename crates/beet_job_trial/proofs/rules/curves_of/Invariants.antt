use Rattle.std.proofs.Common.{◌≡◌, map}
use Rattle.std.specs.List.{range_with_len}
use Rattle.beet_job_trial.specs.Rules.{trial_curve}
use Rattle.beet_job_trial.proofs.rules.curves_of.Given as goal

abbrev pub invariant-loop-i : goal.invariant-loop-i
invariant-loop-i l = l.curves.items ≡ map (trial_curve l.grid) (range_with_len 0 l.i)
