use Rattle.std.proofs.Common.{◌≤◌, ◌+◌, ◌-◌, Ok}
use Rattle.beet_errand.specs.Fetches.{Tests}
use Rattle.beet_job_trial.specs.Adding.{AddsFarmers, enough_of_each}
use Rattle.beet_job_trial.specs.Rules.{trial_part}
use Rattle.beet_job_trial.proofs.adding.add_in_order.Given as goal

abbrev pub invariant-loop-i : goal.invariant-loop-i
invariant-loop-i l = record {
  from : l.from ≤ l.i;
  tests : Tests (enough_of_each l.grid (l.from + 1) (trial_part l.grid l.from (l.i - l.from))) (Ok tt);
  adds : AddsFarmers l.grid (trial_part l.grid l.from (l.i - l.from)) l.fn.totals l.totals;
}
