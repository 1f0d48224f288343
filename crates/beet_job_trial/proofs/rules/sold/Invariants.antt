use Rattle.std.proofs.Common.{◌≡◌, ◌*◌, map}
use Rattle.std.specs.List.{range_with_len}
use Rattle.beet_job_trial.proofs.rules.sold.Given as goal

abbrev pub invariant-loop-place : goal.invariant-loop-place
invariant-loop-place l = l.quantities.items ≡ map (λ k. l.weight * k) (range_with_len 0 l.place)
