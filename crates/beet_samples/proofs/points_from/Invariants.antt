use Rattle.std.proofs.Common.{◌≡◌, length}
use Rattle.beet_samples.proofs.points_from.Given as goal

abbrev pub invariant-loop-k : goal.invariant-loop-k
invariant-loop-k l = length l.points.items ≡ l.k
