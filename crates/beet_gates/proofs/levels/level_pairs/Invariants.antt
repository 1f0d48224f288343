use Rattle.std.proofs.Common.{◌≡◌, ◌<◌, ℕ, length, get_or}
use Rattle.beet_gates.specs.Levels.{places_of_pair}
use Rattle.beet_gates.proofs.levels.level_pairs.Given as goal

abbrev pub invariant-loop-i : goal.invariant-loop-i
invariant-loop-i g l = record {
  count : length l.pairs ≡ g.row.K;
  so_far : (k : ℕ) → k < l.i → get_or l.pairs k (0, 0) ≡ places_of_pair k;
}
