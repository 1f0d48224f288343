use Rattle.beet_compare.proofs.CompareRun.{compare-run}
use Rattle.beet_compare.proofs.Parity.{doubled_even-≤}
use Rattle.beet_compare.proofs.compare_law.Goals as goal

pub returns-clause-opens : goal.returns-clause-opens
returns-clause-opens c = compare-run

pub returns-clause-means : goal.returns-clause-means
returns-clause-means c = doubled_even-≤
