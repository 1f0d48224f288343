use Rattle.std.proofs.Common.{◌≡◌, ◌*◌, length}
use Rattle.beet_gates.specs.Levels.{wire_of}
use Rattle.beet_compare.specs.Compare.{level_products}
use Rattle.beet_compare.proofs.level_products.Given as goal

abbrev pub invariant-loop-i : goal.invariant-loop-i
invariant-loop-i g l = record {
  so_far : l.pairs.items ≡ level_products l.i (wire_of l.less) (wire_of l.same);
  count : length l.pairs.items ≡ 2 * l.i;
}
