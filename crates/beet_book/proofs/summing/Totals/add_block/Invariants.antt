use Rattle.std.proofs.Common.{◌≡◌, take}
use Rattle.beet_book.specs.Totals.{all_added}
use Rattle.beet_book.proofs.summing.Totals.add_block.Given as goal

abbrev pub invariant-loop-dealt : goal.invariant-loop-dealt
invariant-loop-dealt l = l.self ≡ record l.fn.self { points = all_added l.fn.self.points (take l.dealt-index l.block) }
