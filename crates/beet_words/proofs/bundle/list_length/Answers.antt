use Rattle.std.proofs.Common.{arith}
use Rattle.beet_words.proofs.BundleLengths.{length-list}
use Rattle.beet_words.proofs.bundle.list_length.Goals as goal

pub returns-clause-value : goal.returns-clause-value
returns-clause-value c = omega (arith, length-list c.args.list.now, c.len.ensures)
