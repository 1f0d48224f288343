use Rattle.std.proofs.Common.{arith}
use Rattle.beet_words.proofs.HexDigits.{table_value}
use Rattle.beet_words.proofs.digits.value_of.Goals as goal

pub returns : goal.returns
returns c = table_value c.args.digit (omega arith)
