use Rattle.std.proofs.Common.{arith}
use Rattle.beet_load.proofs.Farming.{count_passes, count_stops}
use Rattle.beet_load.proofs.farmers.check_accepted.Goals as goal

pub returns-then-held-want-clause-tests : goal.returns-then-held-want-clause-tests
returns-then-held-want-clause-tests c =
    count_stops c.args.wanted.now.lot c.args.number _ c.args.held _ (omega arith) (rw c.words-want.ensures at c.too_few_words.ensures)

pub returns-clause-tests : goal.returns-clause-tests
returns-clause-tests c = count_passes c.args.wanted.now.lot c.args.number _ c.args.held (omega arith)
