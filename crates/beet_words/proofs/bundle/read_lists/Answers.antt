use Rattle.std.proofs.Common.{rules}
use Rattle.beet_words.specs.Bundles.{list_at}
use Rattle.beet_words.proofs.bundle.read_lists.Goals as goal

pub returns-clause-lists : goal.returns-clause-lists
returns-clause-lists c = c.read_many.ensures.items (list_at c.args.bytes.now) (λ from read within given. search rules)
