use Rattle.std.proofs.Common.{refl}
use Rattle.beet_notice.proofs.SeedFacts.{keeps-more}
use Rattle.beet_notice.proofs.seeds.Seeds.note.Goals as goal

pub returns : goal.returns
returns c = λ seeds keeps.
    keeps-more seeds c.args.seed c.args.self.now _ _ keeps c.in-Ok.ensures.updates c.in-Ok.ensures.added refl
