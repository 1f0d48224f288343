use Rattle.std.proofs.Common.{◌+◌, arith, sym, ◌∙◌}
use Rattle.beet_five_world.proofs.MissingFacts.{two-rounds}
use Rattle.beet_five_world.proofs.WorldFacts.{all-ended}
use Rattle.beet_five_world.proofs.world.FiveWorld.undelivered.Goals as goal

pub returns-clause-count : goal.returns-clause-count
returns-clause-count g c = λ script o rounds x f.
    let b = c.behind-behind.ensures in
    (λ i. c.missing_of.ensures.missing script o rounds x f i + c.missing_of-2.ensures.missing script o rounds x f i)
    ∙ sym (two-rounds g.S.Script.batch_of script o rounds x c.args.self.now f c.behind-behind.result
    b.passed.1 b.passed.0 b.passed.2 b.passed.3 b.passed.4 b.least)

pub returns-clause-ended : goal.returns-clause-ended
returns-clause-ended g c = λ none script o rounds x f j s server there.
    all-ended g.S.Script.batch_of script o rounds x c.args.self.now j s f
    (sym (returns-clause-count g c script o rounds x f) ∙ none) server there

pub missing_of-requires : goal.missing_of-requires
missing_of-requires g c = record { near = λ j s server there. omega (arith, c.behind-behind.ensures.least j s server there) }
