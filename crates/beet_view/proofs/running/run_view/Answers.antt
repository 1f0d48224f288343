use Rattle.std.proofs.Common.{refl, ◌∙◌}
use Rattle.beet_view.proofs.RunFacts.{run-fits}
use Rattle.beet_view.proofs.running.run_view.Goals as goal

pub returns-clause-core : goal.returns-clause-core
returns-clause-core g c =
    rw (
      c.in_ok-words_of.ensures,
      c.words.ensures.value,
      c.masks.ensures,
      c.in_ok-words_of-2.ensures,
      c.words-2.ensures.value,
      c.coefficients.ensures,
      c.in_ok-rounds_of.ensures.rounds,
    ) refl

pub returns-clause-run : goal.returns-clause-run
returns-clause-run g c o x fits = returns-clause-core g c ∙ run-fits g.S.Script.batch_of o x c.args.core.now fits
