use Rattle.beet_job_worlds.proofs.SecondWords.{bundle-fits}
use Rattle.beet_job_worlds.proofs.seeing.SeenFirst.and_second.Goals as goal

pub returns-clause-fits : goal.returns-clause-fits
returns-clause-fits g c =
    bundle-fits c.args.second.now.book.now c.args.second.now.words.now c.requires.runs
    (rw c.grid.ensures.value at c.prices-within_limits.ensures.limits) c.grid.ensures.limits.few
