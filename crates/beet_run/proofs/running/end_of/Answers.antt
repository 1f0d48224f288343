use Rattle.beet_run.proofs.Ending.{ends-auction}
use Rattle.beet_run.proofs.running.end_of.Goals as goal

pub returns : goal.returns
returns c = λ grid inputs words ran.
    ends-auction grid inputs words ran.start ran.starts c.args.ended ran.ended c.finish_at.result c.round.result c.finish_at.ensures
    c.round.ensures
