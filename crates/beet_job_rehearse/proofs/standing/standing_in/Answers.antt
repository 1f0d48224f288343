use Rattle.beet_job_rehearse.proofs.standing.standing_in.Goals as goal

pub returns : goal.returns
returns c = c.standing_at.ensures c.args.world.now c.args.at c.core.ensures
