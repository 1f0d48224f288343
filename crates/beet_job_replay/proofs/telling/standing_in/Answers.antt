use Rattle.beet_job_rehearse.proofs.ServerStands.{has-ended-run}
use Rattle.beet_job_replay.proofs.Replays.{there}
use Rattle.beet_job_replay.proofs.telling.standing_in.Goals as goal

pub standing_at-requires : goal.standing_at-requires
standing_at-requires c = λ over.
    let world = there c.args.world.now c.args.lot c.requires in
    has-ended-run world.0 c.args.at c.core.result.now (c.core.ensures world.0 world.1) over

pub returns : goal.returns
returns c = λ w at. c.standing_at.ensures w c.args.at (c.core.ensures w at)
