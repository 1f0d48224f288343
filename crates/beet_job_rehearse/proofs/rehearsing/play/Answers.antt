use Rattle.std.proofs.Common.{rules}
use Rattle.beet_world.specs.Worlds.{named_in}
use Rattle.beet_job_rehearse.proofs.WorldPlays.{rehearses}
use Rattle.beet_job_rehearse.proofs.rehearsing.play.Goals as goal

pub returns-clause-rehearses : goal.returns-clause-rehearses
returns-clause-rehearses c =
    rehearses c.args.grid.now c.args.inputs c.args.words c.in_ok-cores.cores c.in_ok-cores.ensures.starts
    c.in_ok-world.world c.play.new.self (named_in c.args.schedule.now) c.in_ok-world.ensures c.play.ensures.delivered c.play.ensures.start
    c.of-servers.result.one c.of-servers.result.two c.of-servers.result.three c.undelivered-undelivered.result
    (search rules) (search rules) (search rules) c.undelivered-undelivered.ensures.count
