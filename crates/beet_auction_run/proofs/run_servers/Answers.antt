use Rattle.beet_run.proofs.Ending.{have-run}
use Rattle.beet_auction_run.proofs.run_servers.Goals as goal

pub returns-clause-ended : goal.returns-clause-ended
returns-clause-ended g c = have-run c.args.grid.now _ _ _ c.in_ok-cores.ensures.starts _ c.run_three.ensures
