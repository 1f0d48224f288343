use Rattle.std.proofs.Common.{refl}
use Rattle.beet_errand.proofs.Frame.{bind, exits, given, stopped}
use Rattle.beet_load.proofs.setting.read_auction_and_servers.Goals as goal

pub returns-in_err-grid : goal.returns-in_err-grid
returns-in_err-grid g c = exits c.from_residual.ensures.1 (stopped c.in_err-grid.ensures)

pub returns-in_err-sources : goal.returns-in_err-sources
returns-in_err-sources g c = exits c.from_residual-in_err-sources.ensures.1 (bind c.in_ok-grid.ensures (stopped c.in_err-sources.ensures))

pub returns : goal.returns
returns g c = bind c.in_ok-grid.ensures (bind c.in_ok-sources.ensures (given refl))
