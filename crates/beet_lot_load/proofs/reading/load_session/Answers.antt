use Rattle.std.proofs.Common.{refl}
use Rattle.beet_errand.proofs.Frame.{bind, exits, given, handed, stopped}
use Rattle.beet_lot_load.proofs.reading.load_session.Goals as goal

pub returns-in_err-lots : goal.returns-in_err-lots
returns-in_err-lots g c = exits c.from_residual.ensures.1 (stopped c.in_err-lots.ensures)

pub returns-in_err-lots-2 : goal.returns-in_err-lots-2
returns-in_err-lots-2 g c =
    exits c.from_residual-in_err-lots-2.ensures.1
    (bind c.in_ok-lots.ensures (stopped (handed c.in_err-lots-2.ensures c.read_seeds.ensures)))

pub returns : goal.returns
returns g c =
    bind c.in_ok-lots.ensures (bind (handed c.in_ok-lots-2.ensures.1 c.read_seeds.ensures) (given (rw c.in_ok-lots-2.ensures.0 refl)))
