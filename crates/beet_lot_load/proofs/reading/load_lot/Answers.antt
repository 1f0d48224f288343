use Rattle.beet_errand.proofs.Frame.{bind, exits, stopped}
use Rattle.beet_lot_load.proofs.reading.load_lot.Goals as goal

pub returns-in_err-grid : goal.returns-in_err-grid
returns-in_err-grid g c = exits c.from_residual.ensures.1 (stopped (rw c.as_str.ensures at c.in_err-grid.ensures))

pub returns-in_err-entries : goal.returns-in_err-entries
returns-in_err-entries g c =
    exits c.from_residual-in_err-entries.ensures.1
    (bind (rw c.as_str.ensures at c.in_ok-grid.ensures) (stopped (rw c.as_str-2.ensures at c.in_err-entries.ensures.reads)))

pub returns : goal.returns
returns g c =
    bind (rw c.as_str.ensures at c.in_ok-grid.ensures) (bind (rw c.as_str-2.ensures at c.in_ok-entries.ensures.reads)
    (rw c.as_slice.ensures.value at c.load_rest-loaded.ensures))
