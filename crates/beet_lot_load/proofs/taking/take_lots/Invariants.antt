use Rattle.std.proofs.Common.{drop}
use Rattle.beet_lot_load.specs.Lots.{next_lot}
use Rattle.beet_lot_load.proofs.EachRow.{ReadsRows}
use Rattle.beet_lot_load.proofs.LotsTaken.{Kept}
use Rattle.beet_lot_load.proofs.taking.take_lots.Given as goal

abbrev pub invariant-loop-i : goal.invariant-loop-i
invariant-loop-i g l =
    ReadsRows (Kept g.L.TakesLots.has_taken l.fn.rows) (next_lot l.fn.sources) l.fn.rows (drop l.i l.fn.rows)
    (g.S.Shelf.seen l.fn.shelf) (g.S.Shelf.seen l.shelf) l.taken l.i
