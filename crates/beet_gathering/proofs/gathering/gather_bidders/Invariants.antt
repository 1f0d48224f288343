use Rattle.std.proofs.Common.{drop}
use Rattle.beet_gathering.proofs.Gathered.{Gathered}
use Rattle.beet_gathering.proofs.gathering.gather_bidders.Given as goal

abbrev pub invariant-loop-entry : goal.invariant-loop-entry
invariant-loop-entry g l =
    Gathered g.B.Gathers.has_taken l.fn.grid l.fn.entries (drop l.entry-index l.fn.entries) (g.S.Shelf.seen l.fn.shelf)
    (g.S.Shelf.seen l.shelf) l.gathered
