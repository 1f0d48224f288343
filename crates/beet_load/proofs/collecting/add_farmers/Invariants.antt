use Rattle.std.proofs.Common.{drop, option_map}
use Rattle.beet_load.proofs.Summing.{Collects}
use Rattle.beet_load.specs.Wanted.{wanted_of}
use Rattle.beet_load.proofs.collecting.add_farmers.Given as goal

abbrev pub invariant-loop-i : goal.invariant-loop-i
invariant-loop-i g l =
    Collects (wanted_of l.fn.lot l.fn.grid) l.fn.grid (option_map (λ all. all.now) l.fn.lists) l.fn.entries
    (drop l.i l.fn.entries) (g.S.Shelf.seen l.fn.shelf)
    (g.S.Shelf.seen l.shelf) l.totals l.i
