use Rattle.std.proofs.Common.{drop, option_map}
use Rattle.beet_load.proofs.KeptFarmers.{KeepsBidders}
use Rattle.beet_load.proofs.keeping.read_farmers.Given as goal

abbrev pub invariant-loop-i : goal.invariant-loop-i
invariant-loop-i g l =
    KeepsBidders l.fn.wanted l.fn.grid (option_map (λ all. all.now) l.fn.lists) l.fn.entries (drop l.i l.fn.entries)
    (g.S.Shelf.seen l.fn.shelf)
    (g.S.Shelf.seen l.shelf) l.farmers
