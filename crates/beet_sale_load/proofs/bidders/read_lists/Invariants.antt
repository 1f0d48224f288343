use Rattle.std.proofs.Common.{drop, option_map}
use Rattle.beet_sale_load.proofs.ReadLists.{ReadsLists}
use Rattle.beet_sale_load.proofs.bidders.read_lists.Given as goal

abbrev pub invariant-loop-i : goal.invariant-loop-i
invariant-loop-i g l =
    ReadsLists l.fn.wanted (option_map (λ all. all.now) l.fn.lists) l.fn.rows (drop l.i l.fn.rows) (g.S.Shelf.seen l.fn.shelf)
    (g.S.Shelf.seen l.shelf) l.read.items
