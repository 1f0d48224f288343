use Rattle.std.proofs.Common.{drop}
use Rattle.beet_five_load.proofs.DealtFarmers.{DealsFarmers}
use Rattle.beet_five_load.proofs.loading.deal_farmers.Given as goal

abbrev pub invariant-loop-i : goal.invariant-loop-i
invariant-loop-i g l =
    DealsFarmers l.fn.grid l.fn.entries (drop l.i l.fn.entries) (g.S.Shelf.seen l.fn.shelf) (g.S.Shelf.seen l.shelf) l.totals
