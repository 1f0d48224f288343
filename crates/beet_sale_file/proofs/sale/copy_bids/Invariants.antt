use Rattle.std.proofs.Common.{◌≡◌, take}
use Rattle.beet_sale_file.specs.Sales.{bids_of}
use Rattle.beet_sale_file.proofs.sale.copy_bids.Given as goal

abbrev pub invariant-loop-row : goal.invariant-loop-row
invariant-loop-row l = l.bids.items ≡ bids_of (take l.row-index l.rows)
