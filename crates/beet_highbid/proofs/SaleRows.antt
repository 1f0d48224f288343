-- The bids of a sale's rows are as many as a sale may have, each within its limit.
use Rattle.std.proofs.Common.{length, map, sym, subst}
use Rattle.std.proofs.lemmas.List.{length-map}
use Rattle.std.proofs.lemmas.List.Elements.{All-map}
use Rattle.beet_sale_plan.specs.Outcome.{IsBid}
use Rattle.beet_sale_plan.specs.Sale.{IsSaleSize}
use Rattle.beet_sale_file.specs.Sales.{IsSaleRecord, SaleRecord, bids_of}
use Rattle.beet_sale_file.specs.declared.rows.SaleBid.{SaleBid}
use Rattle.beet_sale_file.specs.declared.rows.SaleRow.{SaleRow}
use Rattle.beet_sale_map.specs.Bids.{AreSaleBids}

pub are-sale-bids : (sale : SaleRecord) → IsSaleRecord sale → AreSaleBids (bids_of sale.rows)
are-sale-bids sale is = record {
  size = subst IsSaleSize (sym (length-map sale.rows (λ (row : SaleRow). row.bid))) is.size;
  limits = All-map (λ (b : SaleBid). IsBid b.bid) (λ (row : SaleRow). row.bid) sale.rows is.bids;
}
