-- Sales, as their files tell of them.
use Rattle.std.specs.Prelude.{◌≡◌, List, map, length, All}
use Rattle.beet_gates.specs.declared.Gates.{Gates}
use Rattle.beet_sale_plan.specs.Outcome.{IsBid}
use Rattle.beet_sale_plan.specs.Sale.{IsSaleSize}
use Rattle.beet_sale_file.specs.declared.rows.SaleBid.{SaleBid}
use Rattle.beet_sale_file.specs.declared.rows.SaleRow.{SaleRow}

-- the kind of gates, and the bidders in their order
pub record SaleRecord : Type 0 where
  pub gates : Gates
  pub rows : List SaleRow

-- from 2 to 16 bidders, each with a bid within its limit
pub record IsSaleRecord (sale : SaleRecord) : Type 0 where
  pub size : IsSaleSize (length sale.rows)
  pub bids : All (λ row. IsBid row.bid.bid) sale.rows

-- what each bidder bids
abbrev pub bids_of : List SaleRow → List SaleBid
bids_of rows = map (λ row. row.bid) rows

-- such a sale, with its bids
pub record Holds (sale : SaleRecord) (bids : List SaleBid) : Type 0 where
  pub limits : IsSaleRecord sale
  pub bids_are : bids ≡ bids_of sale.rows
