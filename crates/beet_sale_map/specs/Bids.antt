-- The bids of a sale.
use Rattle.std.specs.Prelude.{◌≡◌, ℕ, List, length, map, Option, All}
use Rattle.beet_field.specs.declared.point.Point.{Point}
use Rattle.beet_gates.specs.declared.Gates.{Gates}
use Rattle.beet_map.specs.Agreement.{SameKnown}
use Rattle.beet_sale_plan.specs.Outcome.{IsBid, IsSale}
use Rattle.beet_sale_plan.specs.Sale.{Sale, IsSaleSize, sale_of}
use Rattle.beet_sale_file.specs.declared.rows.SaleBid.{SaleBid}

-- what is bid, and which server knows each bid, if one does
abbrev pub bids_of : List SaleBid → List ℕ
bids_of bids = map (λ b. b.bid) bids

abbrev pub marks_of : List SaleBid → List (Option Point)
marks_of bids = map (λ b. b.known) bids

-- the sale of bids with this kind of gates
abbrev pub sale_over : Gates → List SaleBid → Sale
sale_over gates bids = sale_of (length bids) gates

-- as many as a sale may have, and each within its limit
pub record AreSaleBids (bids : List SaleBid) : Type 0 where
  pub size : IsSaleSize (length bids)
  pub limits : All (λ b. IsBid b.bid) bids

-- as many bids, at each place one that the same server knows or none does
abbrev pub HaveOneShape : List SaleBid → List SaleBid → Type 0
HaveOneShape first second = marks_of second ≡ marks_of first

-- the bids that are known to a server are the same in both
abbrev pub SameOwn : Point → List SaleBid → List SaleBid → Type 0
SameOwn s first second = SameKnown (λ b. b.known) (λ b. b.bid) s first second

-- the same bidder wins both, and pays the same price
pub record SellAlike (first second : List SaleBid) : Type 0 where
  pub winner : ℕ
  pub price : ℕ
  pub sold : IsSale (bids_of first) winner price
  pub sold' : IsSale (bids_of second) winner price

-- as many bids with the same marks, the same bids of those known to the server, and the same winner and price
pub record Agree (s : Point) (first second : List SaleBid) : Type 0 where
  pub shape : HaveOneShape first second
  pub own : SameOwn s first second
  pub results : SellAlike first second

-- two lists of bids within their limits that agree for server s
pub record AreTwoSales (s : Point) (first second : List SaleBid) : Type 0 where
  pub first_bids : AreSaleBids first
  pub second_bids : AreSaleBids second
  pub agree : Agree s first second
