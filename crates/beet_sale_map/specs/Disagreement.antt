-- Where two sales do not agree for one server.
use Rattle.std.specs.Prelude.{◌≡◌, ◌≢◌, ◌+◌, ℕ, List}
use Rattle.beet_field.specs.declared.point.Point.{Point}
use Rattle.beet_map.specs.Refused.{DifferFirst}
use Rattle.beet_map.specs.Agreement.{KnownDiffersAt}
use Rattle.beet_sale_plan.specs.Outcome.{IsSale}
use Rattle.beet_sale_file.specs.declared.rows.SaleBid.{SaleBid}
use Rattle.beet_sale_map.specs.declared.results.SaleResult.{SaleResult}
use Rattle.beet_sale_map.specs.declared.agreeing.SaleFault.{SaleFault}
use Rattle.beet_sale_map.specs.declared.agreeing.SaleFault.TheVariants.{ShapeDiffers, OwnBidsDiffer, SalesDiffer}
use Rattle.beet_sale_map.specs.declared.agreeing.SaleFault.TheVariants.{OutOfMemory}
use Rattle.beet_sale_map.specs.Bids.{Agree, HaveOneShape, SameOwn, bids_of, marks_of}

-- this is the result of a sale
abbrev pub IsResult : List SaleBid → SaleResult → Type 0
IsResult bids result = IsSale (bids_of bids) result.winner result.price

-- the bid at this place is known to the server and is another in the second sale, and none before it
abbrev pub OwnDiffersAt : Point → List SaleBid → List SaleBid → ℕ → Type 0
OwnDiffersAt s first second n = KnownDiffersAt (λ b. b.known) (λ b. b.bid) s first second n

-- what the refusal of two sales says of them: bidders are counted from 1
abbrev pub Refuses : Point → List SaleBid → List SaleBid → SaleFault → Type 0
Refuses s first second (ShapeDiffers bidder) =
    (n : ℕ) × (bidder ≡ n + 1) × DifferFirst (marks_of first) (marks_of second) n
Refuses s first second (OwnBidsDiffer bidder) =
    HaveOneShape first second × ((n : ℕ) × (bidder ≡ n + 1) × OwnDiffersAt s first second n)
Refuses s first second (SalesDiffer one other) =
    HaveOneShape first second × SameOwn s first second
    × (IsResult first one × IsResult second other × (other ≢ one))
Refuses s first second OutOfMemory = ⊥

-- why words are not mapped from one sale to another: memory runs out only if the sales agree
abbrev pub RefusesMap : Point → List SaleBid → List SaleBid → SaleFault → Type 0
RefusesMap s first second OutOfMemory = Agree s first second
RefusesMap s first second fault = Refuses s first second fault
