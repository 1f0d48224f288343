-- What the job `tally` tells of an auction of one price, and of any other.
use Rattle.std.proofs.Common.{◌≡◌, ◌≢◌, ◌≤◌, arith, ℕ, List, length, Ok, Err, true, false, ◌==◌, refl}
use Rattle.std.proofs.lemmas.Grind.{common_steps}
use Rattle.beet_field.specs.declared.trio.Trio.{Trio}
use Rattle.beet_shamir.specs.Line.{recombined}
use Rattle.beet_forms.specs.FaultLines.{fault_line_of}
use Rattle.beet_forms.specs.declared.faults.FaultPlace.TheVariants.{Row}
use Rattle.beet_bids.specs.Grids.{Grid}
use Rattle.beet_bids.specs.declared.auction_file.TheConstants.{NOT_ONE_PRICE, PRICES_ROW}
use Rattle.beet_words.specs.declared.bundle.TheConstants.{MOST_BIDDERS}
use Rattle.beet_book.specs.Totals.{Totals, points_on, summed_quantities, supply_first, wires_of, CarriesValues}
use Rattle.beet_book.specs.declared.entries.Entry.{Entry}
use Rattle.beet_book.specs.Farmers.{BidderWithWords}
use Rattle.beet_errand.specs.Errands.{text_answer}
use Rattle.beet_errand.specs.Fetches.{Tests, Refuses}
use Rattle.beet_errand.specs.declared.answer.Refusal.TheVariants.{BadFile}
use Rattle.beet_errand.specs.declared.answer.Status.TheVariants.{Done}
use Rattle.beet_errand.specs.declared.answer.Stop.{Stop}
use Rattle.beet_errand.proofs.Frame.{test_refused}
use Rattle.beet_load.specs.Collecting.{curves_of, AreCollected}
use Rattle.beet_book.specs.Dealing.{points_at, HasLengths}
use Rattle.beet_book.proofs.Sums.{length-first, length-points}
use Rattle.beet_book.proofs.Summed.{length-summed}
use Rattle.beet_field.specs.declared.point.Point.{Point}
use Rattle.beet_field.specs.declared.point.Point.TheVariants.{One, Two, Three}
use Rattle.beet_load.proofs.Summing.{opens_supply, opens_demand}
use Rattle.beet_job_tally.specs.Tally.{one_price, sums_text, tallied}

is-not : (n : ℕ) → n ≢ 1 → (n == 1) ≡ false
is-not n h = grind (arith, common_steps)

is-one : (n : ℕ) → n ≡ 1 → (n == 1) ≡ true
is-one n h = grind (arith, common_steps)

-- the auction has one price
pub one-passes : (auction : List ℕ) (grid : Grid) → grid.prices ≡ 1 → Tests (one_price auction grid) (Ok tt)
one-passes auction grid h = record { passes = λ next. rw (is-one grid.prices h) refl; cause = λ count. refl }

-- the auction has another number of prices
pub others-stop : (auction : List ℕ) (grid : Grid) (stop : Stop) → grid.prices ≢ 1 →
    Refuses BadFile (fault_line_of auction (Row PRICES_ROW) NOT_ONE_PRICE) stop →
    Tests (one_price auction grid) (Err stop)
others-stop auction grid stop h r =
    test_refused BadFile _ stop (λ next. rw (is-not grid.prices h) refl) r (λ count. refl)

-- the sums that are opened are those of supply and demand
pub tells-sums : (grid : Grid) (entries : List Entry) (totals : Totals) (farmers : List BidderWithWords) (wires : Trio (List ℕ)) →
    grid.prices ≡ 1 → length entries ≤ MOST_BIDDERS → AreCollected grid entries totals farmers → CarriesValues totals wires →
    tallied farmers ≡ text_answer Done (sums_text (recombined (points_on wires 0)) (recombined (points_on wires 1)))
tells-sums grid entries totals farmers wires one few c carries =
    let fewer : length farmers ≤ MOST_BIDDERS = rw c.many few in
    rw (
      opens_supply grid totals farmers wires one c.adds fewer carries,
      opens_demand grid totals farmers wires one c.adds fewer carries,
    ) refl

-- at one price the sums have two wires at each server
pub two-wires : (grid : Grid) (entries : List Entry) (totals : Totals) (farmers : List BidderWithWords) (wires : Trio (List ℕ)) →
    grid.prices ≡ 1 → AreCollected grid entries totals farmers → wires ≡ wires_of totals → HasLengths wires 2
two-wires grid entries totals farmers wires h c e =
    let values = summed_quantities grid.prices (curves_of farmers) in
    let shares = c.adds.shares in
    let long = length-summed grid.prices (curves_of farmers) in
    let same = c.adds.prices in
    let each : (at : Point) → length (supply_first totals.prices (points_at values shares.slopes at)) ≡ 2 = λ at.
    (let points = length-points values shares.slopes at shares.paired in
    let first = length-first totals.prices (points_at values shares.slopes at) (omega arith) in
    omega arith) in
    rw (e, shares.shares) (record { one = each One; two = each Two; three = each Three })
