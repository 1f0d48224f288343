-- The first thing by which one server can tell two sales apart, and the line that tells it.
use Rattle.std.specs.Prelude.{ℕ, ◌==◌, ◌&&◌, List, [], ◌++◌, Bool, Option, codes, decimal}
use Rattle.beet_field.specs.declared.point.Point.{Point}
use Rattle.beet_view.specs.BookViews.{names}
use Rattle.beet_sale_file.specs.declared.rows.SaleBid.{SaleBid}
use Rattle.beet_sale_map.specs.Bids.{bids_of, marks_of}
use Rattle.beet_sale_map.specs.declared.results.SaleResult.{SaleResult}
use Rattle.beet_sale_map.specs.declared.agreeing.SaleFault.{SaleFault}
use Rattle.beet_sale_map.specs.declared.agreeing.SaleFault.TheVariants.{ShapeDiffers, OwnBidsDiffer, SalesDiffer}
use Rattle.beet_sale_map.specs.declared.agreeing.SaleFault.TheVariants.{OutOfMemory}
use Rattle.beet_errand.specs.Texts.{line_of}
use Rattle.beet_differences.specs.Comparing.{bidder_text}
use Rattle.beet_differences.specs.Differences.{ends_between, first_difference, marks_between, own_between}
use Rattle.beet_sale_run.specs.Results.{price_of, winner_of}

-- who wins a sale, and for how much
abbrev pub result_of : List SaleBid → SaleResult
result_of bids = record { winner = winner_of (bids_of bids); price = price_of (bids_of bids) }

abbrev pub same_result : SaleResult → SaleResult → Bool
same_result one other = (one.winner == other.winner) && (one.price == other.price)

-- the first bidder that one sale lacks, or that has another mark in the second sale; the first that the server knows
-- and that has another bid there; or both results
abbrev pub difference_between : Point → List SaleBid → List SaleBid → Option SaleFault
difference_between s first second =
    first_difference ShapeDiffers OwnBidsDiffer (marks_between (marks_of first) (marks_of second))
    (own_between (λ (bid : SaleBid). names bid.known s) (λ (one other : SaleBid). one.bid == other.bid) first second)
    (ends_between same_result SalesDiffer (result_of first) (result_of second))

-- a result in a line: the winner, and behind a slash the price
abbrev pub result_word : SaleResult → List ℕ
result_word result = decimal result.winner ++ codes "/" ++ decimal result.price

-- the line of a refusal; if memory ran out nothing is said
abbrev pub refused_text : SaleFault → List ℕ
refused_text (ShapeDiffers bidder) = bidder_text (codes "sales refused") (codes "shape") bidder
refused_text (OwnBidsDiffer bidder) = bidder_text (codes "sales refused") (codes "own bids") bidder
refused_text (SalesDiffer one other) =
    line_of (codes "sales refused " ++ result_word one ++ codes " " ++ result_word other)
refused_text OutOfMemory = []
