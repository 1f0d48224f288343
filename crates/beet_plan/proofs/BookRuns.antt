-- How the run of a book ends, and after how many rounds.
use Rattle.std.proofs.Common.{◌≡◌, ℕ, ◌+◌, ◌<◌, List, slice_index, ◌∙◌, arith}
use Rattle.std.specs.Prelude.{nat_le}
use Rattle.beet_field.specs.declared.trio.Trio.{Trio}
use Rattle.beet_bids.specs.Grids.{comparisons_of}
use Rattle.beet_bids.specs.Books.{Book, IsBook}
use Rattle.beet_bids.specs.Sums.{supply_at, demand_at, sums_of}
use Rattle.beet_bids.specs.Outcomes.{clearing_place, outcome_of}
use Rattle.beet_compare.specs.Compare.{is_doubled_even}
use Rattle.beet_compare.proofs.Parity.{doubled_even-≤, same_test}
use Rattle.beet_plan.specs.Auction.{auction_over}
use Rattle.beet_masking.specs.Masks.{AreMasks}
use Rattle.beet_plan.specs.Runs.{RunEnds, found, finish_of, place_of_inputs}
use Rattle.beet_plan.proofs.AuctionRuns.{auction-run}
use Rattle.beet_plan.proofs.BookFacts.{found-outcome}
use Rattle.beet_bids.proofs.BookSums.{book-turn, clearing-within, length-sums, sums-supply, sums-demand, sums-elements, small}
use Rattle.beet_plan.proofs.Searches.{place-turn}
use Rattle.beet_bids.proofs.GridFacts.{below_comparisons}

-- the search over the sums of a book ends at the clearing place
pub book-place : (book : Book) → IsBook book →
    place_of_inputs (auction_over book.grid) (sums_of book) ≡ clearing_place book
book-place book b =
    let prices = book.grid.prices in
    let test = λ (k : ℕ). is_doubled_even (slice_index (sums_of book) k) (slice_index (sums_of book) (prices + k)) in
    let turns : (k : ℕ) → k < prices → test k ≡ nat_le (clearing_place book) k = λ k h.
    let s = small book b k h in
    let means = doubled_even-≤ (supply_at book.bidders k) (demand_at book.bidders k) (omega (arith, s.0))
    (omega (arith, s.1)) (omega (arith, s.0)) (omega (arith, s.1)) in
    rw (sums-supply book k h, sums-demand book k h)
    (same_test (is_doubled_even (supply_at book.bidders k) (demand_at book.bidders k)) (supply_at book.bidders k)
    (demand_at book.bidders k) means)
    ∙ book-turn book b k h in
    place-turn test (comparisons_of prices) 0 prices (clearing_place book) (omega arith) (clearing-within book)
    (omega (arith, below_comparisons prices)) turns

pub book-run : (book : Book) (words : Trio (List ℕ)) → IsBook book → AreMasks words →
    RunEnds (auction_over book.grid) (sums_of book) words (clearing_place book) (finish_of (outcome_of book))
book-run book words b m =
    let prices = book.grid.prices in
    let inputs = sums_of book in
    let demand = λ (k : ℕ). slice_index inputs (prices + k) in
    let run = auction-run (auction_over book.grid) inputs words (length-sums book) (sums-elements book b) m in
    let finish : found book.grid.policy prices (slice_index inputs) demand (clearing_place book) ≡ finish_of (outcome_of book) =
    found-outcome book (slice_index inputs) demand (sums-supply book) (sums-demand book) in
    rw (book-place book b, finish) at run
