-- The law of the script, and how its run on a book ends.
use Rattle.std.proofs.Common.{◌≡◌, ℕ, ◌+◌, ◌*◌, ◌<◌, ◌^◌, List, [], length, slice_index, slice_index_or, refl, zero-add}
use Rattle.beet_gates.specs.Ends.{TellsEnd}
use Rattle.beet_gates.specs.Plans.{plan_finish}
use Rattle.beet_gates.specs.Scripts.{LawFrom, Standing, bounds_of, start_among}
use Rattle.beet_gates.proofs.Ended.{plan-tells}
use Rattle.beet_gates.proofs.PlanFacts.{Follows, plan-law}
use Rattle.beet_gates.proofs.PlanRuns.{PlanStands}
use Rattle.beet_bids.specs.Books.{Book, IsBook}
use Rattle.beet_bids.specs.Outcomes.{clearing_place, outcome_of}
use Rattle.beet_bids.specs.Sums.{sums_of}
use Rattle.beet_bids.proofs.BookSums.{length-sums, sums-supply, sums-demand, sums-elements}
use Rattle.beet_masking.specs.Blocks.{five_blocks}
use Rattle.beet_masking.specs.Masks.{dealt_at, mask_among}
use Rattle.beet_masking.proofs.BlockLaws.{are-five_blocks}
use Rattle.beet_plan.specs.Runs.{EndsWith, found, finish_of}
use Rattle.beet_plan.proofs.AuctionLaw.{plan-stands}
use Rattle.beet_plan.proofs.BookFacts.{found-outcome}
use Rattle.beet_plan.proofs.BookRuns.{book-place}
use Rattle.beet_plan.proofs.FiveRuns.{five-ends}
use Rattle.beet_plan.specs.FivePlan.{FiveAuction, five_batch, five_plan, most_masks, most_rounds, most_secrets, most_wires}

module _ (a : FiveAuction) where
  abbrev bounds : Standing
  bounds = bounds_of (most_wires a) (most_masks a) (most_secrets a)

  stands : PlanStands bounds (most_rounds a) (start_among 5 (2 * a.prices)) (five_plan a)
  stands = plan-stands five_blocks are-five_blocks a.policy a.prices

  follows : Follows (five_batch a) 0 [] (five_plan a)
  follows = record { batch = λ d more. rw zero-add refl }

  pub five-law : LawFrom (five_batch a) bounds (most_rounds a) (start_among 5 (2 * a.prices)) []
  five-law = plan-law (five_batch a) bounds (five_plan a) (start_among 5 (2 * a.prices)) (most_rounds a) [] stands follows

  -- the finish is there exactly at the end
  pub five-tells : (opened : List ℕ) → TellsEnd (five_batch a) opened (plan_finish (five_plan a) opened)
  five-tells = plan-tells (five_batch a) (five_plan a) bounds (most_rounds a) (start_among 5 (2 * a.prices)) stands follows

pub book-ends : (book : Book) (words : List (List ℕ)) → IsBook book → length words ≡ 5 →
    ((k i : ℕ) → slice_index (slice_index_or words k []) i < 2 ^ 61) →
    EndsWith five_blocks book.grid.policy book.grid.prices (sums_of book) (dealt_at words) (mask_among words)
    (clearing_place book) (finish_of (outcome_of book))
book-ends book words b five few =
    let prices = book.grid.prices in
    let inputs = sums_of book in
    let demand = λ (k : ℕ). slice_index inputs (prices + k) in
    let run = five-ends book.grid.policy prices inputs words (length-sums book) (sums-elements book b) five few in
    let finish : found book.grid.policy prices (slice_index inputs) demand (clearing_place book) ≡ finish_of (outcome_of book) =
    found-outcome book (slice_index inputs) demand (sums-supply book) (sums-demand book) in
    rw (book-place book b, finish) at run
