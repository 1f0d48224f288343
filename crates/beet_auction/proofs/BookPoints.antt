-- On points of lines with the sums of a book the search over the points is that of the book.
use Rattle.std.proofs.Common.{◌≡◌, ℕ, ◌+◌, ◌*◌, List, slice_index, sym, ◌∙◌, ap, arith}
use Rattle.std.proofs.lemmas.Grind.{same_number_lists}
use Rattle.beet_field.specs.Trio.{member}
use Rattle.beet_field.specs.declared.trio.Trio.{Trio}
use Rattle.beet_bids.specs.Books.{Book, IsBook}
use Rattle.beet_bids.specs.Outcomes.{clearing_place}
use Rattle.beet_bids.specs.Sums.{sums_of}
use Rattle.beet_gates.proofs.EachFacts.{length-each, item-each}
use Rattle.beet_plan.specs.Auction.{Auction, auction_over}
use Rattle.beet_plan.specs.Runs.{found, place_of_inputs, run_finish, run_rounds}
use Rattle.beet_masking.specs.Masks.{mask_at}
use Rattle.beet_plan.proofs.BookFacts.{found-outcome}
use Rattle.beet_plan.proofs.BookRuns.{book-place}
use Rattle.beet_bids.proofs.BookSums.{length-sums, sums-supply, sums-demand}
use Rattle.beet_sharing.specs.Lines.{OnLines}
use Rattle.beet_sharing.specs.Runs.{opened_at}
use Rattle.beet_sharing.proofs.Lined.{lined, opened-line}
use Rattle.beet_auction.specs.AnyPoints.{points_finish, points_place, points_rounds, values_on}
use Rattle.beet_auction.specs.Endings.{book_finish, book_rounds}

module _ (book : Book) where
  abbrev auction : Auction
  auction = auction_over book.grid

  -- the values of the points are the sums
  book-values : (slopes : List ℕ) (inputs : Trio (List ℕ)) → OnLines (sums_of book) slopes inputs →
      values_on (2 * book.grid.prices) inputs ≡ sums_of book
  book-values slopes inputs lines =
      let n = 2 * book.grid.prices in
      let long = length-each (opened_at inputs) n in
      same_number_lists (values_on n inputs) (sums_of book) (long ∙ sym (length-sums book))
      (λ k lt. item-each (opened_at inputs) n k (omega arith)
      ∙ opened-line (sums_of book) slopes (member inputs) (lined (sums_of book) slopes inputs lines) k)

  points-place : (slopes : List ℕ) (inputs : Trio (List ℕ)) → IsBook book → OnLines (sums_of book) slopes inputs →
      points_place auction inputs ≡ clearing_place book
  points-place slopes inputs b lines = ap (place_of_inputs auction) (book-values slopes inputs lines) ∙ book-place book b

  pub points-rounds : (slopes : List ℕ) (inputs masks : Trio (List ℕ)) → IsBook book → OnLines (sums_of book) slopes inputs →
      points_rounds auction inputs masks ≡ book_rounds book masks
  points-rounds slopes inputs masks b lines = ap (run_rounds auction (mask_at masks)) (points-place slopes inputs b lines)

  pub points-finish : (slopes : List ℕ) (inputs masks : Trio (List ℕ)) → IsBook book → OnLines (sums_of book) slopes inputs →
      points_finish auction inputs masks ≡ book_finish book masks
  points-finish slopes inputs masks b lines =
      let prices = book.grid.prices in
      let policy = book.grid.policy in
      let supply = slice_index (sums_of book) in
      let demand = λ (k : ℕ). slice_index (sums_of book) (prices + k) in
      ap (λ (values : List ℕ). run_finish prices (mask_at masks) (points_place auction inputs)
      (found policy prices (slice_index values) (λ k. slice_index values (prices + k)) (points_place auction inputs)))
      (book-values slopes inputs lines)
      ∙ ap (λ (z : ℕ). run_finish prices (mask_at masks) z (found policy prices supply demand z)) (points-place slopes inputs b lines)
      ∙ ap (run_finish prices (mask_at masks) (clearing_place book))
      (found-outcome book supply demand (sums-supply book) (sums-demand book))
