-- Bidders of two books with the same marks.
use Rattle.std.proofs.Common.{◌≡◌, ◌<◌, ℕ, length, Some, slice_get, arith}
use Rattle.beet_bids.specs.Books.{Book}
use Rattle.beet_bids.specs.declared.book.Bidder.{Bidder}
use Rattle.beet_map.proofs.Disagreeing.{as-many, mark-at}
use Rattle.beet_two_books.specs.Agreement.{marks_of}

module _ (first second : Book) (marks : marks_of second ≡ marks_of first) where
  pub as-many-in : length second.bidders ≡ length first.bidders
  as-many-in = as-many (λ (b : Bidder). b.known) first.bidders second.bidders marks

  -- a place of the one is a place of the other
  pub place-in : (i : ℕ) → i < length first.bidders → i < length second.bidders
  place-in i lt = omega (arith, lt, as-many-in)

  -- the two there have the same mark
  pub same-mark : (i : ℕ) (one other : Bidder) → slice_get first.bidders i ≡ Some one → slice_get second.bidders i ≡ Some other →
      other.known ≡ one.known
  same-mark i one other a b = mark-at (λ (b : Bidder). b.known) first.bidders second.bidders i one other marks a b
