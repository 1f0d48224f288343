use Rattle.std.proofs.Common.{refl}
use Rattle.beet_auction.specs.Setups.{book_setup}
use Rattle.beet_plan.specs.Auction.{auction_over}
use Rattle.beet_book.specs.Farmers.{book_with}
use Rattle.beet_auction.specs.Endings.{book_finish, book_rounds}
use Rattle.beet_auction.proofs.BookLines.{book-lines, slopes_of}
use Rattle.beet_auction.proofs.Ends.{book-ends, ends-always}
use Rattle.beet_auction.proofs.an_opened_outcome_is_the_books.Goals as goal

pub returns-clause-ends : goal.returns-clause-ends
returns-clause-ends c = λ grid farmers masks coefficients b m.
    book-ends (book_with grid farmers) (book_setup grid farmers masks coefficients) (slopes_of grid farmers) b m refl
    (book-lines grid farmers b)

pub returns-clause-always : goal.returns-clause-always
returns-clause-always c = λ grid farmers masks coefficients b m.
    ends-always (auction_over grid) (book_setup grid farmers masks coefficients)
    (book_rounds (book_with grid farmers) masks) (book_finish (book_with grid farmers) masks)
    (book-ends (book_with grid farmers) (book_setup grid farmers masks coefficients) (slopes_of grid farmers) b m refl
    (book-lines grid farmers b))
