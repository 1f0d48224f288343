use Rattle.beet_book.specs.Farmers.{book_inputs, book_with}
use Rattle.beet_auction.proofs.BookLines.{book-lines, slopes_of}
use Rattle.beet_auction.proofs.BookPoints.{points-finish, points-rounds}
use Rattle.beet_auction.proofs.points_of_a_book_end_with_its_outcome.Goals as goal

pub returns-clause-finish : goal.returns-clause-finish
returns-clause-finish c = points-finish

pub returns-clause-rounds : goal.returns-clause-rounds
returns-clause-rounds c = points-rounds

pub returns-clause-dealt_finish : goal.returns-clause-dealt_finish
returns-clause-dealt_finish c = λ grid farmers masks b.
    points-finish (book_with grid farmers) (slopes_of grid farmers) (book_inputs grid.prices farmers) masks b (book-lines grid farmers b)

pub returns-clause-dealt_rounds : goal.returns-clause-dealt_rounds
returns-clause-dealt_rounds c = λ grid farmers masks b.
    points-rounds (book_with grid farmers) (slopes_of grid farmers) (book_inputs grid.prices farmers) masks b (book-lines grid farmers b)
