use Rattle.beet_auction.proofs.WorldEnds.{stands-by-bids, stands-by-book}
use Rattle.beet_auction.proofs.cores_open_the_books_outcome.Goals as goal

pub returns-clause-lines : goal.returns-clause-lines
returns-clause-lines c = stands-by-book

pub returns-clause-dealt : goal.returns-clause-dealt
returns-clause-dealt c = stands-by-bids
