use Rattle.beet_five_auction.proofs.Ends.{words-end}
use Rattle.beet_five_auction.proofs.dealt_books_end_with_their_outcome.Goals as goal

pub returns : goal.returns
returns c = words-end
