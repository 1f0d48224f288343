use Rattle.beet_plan.proofs.FiveFacts.{book-ends}
use Rattle.beet_plan.proofs.five.five_book_law.Goals as goal

pub returns : goal.returns
returns c = book-ends
