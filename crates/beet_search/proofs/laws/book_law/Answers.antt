use Rattle.beet_plan.proofs.BookRuns.{book-run}
use Rattle.beet_search.proofs.laws.book_law.Goals as goal

pub returns : goal.returns
returns c = book-run
