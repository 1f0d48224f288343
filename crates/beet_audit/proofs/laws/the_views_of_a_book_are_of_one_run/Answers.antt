use Rattle.beet_audit.proofs.BookRunFacts.{one-run, same-book}
use Rattle.beet_audit.proofs.laws.the_views_of_a_book_are_of_one_run.Goals as goal

pub returns-clause-run : goal.returns-clause-run
returns-clause-run c = λ book words b can. one-run book words b can

pub returns-clause-book : goal.returns-clause-book
returns-clause-book c = λ book words b can. same-book book words b can
