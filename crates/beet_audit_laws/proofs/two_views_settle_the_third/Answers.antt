use Rattle.beet_field.specs.Trio.{member, trio_of}
use Rattle.beet_view.specs.BookViews.{view_for}
use Rattle.beet_audit.proofs.BookRunFacts.{one-run}
use Rattle.beet_audit_laws.proofs.BookViewFacts.{sound-for}
use Rattle.beet_audit_laws.proofs.ThirdFacts.{sound-view}
use Rattle.beet_audit_laws.proofs.ThirdLaw.{third-law}
use Rattle.beet_audit_laws.proofs.two_views_settle_the_third.Goals as goal

pub returns-clause-any : goal.returns-clause-any
returns-clause-any c = λ grid views others s are are' one same.
    third-law grid views others s (λ r. sound-view (member views r) (are r).0 (are r).1)
    (λ r. sound-view (member others r) (are' r).0 (are' r).1) one same

pub returns-clause-book : goal.returns-clause-book
returns-clause-book c = λ book words views s b can are are' same.
    third-law book.grid (trio_of (view_for book words)) views s (sound-for book words b can are)
    (λ r. sound-view (member views r) (are' r).0 (are' r).1)
    (one-run book words b can) same
