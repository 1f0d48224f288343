use Rattle.beet_witness_laws.proofs.SealedViews.{answer-sealed, view-sealed}
use Rattle.beet_witness_laws.proofs.sealed_bids_are_seen_as_their_book.Goals as goal

pub returns-clause-views : goal.returns-clause-views
returns-clause-views c = λ grid farmers words s b enough unknown. view-sealed grid farmers words b enough unknown s

pub returns-clause-answer : goal.returns-clause-answer
returns-clause-answer c = λ out grid farmers words b enough unknown. answer-sealed grid farmers words b enough unknown out
