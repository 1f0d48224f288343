use Rattle.beet_counterexamples.proofs.MustAgree.{bytes-agree, must-agree}
use Rattle.beet_counterexamples.proofs.headline.only_books_that_agree_look_the_same.Goals as goal

pub returns-clause-views : goal.returns-clause-views
returns-clause-views c = must-agree

pub returns-clause-transcripts : goal.returns-clause-transcripts
returns-clause-transcripts c = bytes-agree
