use Rattle.std.proofs.Common.{arith}
use Rattle.beet_headline.proofs.Zeros.{zeros-run}
use Rattle.beet_counterexamples.proofs.Premises.{bids-differ, is-seen, one-choice, seals, two-bids}
use Rattle.beet_counterexamples.proofs.TwoBooks.{is-book}
use Rattle.beet_counterexamples.proofs.instances.the_premises_of_the_statements_are_met.Goals as goal
use Rattle.beet_counterexamples.specs.Examples.{book_selling}

pub returns-clause-book : goal.returns-clause-book
returns-clause-book c = is-book 5 (omega arith)

pub returns-clause-words : goal.returns-clause-words
returns-clause-words c = zeros-run (book_selling 5)

pub returns-clause-choices : goal.returns-clause-choices
returns-clause-choices c = one-choice

pub returns-clause-bids : goal.returns-clause-bids
returns-clause-bids c = two-bids

pub returns-clause-different : goal.returns-clause-different
returns-clause-different c = bids-differ

pub returns-clause-seals : goal.returns-clause-seals
returns-clause-seals c = seals

pub returns-clause-seen : goal.returns-clause-seen
returns-clause-seen c = is-seen
