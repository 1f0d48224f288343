use Rattle.beet_counterexample_laws.proofs.TellingApart.{no-exchange, no-seal, no-tally, one-transcript}
use Rattle.beet_counterexample_laws.proofs.TwoOfFive.{no-refusal, two-servers}
use Rattle.beet_counterexample_laws.proofs.apart.the_statements_tell_runs_apart.Goals as goal

pub returns-clause-tally : goal.returns-clause-tally
returns-clause-tally c = no-tally

pub returns-clause-seal : goal.returns-clause-seal
returns-clause-seal c = no-seal

pub returns-clause-again : goal.returns-clause-again
returns-clause-again c = λ out call s seen other p q. one-transcript out call s seen other p q

pub returns-clause-exchanged : goal.returns-clause-exchanged
returns-clause-exchanged c = no-exchange

pub returns-clause-two : goal.returns-clause-two
returns-clause-two c = two-servers

pub returns-clause-refused : goal.returns-clause-refused
returns-clause-refused c = no-refusal
