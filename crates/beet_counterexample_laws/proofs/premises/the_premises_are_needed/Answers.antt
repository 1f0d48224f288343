use Rattle.beet_counterexample_laws.proofs.Needed.{longer, memory, write}
use Rattle.beet_counterexample_laws.proofs.premises.the_premises_are_needed.Goals as goal

pub returns-clause-answers : goal.returns-clause-answers
returns-clause-answers c = longer

pub returns-clause-memory : goal.returns-clause-memory
returns-clause-memory c = memory

pub returns-clause-write : goal.returns-clause-write
returns-clause-write c = write
