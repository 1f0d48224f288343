use Rattle.beet_job_five_worlds.proofs.DifferenceForTwo.{no-difference, the-difference}
use Rattle.beet_job_five_worlds.proofs.laws.differences_for_two_are_told.Goals as goal

pub returns-clause-none : goal.returns-clause-none
returns-clause-none c = no-difference

pub returns-clause-told : goal.returns-clause-told
returns-clause-told c = the-difference
