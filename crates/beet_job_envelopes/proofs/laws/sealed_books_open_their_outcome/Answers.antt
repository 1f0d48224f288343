use Rattle.beet_farmer.proofs.SealedAgain.{sealed-again}
use Rattle.beet_job_envelopes.proofs.SealedBooks.{sealed-size, inputs-sealed, outcome-sealed}
use Rattle.beet_job_envelopes.proofs.SealedFiles.{sealed-files}
use Rattle.beet_job_envelopes.proofs.laws.sealed_books_open_their_outcome.Goals as goal

pub returns-clause-envelopes : goal.returns-clause-envelopes
returns-clause-envelopes c = sealed-again

pub returns-clause-size : goal.returns-clause-size
returns-clause-size c = sealed-size

pub returns-clause-files : goal.returns-clause-files
returns-clause-files c = sealed-files

pub returns-clause-inputs : goal.returns-clause-inputs
returns-clause-inputs c = inputs-sealed

pub returns-clause-outcome : goal.returns-clause-outcome
returns-clause-outcome c = outcome-sealed
