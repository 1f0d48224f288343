use Rattle.beet_samples.proofs.Faults.{only-memory}
use Rattle.beet_samples.proofs.of_inputs.Goals as goal

pub returns-clause-memory : goal.returns-clause-memory
returns-clause-memory c = only-memory c.start.result c.start.ensures.words c.start.ensures.masks
