use Rattle.beet_command.proofs.Reading.{of_line}
use Rattle.beet_app.specs.Jobs.{job_in}
use Rattle.beet_app.proofs.commands.read_command.Goals as goal

pub returns-in-Two-clause-job : goal.returns-in-Two-clause-job
returns-in-Two-clause-job c = of_line job_in _ _ _ _ c.read_line.ensures c.in-Two.is c.with_two.ensures.job

pub returns-in-Three-clause-job : goal.returns-in-Three-clause-job
returns-in-Three-clause-job c = of_line job_in _ _ _ _ c.read_line.ensures c.in-Three.is c.with_three.ensures.job

pub returns-in-Four-clause-job : goal.returns-in-Four-clause-job
returns-in-Four-clause-job c = of_line job_in _ _ _ _ c.read_line.ensures c.in-Four.is c.with_four.ensures.job

pub returns-in-Six-clause-job : goal.returns-in-Six-clause-job
returns-in-Six-clause-job c = of_line job_in _ _ _ _ c.read_line.ensures c.in-Six.is c.with_six.ensures.job
