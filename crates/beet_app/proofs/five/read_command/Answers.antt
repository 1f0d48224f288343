use Rattle.beet_command.proofs.Reading.{of_line}
use Rattle.beet_app.specs.Jobs.{five_job_in}
use Rattle.beet_app.proofs.five.read_command.Goals as goal

pub returns-in-Three : goal.returns-in-Three
returns-in-Three c = of_line five_job_in _ _ _ _ c.read_line.ensures c.in-Three.is c.with_three.ensures

pub returns-in-Seven : goal.returns-in-Seven
returns-in-Seven c = of_line five_job_in _ _ _ _ c.read_line.ensures c.in-Seven.is c.with_seven.ensures
