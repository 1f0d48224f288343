use Rattle.beet_app_laws.proofs.Led.{led}
use Rattle.beet_app_laws.proofs.files_lead_to_the_status.Goals as goal

pub returns : goal.returns
returns c = led
