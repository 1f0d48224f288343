use Rattle.beet_app_laws.proofs.Left.{left}
use Rattle.beet_app_laws.proofs.statuses_tell_what_is_left.Goals as goal

pub returns : goal.returns
returns c = left
