use Rattle.beet_session_laws.proofs.Saying.{runs}
use Rattle.beet_session_laws.proofs.what_session_says_is_what_servers_open.Goals as goal

pub returns : goal.returns
returns c = λ files session servers call done. runs files session servers call done
