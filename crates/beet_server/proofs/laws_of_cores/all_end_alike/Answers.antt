use Rattle.beet_server.proofs.Endings.{ended_alike}
use Rattle.beet_server.proofs.laws_of_cores.all_end_alike.Goals as goal

pub returns : goal.returns
returns c d = ended_alike
