use Rattle.beet_server.proofs.Passing.{twice}
use Rattle.beet_server.proofs.laws_of_cores.messages_go_out_at_most_twice.Goals as goal

pub returns : goal.returns
returns c d = twice
