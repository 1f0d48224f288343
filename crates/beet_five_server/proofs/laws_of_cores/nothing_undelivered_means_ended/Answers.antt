use Rattle.beet_delivery.proofs.Undelivered.{passed_all}
use Rattle.beet_five_server.proofs.Networking.{five-is}
use Rattle.beet_five_server.proofs.laws_of_cores.nothing_undelivered_means_ended.Goals as goal

pub returns : goal.returns
returns c = passed_all five-is
