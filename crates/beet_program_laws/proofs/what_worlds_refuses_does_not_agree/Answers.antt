use Rattle.beet_program_laws.proofs.Worlds.{refuses-server}
use Rattle.beet_program_laws.proofs.what_worlds_refuses_does_not_agree.Goals as goal

pub returns : goal.returns
returns c = λ files auction servers list1 list2 server out both call from.
    refuses-server files call from auction servers list1 list2 server out both
