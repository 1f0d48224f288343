use Rattle.beet_program_laws.proofs.FiveWorlds.{refuses-for-two}
use Rattle.beet_program_laws.proofs.what_five_worlds_refuses_does_not_agree.Goals as goal

pub returns : goal.returns
returns c = λ files auction servers list1 list2 one other out both call.
    refuses-for-two files call auction servers list1 list2 one other out both
