use Rattle.beet_program_laws.proofs.FiveWorlds.{puts-for-two}
use Rattle.beet_program_laws.proofs.what_five_worlds_puts_looks_the_same_to_two.Goals as goal

pub returns : goal.returns
returns c = λ files auction servers list1 list2 one other out call done.
    puts-for-two files call auction servers list1 list2 one other out done
