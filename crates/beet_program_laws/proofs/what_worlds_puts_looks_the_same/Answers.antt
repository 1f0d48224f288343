use Rattle.beet_program_laws.proofs.Worlds.{compares-worlds}
use Rattle.beet_program_laws.proofs.what_worlds_puts_looks_the_same.Goals as goal

pub returns : goal.returns
returns c = λ files auction servers list1 list2 server out call done.
    compares-worlds files call done.from auction servers list1 list2 server out done.code done.runs
