use Rattle.beet_program_laws.proofs.SecondWorlds.{puts-again}
use Rattle.beet_program_laws.proofs.recording_the_second_world_puts_its_transcript.Goals as goal

pub returns : goal.returns
returns c = λ files auction servers list1 list2 server out call done.
    puts-again files call done.from done.code auction servers list1 list2 server out done.runs
