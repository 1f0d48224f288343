use Rattle.beet_program_laws.proofs.Witnessing.{witnesses}
use Rattle.beet_program_laws.proofs.what_witness_puts_is_what_servers_see_of_envelopes.Goals as goal

pub returns : goal.returns
returns c = λ files auction servers list out call done.
    witnesses files call done.from done.code auction servers list out done.runs
