use Rattle.std.proofs.Common.{arith}
use Rattle.beet_five_server.proofs.Passing.{five-apart}
use Rattle.beet_five_world.proofs.WorldFacts.{all-ended, is-passed}
use Rattle.beet_five_world.proofs.laws_of_worlds.five_servers_end_alike.Goals as goal

pub returns-clause-apart : goal.returns-clause-apart
returns-clause-apart c d = λ next script o rounds x ms s other a b f mine theirs here there.
    let one = is-passed next script o rounds x ms s a mine f here in
    let two = is-passed next script o rounds x ms other b theirs f there in
    omega (arith, one, two, five-apart rounds x f.was s other mine theirs)

pub returns-clause-ended : goal.returns-clause-ended
returns-clause-ended c d = λ next script o rounds x ms s a f none mine here. all-ended next script o rounds x ms s a f none mine here
