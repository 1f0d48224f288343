use Rattle.beet_world.specs.Worlds.{named_in}
use Rattle.beet_sale_run.proofs.Standings.{given-more, given-none, stands-right}
use Rattle.beet_sale_run.proofs.laws.each_server_ends_a_sale_so.Goals as goal

pub returns-clause-stands : goal.returns-clause-stands
returns-clause-stands c = λ gates bids words es w s core are sells given is.
    stands-right gates bids words are sells es w s core given is

pub returns-clause-begins : goal.returns-clause-begins
returns-clause-begins c = given-none

pub returns-clause-goes_on : goal.returns-clause-goes_on
returns-clause-goes_on c = λ gates bids words es schedule w w' given same delivered.
    given-more gates bids words es (named_in schedule) w w' given same delivered
