use Rattle.beet_world.specs.Worlds.{named_in}
use Rattle.beet_headline.proofs.Standings.{core-stands, cores, given-more, given-none, only, stands}
use Rattle.beet_headline.proofs.Zeros.{zeros-run}
use Rattle.beet_headline.proofs.an_opened_outcome_is_the_plaintext_auctions.Goals as goal

pub returns-clause-opens : goal.returns-clause-opens
returns-clause-opens c = λ book words es w s core b runs given is. core-stands book words b runs es w s core given is

pub returns-clause-begins : goal.returns-clause-begins
returns-clause-begins c = given-none

pub returns-clause-goes_on : goal.returns-clause-goes_on
returns-clause-goes_on c = λ book words es schedule w w' given same delivered.
    given-more book words es (named_in schedule) w w' given same delivered

pub returns-clause-cores : goal.returns-clause-cores
returns-clause-cores c = λ book words w s core b runs script setup is. cores book words b runs w s core script setup is

pub returns-clause-defined : goal.returns-clause-defined
returns-clause-defined c = λ book words es s b runs. stands book words b runs es s

pub returns-clause-only : goal.returns-clause-only
returns-clause-only c = λ book words finish b runs all. only book words b runs finish all

pub returns-clause-words : goal.returns-clause-words
returns-clause-words c = zeros-run
