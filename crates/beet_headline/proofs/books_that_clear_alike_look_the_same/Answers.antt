use Rattle.beet_headline.proofs.Pairing.{first-there, mapped-pair, second-there}
use Rattle.beet_headline.proofs.books_that_clear_alike_look_the_same.Goals as goal

pub returns-clause-second : goal.returns-clause-second
returns-clause-second c = second-there

pub returns-clause-first : goal.returns-clause-first
returns-clause-first c = λ s first second words' two runs. first-there s first second two words' runs

pub returns-clause-mapped : goal.returns-clause-mapped
returns-clause-mapped c = mapped-pair
