use Rattle.beet_five_map.proofs.Joined.{first-pair, mapped-pair, second-pair}
use Rattle.beet_five_map.proofs.laws.two_of_five_cannot_tell_books_apart_that_clear_alike.Goals as goal

pub returns-clause-second : goal.returns-clause-second
returns-clause-second c = λ a b first second words some less few two can. second-pair a b some less few first second two words can

pub returns-clause-first : goal.returns-clause-first
returns-clause-first c = λ a b first second words' some less few two can. first-pair a b some less few first second two words' can

pub returns-clause-mapped : goal.returns-clause-mapped
returns-clause-mapped c = λ a b first second words words' some less few two can m.
    mapped-pair a b some less few first second two words words' can m
