use Rattle.beet_headline.proofs.Choices.{firsts-show, firsts-there, seconds-show, seconds-there}
use Rattle.beet_headline.proofs.there_are_as_many_words_for_both_books.Goals as goal

pub returns-clause-second : goal.returns-clause-second
returns-clause-second c = λ s first second choices two are. seconds-there s first second two choices are

pub returns-clause-first : goal.returns-clause-first
returns-clause-first c = λ s first second others two are. firsts-there s first second two others are

pub returns-clause-shown_second : goal.returns-clause-shown_second
returns-clause-shown_second c = λ s first second transcript choices two are shown.
    seconds-show s first second two transcript choices are shown

pub returns-clause-shown_first : goal.returns-clause-shown_first
returns-clause-shown_first c = λ s first second transcript others two are shown.
    firsts-show s first second two transcript others are shown
