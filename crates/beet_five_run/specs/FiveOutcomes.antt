-- What is told of the auction that five servers run.
use Rattle.beet_coalition.specs.Lists.{at_server}
use Rattle.beet_errand.specs.Errands.{Answer}
use Rattle.beet_five_auction.specs.FiveEndings.{book_finish, book_rounds}
use Rattle.beet_five_load.specs.FiveLoading.{FiveRead}
use Rattle.beet_run.specs.Outcomes.{outcome_answer}

-- the answer for an auction that is read: its outcome, and after how many rounds five servers find it
abbrev pub cleared_by_five : FiveRead → Answer
cleared_by_five read =
    let masks = at_server read.words.masks in
    outcome_answer read.book.grid (book_finish read.book masks) (book_rounds read.book masks)
