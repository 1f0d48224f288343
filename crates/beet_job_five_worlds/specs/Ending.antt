-- How the job `five_worlds` ends.
use Rattle.std.specs.Prelude.{ℕ, List, Option, Result}
use Rattle.beet_bids.specs.Books.{Book}
use Rattle.beet_two_books.specs.Agreement.{is_known}
use Rattle.beet_two_books.specs.declared.agreeing.MapFault.{MapFault}
use Rattle.beet_errand.specs.Errands.{Answer, Step}
use Rattle.beet_errand.specs.Tasks.{Shows, ShowsRead, Task, ToShow}
use Rattle.beet_errand.specs.declared.answer.OwnRefusal.TheVariants.{OfWorlds}
use Rattle.beet_errand.specs.declared.answer.Stop.{Stop}
use Rattle.beet_differences.specs.Comparing.{AnswersBoth, compared}
use Rattle.beet_five_map.specs.FiveWorlds.{watching}
use Rattle.beet_five_load.specs.FiveLoading.{FiveRead}
use Rattle.beet_book_differences.specs.Differences.{difference_for, refused_text}
use Rattle.beet_job_five_worlds.specs.Reading.{BothOfFive, both_errand, second_book}
use Rattle.beet_job_five_worlds.specs.Answering.{ShowsTheSameForTwo}

-- the first thing by which servers a and b together can tell two books apart, if there is one
abbrev pub difference_for_two : ℕ → ℕ → Book → Book → Option MapFault
difference_for_two a b = difference_for (is_known (watching a b))

-- both books are read, and they are refused if servers a and b can tell them apart
abbrev pub compared_errand : List ℕ → List ℕ → List ℕ → List ℕ → ℕ → ℕ → Step BothOfFive
compared_errand auction servers book1 book2 a b =
    compared refused_text (λ both. difference_for_two a b both.first.book (second_book both))
    (both_errand auction servers book1 book2)

-- both books are read, and the answer shows that they look the same to servers a and b
abbrev pub ShowsFiveWorlds : List ℕ → List ℕ → List ℕ → List ℕ → ℕ → ℕ → List ℕ → Shows
ShowsFiveWorlds auction servers book1 book2 a b out =
    ShowsRead (both_errand auction servers book1 book2)
    (λ both answer. ShowsTheSameForTwo a b out both.first (second_book both) answer)

-- the job compares both books for servers a and b, and its answer shows that they look the same to the two
abbrev pub five_worlds_task : List ℕ → List ℕ → List ℕ → List ℕ → ℕ → ℕ → List ℕ → Task
five_worlds_task auction servers book1 book2 a b out =
    ToShow OfWorlds (compared_errand auction servers book1 book2 a b)
    (ShowsFiveWorlds auction servers book1 book2 a b out)

-- the answer for two books that look the same to servers a and b; or their refusal by the line of what tells them
-- apart, unless memory ran out
abbrev pub AnswersForTwo : ℕ → ℕ → List ℕ → FiveRead → Book → Result Answer Stop → Type 0
AnswersForTwo a b out first second =
    AnswersBoth refused_text (difference_for_two a b first.book second) (ShowsTheSameForTwo a b out first second)
