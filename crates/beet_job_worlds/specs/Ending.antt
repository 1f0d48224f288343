-- How the job `worlds` ends.
use Rattle.std.specs.Prelude.{ℕ, List, Option, Result}
use Rattle.beet_field.specs.declared.point.Point.{Point}
use Rattle.beet_words.specs.Bundles.{Words}
use Rattle.beet_bids.specs.Books.{Book}
use Rattle.beet_two_books.specs.declared.agreeing.MapFault.{MapFault}
use Rattle.beet_errand.specs.Errands.{Answer, Step}
use Rattle.beet_errand.specs.Tasks.{Shows, ShowsRead, Task, ToShow}
use Rattle.beet_errand.specs.declared.answer.OwnRefusal.TheVariants.{OfWorlds}
use Rattle.beet_errand.specs.declared.answer.Stop.{Stop}
use Rattle.beet_differences.specs.Comparing.{AnswersBoth, compared}
use Rattle.beet_book_differences.specs.Differences.{difference_between, refused_text}
use Rattle.beet_job_worlds.specs.Reading.{Both, both_errand, first_book, second_book, words_read}
use Rattle.beet_job_worlds.specs.Answering.{ShowsTheSame}

-- the difference between two books that are read
abbrev pub difference_read : Point → Both → Option MapFault
difference_read s both = difference_between s (first_book both) (second_book both)

-- both books are read, and they are refused if one server can tell them apart
abbrev pub compared_errand : List ℕ → List ℕ → List ℕ → List ℕ → Point → Step Both
compared_errand auction servers book1 book2 s =
    compared refused_text (difference_read s) (both_errand auction servers book1 book2)

-- an answer shows that two books that are read look the same to the server
abbrev pub ShowsBoth : Point → List ℕ → Both → Answer → Type 0
ShowsBoth s out both = ShowsTheSame s out (first_book both) (words_read both) (second_book both)

-- both books are read, and the answer shows that they look the same to the server
abbrev pub ShowsWorlds : List ℕ → List ℕ → List ℕ → List ℕ → Point → List ℕ → Shows
ShowsWorlds auction servers book1 book2 s out = ShowsRead (both_errand auction servers book1 book2) (ShowsBoth s out)

-- the job compares both books, and its answer shows that
abbrev pub worlds_task : List ℕ → List ℕ → List ℕ → List ℕ → Point → List ℕ → Task
worlds_task auction servers book1 book2 s out =
    ToShow OfWorlds (compared_errand auction servers book1 book2 s) (ShowsWorlds auction servers book1 book2 s out)

-- the answer for two books that look the same; or their refusal
abbrev pub AnswersBooks : Point → List ℕ → Book → Words → Book → Result Answer Stop → Type 0
AnswersBooks s out first words second =
    AnswersBoth refused_text (difference_between s first second) (ShowsTheSame s out first words second)
