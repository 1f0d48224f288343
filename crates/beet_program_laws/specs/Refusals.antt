-- Two worlds that are refused at status 7: they do not agree.
use Rattle.std.specs.Prelude.{◌≡◌, ℕ, List, Some}
use Rattle.beet_field.specs.declared.point.Point.{Point}
use Rattle.beet_two_books.specs.Agreement.{Agree}
use Rattle.beet_five_map.specs.FiveWorlds.{Agree as AgreeForTwo}
use Rattle.beet_book_differences.specs.Differences.{refused_text}
use Rattle.beet_job_worlds.specs.Ending.{difference_read}
use Rattle.beet_job_worlds.specs.Reading.{Both, first_book, second_book}
use Rattle.beet_job_five_worlds.specs.Ending.{difference_for_two}
use Rattle.beet_job_five_worlds.specs.Reading.{BothOfFive, second_book as second_of_five}
use Rattle.beet_app_laws.specs.Calls.{Call, Says}

-- the worlds do not agree. The line tells the first difference between them, and nothing was put
pub record RefusesWorlds {F : Type 0} (line : F → List ℕ) (IsFirst : F → Type 0) (Agreeing : Type 0) (call : Call) :
    Type 0 where
  pub fault : F
  pub first : IsFirst fault
  pub apart : Agreeing → ⊥
  pub said : Says call (line fault)

-- `worlds`, of two books that are read: what tells them apart for server s
abbrev pub RefusesBooks : Point → Both → Call → Type 0
RefusesBooks s both =
    RefusesWorlds refused_text (λ fault. difference_read s both ≡ Some fault)
    (Agree s (first_book both) (second_book both))

-- `five_worlds`: what tells them apart for servers a and b together
abbrev pub RefusesBooksForTwo : ℕ → ℕ → BothOfFive → Call → Type 0
RefusesBooksForTwo a b both =
    RefusesWorlds refused_text (λ fault. difference_for_two a b both.first.book (second_of_five both) ≡ Some fault)
    (AgreeForTwo a b both.first.book (second_of_five both))
