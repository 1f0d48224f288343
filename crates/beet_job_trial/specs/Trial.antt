-- The job `trial`: the outcome of a book that a rule makes.
use Rattle.std.specs.Prelude.{ℕ, List, ◌++◌, codes, decimal, None}
use Rattle.beet_auction.specs.Endings.{book_finish, book_rounds}
use Rattle.beet_bids.specs.Grids.{Grid}
use Rattle.beet_errand.specs.Errands.{Answer, Errand, Ends, Step, gives, text_answer, ◌>>◌}
use Rattle.beet_errand.specs.Texts.{line_of}
use Rattle.beet_load.specs.Wanted.{wanted_of}
use Rattle.beet_load.specs.Servers.{enough_of_all, masks_of}
use Rattle.beet_plan.specs.declared.Finish.{Finish}
use Rattle.beet_run.specs.Outcomes.{status_of}
use Rattle.beet_run.specs.OutcomeTexts.{outcome_text}
use Rattle.beet_job_trial.specs.Adding.{enough_of_each}
use Rattle.beet_job_trial.specs.Rules.{trial_grid, trial_servers, trial_farmers, trial_book}

-- how many bidders and prices there are
abbrev pub sizes_text : ℕ → ℕ → List ℕ
sizes_text bidders prices = line_of (codes "bidders " ++ decimal bidders ++ codes " prices " ++ decimal prices)

-- the answer that tells the sizes, a finish and a number of rounds
abbrev pub sized_answer : Grid → ℕ → Finish → ℕ → Answer
sized_answer grid bidders finish rounds =
    text_answer (status_of finish) (sizes_text bidders grid.prices ++ outcome_text grid finish rounds)

-- the answer of a trial: how the auction of its book ends
abbrev pub trial_answer : Grid → ℕ → Answer
trial_answer grid bidders =
    let book = trial_book grid bidders in
    let masks = masks_of (trial_servers grid) in
    sized_answer grid bidders (book_finish book masks) (book_rounds book masks)

-- a trial over a grid: each server has enough words, and then each bidder, numbered from 1
abbrev pub trial_over : Grid → ℕ → Step Answer
trial_over grid bidders = do
  enough_of_all (wanted_of None grid) (trial_servers grid)
  enough_of_each grid 1 (trial_farmers grid bidders)
  gives (trial_answer grid bidders)

-- the whole job, which fetches nothing
abbrev pub trial_job : ℕ → ℕ → Step Answer
trial_job bidders prices = trial_over (trial_grid prices) bidders

-- what it does outside
abbrev pub trial_errand : ℕ → ℕ → Errand
trial_errand bidders prices = trial_job bidders prices Ends
