-- How the auction of a book ends among five servers.
use Rattle.std.specs.Prelude.{◌≡◌, ℕ, List, Some}
use Rattle.beet_bids.specs.Books.{Book}
use Rattle.beet_bids.specs.Outcomes.{clearing_place, outcome_of}
use Rattle.beet_gates.specs.Plans.{plan_finish}
use Rattle.beet_masking.specs.Blocks.{five_blocks}
use Rattle.beet_masking.specs.Masks.{mask_among}
use Rattle.beet_plan.specs.Runs.{finish_of, run_finish, run_rounds_with}
use Rattle.beet_plan.specs.declared.Finish.{Finish}
use Rattle.beet_weights.specs.Quadratics.{of_five}
use Rattle.beet_linear_sharing.specs.Runs.{HasRounds, Setup, shared_at}
use Rattle.beet_linear_sharing.specs.Schemes.{five_servers}
use Rattle.beet_plan.specs.FivePlan.{FiveAuction, five_plan}

-- how it ends with the mask words of each server: with the book's outcome, or spent if the third rejected mask comes
-- first
abbrev pub book_finish : Book → (ℕ → List ℕ) → Finish
book_finish book masks =
    run_finish book.grid.prices (mask_among (of_five masks)) (clearing_place book) (finish_of (outcome_of book))

-- and after how many rounds
abbrev pub book_rounds : Book → (ℕ → List ℕ) → ℕ
book_rounds book masks =
    run_rounds_with five_blocks book.grid.policy book.grid.prices (mask_among (of_five masks)) (clearing_place book)

-- the run of an auction has these rounds, and the script names this finish after the numbers opened in them
pub record FiveAuctionEnds (a : FiveAuction) (o : Setup) (rounds : ℕ) (finish : Finish) : Type 0 where
  pub has_rounds : HasRounds five_servers o rounds
  pub finish_named : plan_finish (five_plan a) (shared_at five_servers o rounds).opened ≡ Some finish
