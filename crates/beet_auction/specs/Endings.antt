-- How the auction of a book ends among three servers.
use Rattle.std.specs.Prelude.{◌≡◌, ◌⊎◌, ℕ, List, Some}
use Rattle.beet_field.specs.declared.point.Point.{Point}
use Rattle.beet_field.specs.declared.trio.Trio.{Trio}
use Rattle.beet_gates.specs.Plans.{plan_finish}
use Rattle.beet_bids.specs.Books.{Book}
use Rattle.beet_bids.specs.Outcomes.{clearing_place, outcome_of}
use Rattle.beet_plan.specs.Auction.{Auction, auction_over, auction_plan, most_rounds}
use Rattle.beet_plan.specs.Runs.{run_finish, run_rounds, finish_of}
use Rattle.beet_masking.specs.Masks.{mask_at}
use Rattle.beet_plan.specs.declared.Finish.{Finish}
use Rattle.beet_sharing.specs.Runs.{Setup, HasRounds, shared_at, rounds_among}
use Rattle.beet_delivery.specs.Events.{Triple, after, passed}
use Rattle.beet_server.specs.Endings.{Ends, Waits, ending_of}

-- how the auction of a book ends with these mask words: with the book's outcome, or spent if the third rejected mask
-- comes first
abbrev pub book_finish : Book → Trio (List ℕ) → Finish
book_finish book masks = run_finish book.grid.prices (mask_at masks) (clearing_place book) (finish_of (outcome_of book))

-- and after how many rounds
abbrev pub book_rounds : Book → Trio (List ℕ) → ℕ
book_rounds book masks = run_rounds (auction_over book.grid) (mask_at masks) (clearing_place book)

-- the run of an auction has these rounds, and the script names this finish after the numbers opened in them
pub record AuctionEnds (a : Auction) (o : Setup) (rounds : ℕ) (finish : Finish) : Type 0 where
  pub has_rounds : HasRounds o rounds
  pub counted : rounds_among o (most_rounds a) ≡ rounds
  pub finish_named : plan_finish (auction_plan a) (shared_at o rounds).opened ≡ Some finish

-- after every list of events each server waits in a round that it has not passed, or has ended with this finish
abbrev pub EndsAlways : Auction → Setup → ℕ → Finish → Type 0
EndsAlways a o rounds finish =
    (es : List Triple) (s : Point) →
    (ending_of (plan_finish (auction_plan a)) o rounds (after rounds es) s ≡ Waits (passed rounds (after rounds es) s))
    ⊎ (ending_of (plan_finish (auction_plan a)) o rounds (after rounds es) s ≡ Ends (Some finish))
