-- What is told of lots whose servers are in a `World` each.
use Rattle.std.specs.Prelude.{◌≡◌, ℕ, List, slice_get, Some}
use Rattle.beet_field.specs.Trio.{member}
use Rattle.beet_field.specs.declared.point.Point.{Point}
use Rattle.beet_field.specs.declared.trio.Trio.{Trio}
use Rattle.beet_bids.specs.Grids.{Grid}
use Rattle.beet_errand.specs.Errands.{Answer}
use Rattle.beet_plan.specs.Auction.{Auction}
use Rattle.beet_world.specs.Worlds.{World}
use Rattle.beet_job_rehearse.specs.Rehearse.{servers_answer}
use Rattle.beet_job_rehearse.specs.Rehearsing.{Tells}
use Rattle.beet_job_rehearse.specs.declared.standing.Standing.{Standing}

-- an answer tells of the servers of a `World` over a grid, however it is told how they stand
abbrev pub AnswersFor : World Auction → Grid → Answer → Type 0
AnswersFor world grid answer =
    (servers : Trio Standing) → ((s : Point) → Tells world s (member servers s)) → answer ≡ servers_answer grid servers

-- so do the answers for the lots, each of its own
abbrev pub AnswerForEach : List (World Auction) → List Grid → List Answer → Type 0
AnswerForEach worlds grids answers =
    (k : ℕ) (world : World Auction) (grid : Grid) (answer : Answer) →
    slice_get worlds k ≡ Some world → slice_get grids k ≡ Some grid → slice_get answers k ≡ Some answer →
    AnswersFor world grid answer
