-- What is answered for the points of bidders.
use Rattle.std.specs.Prelude.{ℕ, List}
use Rattle.beet_field.specs.declared.trio.Trio.{Trio}
use Rattle.beet_bids.specs.Grids.{Grid}
use Rattle.beet_book.specs.PointSums.{inputs_at}
use Rattle.beet_plan.specs.Auction.{auction_over}
use Rattle.beet_auction.specs.AnyPoints.{points_finish, points_rounds}
use Rattle.beet_errand.specs.Errands.{Answer}
use Rattle.beet_load.specs.Servers.{ServerWords, masks_of}
use Rattle.beet_run.specs.Outcomes.{outcome_answer}

-- the answer for the points of the bidders, which need not lie on lines
abbrev pub opened_answer : Grid → Trio ServerWords → List (Trio (List ℕ)) → Answer
opened_answer grid servers bidders =
    let auction = auction_over grid in
    let inputs = inputs_at grid.prices bidders in
    let masks = masks_of servers in
    outcome_answer grid (points_finish auction inputs masks) (points_rounds auction inputs masks)
