-- What one server sees of an auction.
use Rattle.std.specs.Prelude.{◌≡◌, ◌≢◌, ℕ, ◌*◌, ◌^◌, ◌<◌, ◌≤◌, List, length, slice_get, Option, Some, option_and_then}
use Rattle.std.specs.Prelude.{option_map, MatchOption, All}
use Rattle.beet_field.specs.declared.point.Point.{Point}
use Rattle.beet_bids.specs.Grids.{Grid}
use Rattle.beet_bids.specs.Curves.{IsOfGrid}
use Rattle.beet_words.specs.declared.bundle.TheConstants.{MOST_BIDDERS}
use Rattle.beet_round.specs.Sides.{side_of}
use Rattle.beet_round.specs.declared.sides.Side.{Side}
use Rattle.beet_round.specs.declared.sides.Side.TheVariants.{Low, High}
use Rattle.beet_sharing.specs.Seen.{SeenRun}
use Rattle.beet_view.specs.declared.view.Seen.{Seen}

-- the server, its grid, the bidders, its tapes, and in each round the numbers from its lower and from its higher peer
pub record Viewed : Type 0 where
  pub server : Point
  pub grid : Grid
  pub bidders : List Seen
  pub masks : List ℕ
  pub coefficients : List ℕ
  pub rounds : List (List ℕ × List ℕ)

-- the view of a server that has seen so much of a run, with a grid and bidders
abbrev pub view_with_run : Point → Grid → List Seen → SeenRun → Viewed
view_with_run server grid bidders run = record {
  server = server;
  grid = grid;
  bidders = bidders;
  masks = run.masks;
  coefficients = run.coefficients;
  rounds = run.rounds;
}

-- what a view tells of a run
abbrev pub run_in : Viewed → SeenRun
run_in view = record { masks = view.masks; coefficients = view.coefficients; rounds = view.rounds }

-- a bidder at a server: two points for each price, and a curve of the grid exactly if the server knows the bidder
pub record IsSeenAt (server : Point) (grid : Grid) (seen : Seen) : Type 0 where
  pub points : length seen.points ≡ 2 * grid.prices
  pub own : MatchOption seen.own (seen.known ≢ Some server) (λ own. (seen.known ≡ Some server) × IsOfGrid grid own.0)

-- at most 2,000 bidders, each as a server of the grid sees it, and fewer than 2^32 rounds
pub record IsView (view : Viewed) : Type 0 where
  pub few : length view.bidders ≤ MOST_BIDDERS
  pub seen : All (λ seen. IsSeenAt view.server view.grid seen) view.bidders
  pub rounds : length view.rounds < 2 ^ 32

-- of the numbers from the lower and from the higher peer, those of this side
abbrev pub numbers_at : List ℕ × List ℕ → Side → List ℕ
numbers_at round Low = round.0
numbers_at round High = round.1

-- those of a sender; none from the server itself
abbrev pub from_peer : Point → Point → List ℕ × List ℕ → Option (List ℕ)
from_peer s sender round = option_map (numbers_at round) (side_of s sender)

-- the numbers of a sender in a round
abbrev pub numbers_of : Viewed → ℕ → Point → Option (List ℕ)
numbers_of view round sender = option_and_then (from_peer view.server sender) (slice_get view.rounds round)
