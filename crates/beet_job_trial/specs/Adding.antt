-- The bidders one after another: whether their words are enough, and the points of their sums.
use Rattle.std.specs.Prelude.{◌≡◌, ◌≤◌, ℕ, ◌+◌, List, [], ◌∷◌, ◌++◌, Result, Ok, Err, IfOk, None}
use Rattle.beet_words.specs.declared.bundle.TheConstants.{MOST_BIDDERS}
use Rattle.beet_bids.specs.Curves.{Curve}
use Rattle.beet_bids.specs.Grids.{Grid}
use Rattle.beet_book.specs.Dealing.{AreShares}
use Rattle.beet_book.specs.Totals.{Totals, summed_quantities}
use Rattle.beet_book.specs.Farmers.{BidderWithWords, summed_points}
use Rattle.beet_errand.specs.Errands.{Errand}
use Rattle.beet_errand.specs.Fetches.{Tests}
use Rattle.beet_errand.specs.declared.answer.Stop.{Stop}
use Rattle.beet_load.specs.Counts.{words_wanted}
use Rattle.beet_load.specs.Collecting.{curves_of}
use Rattle.beet_load.specs.Farmers.{enough_words}
use Rattle.beet_job_trial.specs.Rules.{trial_curves, trial_part}

-- of these bidders, who are numbered from a number on, each has enough words
abbrev pub enough_of_each : Grid → ℕ → List BidderWithWords → Errand → Errand
enough_of_each grid number [] next = next
enough_of_each grid number (farmer ∷ farmers) next =
    enough_words None number (words_wanted grid) farmer.words (enough_of_each grid (number + 1) farmers next)

-- the test of so many bidders, from one on
abbrev pub enough_of_part : Grid → ℕ → ℕ → Errand → Errand
enough_of_part grid from count = enough_of_each grid (from + 1) (trial_part grid from count)

-- the totals are the points that these bidders deal with their words, added up: points of lines with the sums of their
-- quantities
pub record CarrySums (grid : Grid) (farmers : List BidderWithWords) (totals : Totals) : Type 0 where
  pub prices : totals.prices ≡ grid.prices
  pub points : totals.points ≡ summed_points grid.prices farmers
  pub shares : AreShares (summed_quantities grid.prices (curves_of farmers)) totals.points

-- totals over the same grid, which carry the sums of these further bidders too if they carried those of some before
pub record AddsFarmers (grid : Grid) (more : List BidderWithWords) (before after : Totals) : Type 0 where
  pub prices : after.prices ≡ before.prices
  pub carry : (farmers : List BidderWithWords) → CarrySums grid farmers before → CarrySums grid (farmers ++ more) after

-- so many bidders from one on were added: each has enough words, or the first that has not is refused
pub record AddsPart (grid : Grid) (from count : ℕ) (before after : Totals)
    (result : Result (Unit {0}) Stop) : Type 0 where
  pub tests : Tests (enough_of_part grid from count) result
  pub adds : IfOk result (λ done. AddsFarmers grid (trial_part grid from count) before after)

-- so many bidders from one on are bidders of a trial, and their curves are among these
pub record CanDealPart (grid : Grid) (curves : List Curve) (from count : ℕ) : Type 0 where
  pub few : from + count ≤ MOST_BIDDERS
  pub made : curves ≡ trial_curves grid

-- so many bidders from one on are dealt into totals of their own, which carry their sums; or the first that has not
-- enough words is refused
abbrev pub DealsPart : Grid → ℕ → ℕ → Result Totals Stop → Type 0
DealsPart grid from count (Ok totals) =
    Tests (enough_of_part grid from count) (Ok tt) × CarrySums grid (trial_part grid from count) totals
DealsPart grid from count (Err stop) = Tests (enough_of_part grid from count) (Err stop)
