-- Three views of one run over bids that the rules allow.
use Rattle.std.specs.Prelude.{◌≡◌, ◌<◌, ◌≤◌, ◌*◌, ℕ, List, length, IfSome}
use Rattle.beet_field.specs.Trio.{member}
use Rattle.beet_field.specs.declared.point.Point.{Point}
use Rattle.beet_field.specs.declared.trio.Trio.{Trio}
use Rattle.beet_words.specs.Words.{accepted}
use Rattle.beet_bids.specs.Curves.{Curve, IsCurve, IsOfGrid}
use Rattle.beet_bids.specs.Grids.{Grid}
use Rattle.beet_book.specs.Dealing.{AreShares, dealt_points, quantities}
use Rattle.beet_sharing.specs.Seen.{rounds_seen}
use Rattle.beet_load.specs.Counts.{counts_of}
use Rattle.beet_load.specs.Servers.{HasEnough}
use Rattle.beet_view.specs.Views.{Viewed}
use Rattle.beet_audit.specs.Audits.{marks_in, bidder_at, points_of_bidder, words_in, run_of, rounds_of}

-- what a server keeps of a bidder: this curve, and words that deal these points
pub record KeepsBid (grid : Grid) (curve : Curve) (points : Trio (List ℕ)) (own : Curve × List ℕ) : Type 0 where
  pub bid : own.0 ≡ curve
  pub words : 2 * grid.prices ≤ length (accepted own.1)
  pub deals : points ≡ dealt_points curve (accepted own.1)

-- a bidder of three views bids this curve: its points are those of lines with the quantities, and a server that knows
-- it keeps the curve
pub record Bids (grid : Grid) (views : Trio Viewed) (i : ℕ) (curve : Curve) : Type 0 where
  pub is_curve : IsCurve curve
  pub of_grid : IsOfGrid grid curve
  pub shares : AreShares (quantities curve) (points_of_bidder views i)
  pub known : (s : Point) → IfSome (bidder_at (member views s) i).own (KeepsBid grid curve (points_of_bidder views i))

-- three views are those of servers 1, 2 and 3 in one run over a grid, with one list of bidders and marks: each bidder
-- bids a curve, the tapes hold the words of the run, and each server has seen the messages of the run on the bidders'
-- points and these words
pub record OneRun (grid : Grid) (views : Trio Viewed) : Type 0 where
  pub servers : (s : Point) → (member views s).server ≡ s
  pub grids : (s : Point) → (member views s).grid ≡ grid
  pub marks : (s : Point) → marks_in (member views s) ≡ marks_in views.one
  pub curves : ℕ → Curve
  pub bids : (i : ℕ) → i < length views.one.bidders → Bids grid views i (curves i)
  pub tapes : (s : Point) → HasEnough (counts_of grid) (words_in (member views s))
  pub rounds : (s : Point) → (member views s).rounds ≡ rounds_seen (run_of grid views) s (rounds_of grid views)
