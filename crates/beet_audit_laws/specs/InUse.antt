-- Two views of one server that are the same in all that a run uses.
use Rattle.std.specs.Prelude.{◌≡◌, ◌≢◌, ◌≤◌, ◌<◌, ◌*◌, ℕ, List, length, slice_index, Option, Some, None}
use Rattle.beet_field.specs.Trio.{member}
use Rattle.beet_field.specs.declared.point.Point.{Point}
use Rattle.beet_field.specs.declared.trio.Trio.{Trio}
use Rattle.beet_words.specs.Words.{accepted}
use Rattle.beet_bids.specs.Curves.{Curve}
use Rattle.beet_bids.specs.Grids.{Grid}
use Rattle.beet_sharing.specs.Runs.{Shared, shared_at}
use Rattle.beet_load.specs.Counts.{counts_of}
use Rattle.beet_load.specs.Servers.{HasEnough}
use Rattle.beet_view.specs.declared.view.Seen.{Seen}
use Rattle.beet_view.specs.Transcripts.{AreNumbers}
use Rattle.beet_view.specs.Views.{Viewed, IsView}
use Rattle.beet_audit.specs.Audits.{bidder_at, run_of, rounds_of, words_in}

-- three views are as the type of a view keeps each: its parts fit together, and its numbers are within the limits of
-- their types
abbrev pub AreViews : Trio Viewed → Type 0
AreViews views = (s : Point) → IsView (member views s) × AreNumbers (member views s)

-- the first numbers that are drawn from two lists of words, so many, are the same
abbrev pub SameDrawn : ℕ → List ℕ → List ℕ → Type 0
SameDrawn count words others = (n : ℕ) → n < count → slice_index (accepted others) n ≡ slice_index (accepted words) n

-- the same curve is kept twice, with words that deal so many quantities alike
pub record DealsAlike (count : ℕ) (own other : Curve × List ℕ) : Type 0 where
  pub curve : other.0 ≡ own.0
  pub enough : count ≤ length (accepted other.1)
  pub numbers : SameDrawn count own.1 other.1

-- what two views keep of a bidder: nothing, or a curve and words that deal alike
abbrev pub KeptAlike : ℕ → Option (Curve × List ℕ) → Option (Curve × List ℕ) → Type 0
KeptAlike count None None = Unit {0}
KeptAlike count None (Some other) = ⊥
KeptAlike count (Some own) None = ⊥
KeptAlike count (Some own) (Some other) = DealsAlike count own other

-- a bidder in two views, over so many prices: one mark, the same points, and what is kept
pub record SeenAlike (prices : ℕ) (seen other : Seen) : Type 0 where
  pub mark : other.known ≡ seen.known
  pub points : other.points ≡ seen.points
  pub kept : KeptAlike (2 * prices) seen.own other.own

-- two views are the same in all that a run uses, in which the server deals so many words and draws so many numbers; the
-- words behind these, and where the words stand that are passed over, may differ
pub record SameInUse (grid : Grid) (dealt drawn : ℕ) (view other : Viewed) : Type 0 where
  pub server : other.server ≡ view.server
  pub over : other.grid ≡ view.grid
  pub count : length other.bidders ≡ length view.bidders
  pub bidders : (i : ℕ) → i < length view.bidders → SeenAlike grid.prices (bidder_at view i) (bidder_at other i)
  pub rounds : other.rounds ≡ view.rounds
  pub enough : HasEnough (counts_of grid) (words_in other)
  pub masks : (n : ℕ) → n < dealt → slice_index other.masks n ≡ slice_index view.masks n
  pub numbers : SameDrawn drawn view.coefficients other.coefficients

-- the run of three views at its end
abbrev pub end_of : Grid → Trio Viewed → Shared
end_of grid views = shared_at (run_of grid views) (rounds_of grid views)

-- a view is the same as that of a server among three views, in all that their run uses
abbrev pub SameAmong : Grid → Trio Viewed → Point → Viewed → Type 0
SameAmong grid views s other = SameInUse grid (end_of grid views).dealt (end_of grid views).drawn (member views s) other

-- three views and three others are the same, but for those of a server
abbrev pub SameButAt : Point → Trio Viewed → Trio Viewed → Type 0
SameButAt s views others = (r : Point) → r ≢ s → member others r ≡ member views r
