-- Two books that servers cannot tell apart by what they know and by what is opened.
use Rattle.std.specs.Prelude.{◌≡◌, List, map, Bool, true, false, Option, Some, None}
use Rattle.beet_field.specs.declared.point.Point.{Point}
use Rattle.beet_map.specs.Agreement.{SameKnown as SameTold}
use Rattle.beet_bids.specs.Books.{Book}
use Rattle.beet_bids.specs.Curves.{IsOfGrid}
use Rattle.beet_bids.specs.Grids.{Grid}
use Rattle.beet_bids.specs.Outcomes.{outcome_of}
use Rattle.beet_bids.specs.declared.book.Bidder.{Bidder}

-- the marks of the bidders, one for each: the server that knows its curve, if there is one
abbrev pub marks_of : Book → List (Option Point)
marks_of book = map (λ bidder. bidder.known) book.bidders

-- the bidders known to a server have the same curves in both
abbrev pub SameKnown : Point → Book → Book → Type 0
SameKnown s first second = SameTold (λ bidder. bidder.known) (λ bidder. bidder.curve) s first.bidders second.bidders

-- and so have those known to any server that passes a test
abbrev pub AllSame : (Point → Bool) → Book → Book → Type 0
AllSame knows first second = (s : Point) → knows s ≡ true → SameKnown s first second

-- whether a mark names such a server
abbrev pub is_known : (Point → Bool) → Option Point → Bool
is_known knows None = false
is_known knows (Some s) = knows s

-- the same grid, as many bidders with the same marks, the same curves of those known to the server, and the same
-- outcome, which holds what the policy of the grid opens and nothing else
pub record Agree (s : Point) (first second : Book) : Type 0 where
  pub grids : second.grid ≡ first.grid
  pub marks : marks_of second ≡ marks_of first
  pub own : SameKnown s first second
  pub outcomes : outcome_of second ≡ outcome_of first

-- the same for all servers that pass a test
pub record AgreeFor (knows : Point → Bool) (first second : Book) : Type 0 where
  pub grids : second.grid ≡ first.grid
  pub marks : marks_of second ≡ marks_of first
  pub own : AllSame knows first second
  pub outcomes : outcome_of second ≡ outcome_of first

-- the bidders at one place of two books over a grid: they have the same mark, and their curves are over the grid
pub record AreOnePlace (grid : Grid) (one other : Bidder) : Type 0 where
  pub mark : other.known ≡ one.known
  pub of_grid : IsOfGrid grid one.curve
  pub of_grid' : IsOfGrid grid other.curve
