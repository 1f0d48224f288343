-- What one server sees alike of two books or two bids, and no other server.
use Rattle.std.specs.Prelude.{◌≡◌, ◌≢◌, ℕ, List}
use Rattle.beet_field.specs.declared.point.Point.{Point}
use Rattle.beet_words.specs.Bundles.{Words}
use Rattle.beet_bids.specs.Books.{Book}
use Rattle.beet_bids.specs.Curves.{Curve}
use Rattle.beet_bids.specs.Grids.{Grid}
use Rattle.beet_farmer.specs.Sealing.{envelope_for}
use Rattle.beet_auction_map.specs.ViewsWith.{view_with}
use Rattle.beet_headline.specs.Envelopes.{CanSeal}
use Rattle.beet_headline.specs.Statements.{CanRun}

-- the server sees the same of both auctions, and no other server does
pub record SeesAlone (s : Point) (first : Book) (words : Words) (second : Book) (words' : Words) : Type 0 where
  pub runs : CanRun second words'
  pub same : view_with second words' s ≡ view_with first words s
  pub others : (t : Point) → s ≢ t → view_with second words' t ≢ view_with first words t

-- the server has the same envelope of both bids, and no other server does
pub record HasAlone (grid : Grid) (s : Point) (one : Curve) (words : List ℕ) (other : Curve)
    (words' : List ℕ) : Type 0 where
  pub can_seal : CanSeal grid words'
  pub same : envelope_for grid other words' s ≡ envelope_for grid one words s
  pub others : (t : Point) → s ≢ t → envelope_for grid other words' t ≢ envelope_for grid one words t
