-- Bids that are sealed in envelopes.
use Rattle.std.specs.Prelude.{◌≡◌, ◌≤◌, ◌*◌, ℕ, List, All, length, slice_index}
use Rattle.beet_field.specs.declared.point.Point.{Point}
use Rattle.beet_words.specs.Words.{IsWord, accepted, ones_in}
use Rattle.beet_bids.specs.Curves.{Curve, IsCurve, IsOfGrid}
use Rattle.beet_bids.specs.Grids.{Grid, IsGrid}
use Rattle.beet_farmer.specs.Sealing.{envelope_for}

-- two accepted bids over one grid
pub record AreTwoBids (grid : Grid) (one other : Curve) : Type 0 where
  pub is_grid : IsGrid grid
  pub one_curve : IsCurve one
  pub other_curve : IsCurve other
  pub one_of_grid : IsOfGrid grid one
  pub other_of_grid : IsOfGrid grid other

-- words with which a bid can be sealed: each is below 2^61, and for each quantity there is one that is not all ones
pub record CanSeal (grid : Grid) (words : List ℕ) : Type 0 where
  pub are_words : All IsWord words
  pub enough : 2 * grid.prices ≤ length (accepted words)

-- the words differ in those of the quantities alone: the words that are all ones stand at the same places, and the
-- accepted ones behind the last quantity are the same
pub record DifferInSlopes (grid : Grid) (words words' : List ℕ) : Type 0 where
  pub places : ones_in words' ≡ ones_in words
  pub rest : (n : ℕ) → 2 * grid.prices ≤ n → slice_index (accepted words') n ≡ slice_index (accepted words) n

-- the other bid with these words gives the server the envelope of the one bid, and so it does with no others
pub record AreOneEnvelope (grid : Grid) (s : Point) (one : Curve) (words : List ℕ) (other : Curve)
    (words' : List ℕ) : Type 0 where
  pub can_seal : CanSeal grid words'
  pub differ : DifferInSlopes grid words words'
  pub same : envelope_for grid other words' s ≡ envelope_for grid one words s
  pub only : (list : List ℕ) → CanSeal grid list → DifferInSlopes grid words list →
      envelope_for grid other list s ≡ envelope_for grid one words s → list ≡ words'
