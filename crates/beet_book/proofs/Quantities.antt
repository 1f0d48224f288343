-- How many quantities a curve of a grid has.
use Rattle.std.proofs.Common.{◌≡◌, ◌*◌, length, arith, length-append}
use Rattle.beet_bids.specs.Curves.{Curve, IsOfGrid}
use Rattle.beet_bids.specs.Grids.{Grid}
use Rattle.beet_book.specs.Dealing.{quantities}

pub quantities-many : (grid : Grid) (curve : Curve) → IsOfGrid grid curve → length (quantities curve) ≡ 2 * grid.prices
quantities-many grid curve h = omega (arith, length-append curve.buy curve.sell, h.buy_length, h.sell_length)
