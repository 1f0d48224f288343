-- Bidders that can be dealt, can be dealt in two parts.
use Rattle.std.proofs.Common.{ℕ, ◌+◌, List, arith}
use Rattle.beet_bids.specs.Curves.{Curve}
use Rattle.beet_bids.specs.Grids.{Grid}
use Rattle.beet_job_trial.specs.Adding.{CanDealPart}

pub deal-splits : (grid : Grid) (curves : List Curve) (from few rest : ℕ) → CanDealPart grid curves from (few + rest) →
    CanDealPart grid curves from few × CanDealPart grid curves (from + few) rest
deal-splits grid curves from few rest can = (
  record { few = omega (arith, can.few); made = can.made },
  record { few = omega (arith, can.few); made = can.made },
)
