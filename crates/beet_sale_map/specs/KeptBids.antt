-- What is kept of bids within their limits.
use Rattle.std.specs.Prelude.{◌≤◌}
use Rattle.beet_sale_plan.specs.Kept.{Kept}
use Rattle.beet_sale_plan.specs.declared.TheConstants.{LARGEST_BID}

pub record AreSmall (kept : Kept) : Type 0 where
  pub best : kept.best ≤ LARGEST_BID
  pub next : kept.next ≤ LARGEST_BID
