use Rattle.std.proofs.Common.{◌≡◌, ◌≤◌, ◌<◌, ◌-◌, ◌++◌}
use Rattle.std.specs.Prelude.{All, nat_le}
use Rattle.beet_bids.specs.Grids.{comparisons_of}
use Rattle.beet_bids.specs.declared.grid.TheConstants.{MOST_PRICES}
use Rattle.beet_plan.specs.Search.{path, tested}
use Rattle.beet_two_books.proofs.masks.path_to.Given as goal

abbrev pub invariant-loop-step : goal.invariant-loop-step
invariant-loop-step l = record {
  end : l._step-end ≡ comparisons_of l.grid.prices;
  upper : l.high ≤ l.grid.prices;
  limit : l.grid.prices ≤ MOST_PRICES;
  rest : l.places.items ++ tested (nat_le l.end) (l._step-end - l._step) l.low l.high ≡ path l.grid.prices l.end;
  within : All (λ place. place < l.grid.prices) l.places.items;
}
