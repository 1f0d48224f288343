use Rattle.std.proofs.Common.{arith, rules, sym}
use Rattle.beet_bids.specs.contracts.grid.Grid.{the_view}
use Rattle.beet_bids.proofs.GridFacts.{place_of-some}
use Rattle.beet_bids.proofs.grid.Grid.place_expected.Goals as goal

pub returns-then-price : goal.returns-then-price
returns-then-price c = rw (← c.self.view_is)
    (sym (place_of-some (the_view c.self.inside) c.args.expected c.args.price (omega arith) (omega arith) (search rules)))
