use Rattle.std.proofs.Common.{arith, rules, sym}
use Rattle.beet_bids.proofs.GridFacts.{place_of-none, place_of-some, place_from_price}
use Rattle.beet_bids.specs.contracts.grid.Grid.{the_view}
use Rattle.beet_bids.proofs.grid.Grid.place.Goals as goal
use Rattle.beet_bids.proofs.grid.Grid.place.Goals.{then-above-self-ne0-via-then-above-self-ne0}
use Rattle.beet_bids.proofs.grid.Grid.place.Goals.{then-above-self-ne0-via-else-above-self-ne0+then-place-self}

pub returns-then-price-self-clause-place : goal.returns-then-price-self-clause-place
returns-then-price-self-clause-place c =
    rw (← c.self.view_is) (sym (place_of-none (the_view c.self.inside) c.args.price (λ k h e. absurd (omega arith))))

pub returns-then-above-self-ne0-clause-exact : goal.returns-then-above-self-ne0-clause-exact
returns-then-above-self-ne0-clause-exact c =
    rw (← c.self.view_is) (λ k h e.
    let at = place_from_price (the_view c.self.inside) k c.args.price (omega arith) e in
    elim c.then-above-self-ne0.branch [
      | then-above-self-ne0-via-then-above-self-ne0 w ↦ w.if-above-self-ne0.true at.0
      | then-above-self-ne0-via-else-above-self-ne0+then-place-self w ↦ absurd (omega arith)
    ])

pub returns-then-above-self-ne0-clause-place : goal.returns-then-above-self-ne0-clause-place
returns-then-above-self-ne0-clause-place c = sym (place_of-none c.args.self.now c.args.price (returns-then-above-self-ne0-clause-exact c))

pub returns-clause-place : goal.returns-clause-place
returns-clause-place c = rw (← c.self.view_is)
    (sym (place_of-some (the_view c.self.inside) _ c.args.price (omega arith) (omega arith) (search rules)))
