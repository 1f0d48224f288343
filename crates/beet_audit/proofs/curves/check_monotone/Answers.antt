use Rattle.std.proofs.Common.{refl, sym, ◌∙◌}
use Rattle.std.proofs.lemmas.Bool.{true≢false}
use Rattle.beet_audit.specs.Audits.{IsStep, points_of_bidder, value_at}
use Rattle.beet_audit.proofs.StepFacts.{goes-on}
use Rattle.beet_audit.proofs.curves.check_monotone.Goals as goal

pub returns-then-not-goes_on-clause-monotone : goal.returns-then-not-goes_on-clause-monotone
returns-then-not-goes_on-clause-monotone c = λ ne.
    let place = c.loop-place.place in
    let never = λ (step : IsStep c.args.prices (value_at (points_of_bidder c.args.views.now c.args.bidder)) place).
    true≢false (sym (c.goes_on.ensures.1 (rw (c.quantities_at-here.ensures.buy, c.quantities_at-here.ensures.sell)
    (goes-on c.args.prices (value_at (points_of_bidder c.args.views.now c.args.bidder)) place c.loop-place.before
    c.loop-place.invariant.before step))) ∙ c.if-not-goes_on.true) in
    (place, c.loop-place-test.true, c.loop-place.invariant.steps, (never, refl))
