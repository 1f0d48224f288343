use Rattle.std.proofs.Common.{◌≡◌, ◌+◌, ℕ, slice_index, rules, arith, sym, ap, ◌∙◌}
use Rattle.beet_gates.proofs.EachFacts.{item-each}
use Rattle.beet_bids.specs.Curves.{Curve}
use Rattle.beet_audit.specs.Audits.{points_of_bidder, value_at}
use Rattle.beet_audit.proofs.PointFacts.{curve-same}
use Rattle.beet_audit.proofs.knowing.is_recombined.Goals as goal
use Rattle.beet_audit.proofs.knowing.is_recombined.Goals.{then-buy-value_at-via-then-buy-value_at}
use Rattle.beet_audit.proofs.knowing.is_recombined.Goals.{then-buy-value_at-via-else-buy-value_at+then-sell-value_at}

pub returns-then-buy-value_at : goal.returns-then-buy-value_at
returns-then-buy-value_at c =
    let points = points_of_bidder c.args.views.now c.args.bidder in
    let k = c.loop-place.place in
    let lt = c.loop-place-test.true in (
      λ t. search rules,
      λ e. elim c.then-buy-value_at.branch [
        | then-buy-value_at-via-then-buy-value_at w ↦
            let same : c.buy.result ≡ c.value_at.result =
            c.buy.ensures.value ∙ ap (λ (x : Curve). slice_index x.buy k) e
            ∙ item-each (value_at points) c.args.prices k lt ∙ sym c.value_at.ensures in
            let other = w.if-buy-value_at.true in
            search rules
        | then-buy-value_at-via-else-buy-value_at+then-sell-value_at w ↦
            let same : w.sell.result ≡ w.value_at-else-buy-value_at.result =
            w.sell.ensures.value ∙ ap (λ (x : Curve). slice_index x.sell k) e
            ∙ item-each (λ (n : ℕ). value_at points (c.args.prices + n)) c.args.prices k lt
            ∙ sym w.value_at-else-buy-value_at.ensures in
            let other = w.if-sell-value_at.true in
            search rules
      ],
    )

pub returns : goal.returns
returns c =
    let past = c.loop-place-test.false in
    let inv = c.loop-place.invariant in (
      λ t.
          curve-same c.args.curve.now c.args.prices (points_of_bidder c.args.views.now c.args.bidder) c.requires.buy c.requires.sell
          (λ k lt. inv.buy k (omega (arith, lt, past))) (λ k lt. inv.sell k (omega (arith, lt, past))),
      λ e. search rules,
    )
