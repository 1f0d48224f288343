use Rattle.std.proofs.Common.{◌≡◌, ◌<◌, ◌*◌, length, rules, arith, sym, ap, ◌∙◌, length-append}
use Rattle.std.proofs.lemmas.List.{get_or_default}
use Rattle.beet_book.specs.Dealing.{quantities, shares_of}
use Rattle.beet_book.specs.Totals.{points_on}
use Rattle.beet_audit.specs.Audits.{points_of_bidder}
use Rattle.beet_audit.proofs.PointFacts.{dealt-here, item-shares, lengths-shares, trio-same}
use Rattle.beet_audit.proofs.knowing.are_dealt.Goals as goal

pub returns-then-not-same_points : goal.returns-then-not-same_points
returns-then-not-same_points c =
    let vs = quantities c.args.curve.now in
    let ss = c.args.slopes.now in
    let n = c.loop-n.n in
    let lt : n < 2 * c.args.prices = omega (arith, c.loop-n-test.true, c.loop-n.invariant.end) in
    let many : length vs ≡ 2 * c.args.prices =
    omega (arith, length-append c.args.curve.now.buy c.args.curve.now.sell, c.requires.buy, c.requires.sell) in (
      λ t. search rules,
      λ e.
          let same : c.points_at.result ≡ c.deal.result =
          c.points_at.ensures.points ∙ ap (λ t. points_on t n) e
          ∙ item-shares vs ss n (omega (arith, many, lt)) (omega (arith, c.requires.slopes, lt))
          ∙ sym (dealt-here vs ss n c.quantity_at.result c.reduce-value.result c.index-slopes-n.result c.deal.result
          c.quantity_at.ensures.value c.quantity_at.ensures.limit
          c.reduce-value.ensures (c.index-slopes-n.is
          ∙ get_or_default ss n c.index-slopes-n.result 0 (omega (arith, c.requires.slopes, lt))) c.deal.ensures) in
          search rules,
    )

pub returns : goal.returns
returns c =
    let vs = quantities c.args.curve.now in
    let ss = c.args.slopes.now in
    let prices = c.args.prices in
    let points = points_of_bidder c.args.views.now c.args.bidder in
    let past = c.loop-n-test.false in
    let end = c.loop-n.invariant.end in
    let many : length vs ≡ 2 * prices =
    omega (arith, length-append c.args.curve.now.buy c.args.curve.now.sell, c.requires.buy, c.requires.sell) in (
      λ t.
          trio-same points (shares_of vs ss) (2 * prices) c.requires.lengths (lengths-shares vs ss (2 * prices) many c.requires.slopes)
          (λ k lt. c.loop-n.invariant.dealt k (omega (arith, lt, past, end))
          ∙ sym (item-shares vs ss k (omega (arith, many, lt)) (omega (arith, c.requires.slopes, lt)))),
      λ e. search rules,
    )
