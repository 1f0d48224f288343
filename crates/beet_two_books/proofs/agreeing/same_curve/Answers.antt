use Rattle.std.proofs.Common.{rules, arith}
use Rattle.beet_two_books.proofs.BidderFacts.{curves-same}
use Rattle.beet_two_books.proofs.agreeing.same_curve.Goals as goal

pub returns : goal.returns
returns c =
    let inv = c.loop-place.invariant in
    let one = c.requires.first in
    let other = c.requires.second in
    let end = inv.end in
    let past = c.loop-place-test.false in (
      λ t. curves-same c.args.first.now c.args.second.now c.args.grid.now.prices one.buy_length one.sell_length
          other.buy_length other.sell_length
          (λ k lt. inv.buy k (omega (arith, end, past))) (λ k lt. inv.sell k (omega (arith, end, past))),
      λ e. search rules,
    )
