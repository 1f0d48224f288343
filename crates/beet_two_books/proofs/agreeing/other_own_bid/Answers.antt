use Rattle.std.proofs.Common.{length, ap, arith}
use Rattle.beet_field.specs.Trio.{member}
use Rattle.beet_two_books.proofs.Known.{differs, so-far-all, so-far-more}
use Rattle.beet_two_books.proofs.agreeing.other_own_bid.Goals as goal

pub pair_at-pair-requires-clause-place : goal.pair_at-pair-requires-clause-place
pair_at-pair-requires-clause-place c = omega (arith, ap length c.bidders-i-end.ensures.value, c.loop-i-test.true)

pub returns-then-is_changed-clause-place : goal.returns-then-is_changed-clause-place
returns-then-is_changed-clause-place c =
    let changed = c.is_changed.ensures.changed c.if-is_changed.true in
    differs (member c.args.watch.now) c.args.first.now.bidders c.args.second.now.bidders c.loop-i.i c.pair_at-pair.result.first.now
    c.pair_at-pair.result.second.now c.pair_at-pair.ensures.first c.pair_at-pair.ensures.second changed.0 changed.1
    c.loop-i.invariant.same

pub loop-i-preserved : goal.loop-i-preserved
loop-i-preserved c = record {
  same = so-far-more (member c.args.watch.now) c.args.first.now.bidders c.args.second.now.bidders c.loop-i.i
      c.pair_at-pair.result.first.now c.pair_at-pair.result.second.now c.pair_at-pair.ensures.first c.pair_at-pair.ensures.second
      (c.is_changed.ensures.kept c.if-is_changed.false) c.loop-i.invariant.same;
}

pub returns-clause-place : goal.returns-clause-place
returns-clause-place c =
    so-far-all (member c.args.watch.now) c.args.first.now c.args.second.now c.loop-i.i
    (omega (arith, ap length c.bidders-i-end.ensures.value, c.loop-i-test.false)) c.loop-i.invariant.same
