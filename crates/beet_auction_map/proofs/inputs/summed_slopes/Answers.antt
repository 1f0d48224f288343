use Rattle.std.proofs.Common.{◌≡◌, ◌<◌, ◌++◌, length, slice_index, take, drop, ap, ◌∙◌, arith}
use Rattle.std.proofs.Math.Seq.{take-append_seam}
use Rattle.beet_field.specs.Field.{add_of}
use Rattle.beet_words.specs.Words.{accepted}
use Rattle.beet_auction_map.proofs.InputFacts.{sums-all, sums-more}
use Rattle.beet_auction_map.proofs.inputs.summed_slopes.Goals as goal

pub loop-list-preserved : goal.loop-list-preserved
loop-list-preserved c =
    let inv = c.loop-list.invariant in
    let before = c.loop-list.sums.items in
    let after = c.add_slopes.new.sums in
    let same : c.deref_mut.result.now ≡ before = c.deref_mut.ensures.value in
    let long : length after ≡ length before = c.add_slopes.ensures.same_length ∙ ap length same in
    let len : c.loop-list.sums.len ≡ length after = omega (arith, c.loop-list.sums.ok.0, long) in
    let kept : take c.loop-list.sums.len (after ++ drop (length after) before) ≡ after =
    rw len (take-append_seam after (drop (length after) before)) in
    let lt : c.loop-list.list-index < length c.args.words.now = omega arith in
    record {
      count = rw kept (long ∙ inv.count);
      summed = λ k low.
          let within : k < length c.deref_mut.result.now = omega (arith, low, inv.count, ap length same) in
          let added = c.in_ok-add_slopes.ensures.added k within
          ∙ (λ j. add_of (slice_index (same j) k) (slice_index (accepted c.list-item.result) k)) in
          rw kept (sums-more c.args.words.now c.list-item.result c.loop-list.list-index k (slice_index before k)
          (slice_index after k) lt c.list-item.is (inv.summed k low) added);
    }

pub returns : goal.returns
returns c =
    sums-all c.loop-list.sums.items c.args.words.now c.args.count c.loop-list.list-index c.loop-list.invariant.count
    c.loop-list-test.false c.loop-list.invariant.summed
