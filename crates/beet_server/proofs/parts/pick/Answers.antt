use Rattle.std.proofs.Common.{add-one, ap, arith, drop-cons, map, slice_index, sym, take_all, ◌∙◌}
use Rattle.std.proofs.lemmas.List.{get_or_default, map_more}
use Rattle.beet_server.proofs.parts.pick.Goals as goal

pub push-requires : goal.push-requires
push-requires c = omega (arith, c.loop-wire.invariant.len, c.requires.few)

pub loop-wire-preserved : goal.loop-wire-preserved
loop-wire-preserved c =
    let more = rw (drop-cons c.args.shown.now c.loop-wire.wire-index 0 c.loop-wire-test.true) at c.loop-wire.invariant.below in
    record {
      so_far = rw (
        c.push.ensures.items,
        c.loop-wire.invariant.so_far,
        c.index-wires-wire.is,
        get_or_default c.args.wires.now _ c.index-wires-wire.result 0 more.0,
      )
          (sym (map_more (slice_index c.args.wires.now) c.args.shown.now c.loop-wire.wire-index 0 c.loop-wire-test.true));
      len = omega (arith, c.push.ensures.len);
      below = rw add-one more.1;
    }

pub returns : goal.returns
returns c = c.loop-wire.invariant.so_far
    ∙ ap (map (slice_index c.args.wires.now)) (take_all c.loop-wire.wire-index c.args.shown.now c.loop-wire-test.false)
