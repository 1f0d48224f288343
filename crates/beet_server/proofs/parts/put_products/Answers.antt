use Rattle.std.proofs.Common.{add-one, ap, arith, drop-cons, map, sym, take_all, ◌∙◌}
use Rattle.std.proofs.lemmas.List.{map_more}
use Rattle.beet_gates.specs.Clear.{product_of}
use Rattle.beet_server.proofs.parts.put_products.Goals as goal

pub multiply-requires : goal.multiply-requires
multiply-requires c =
    let more = rw (drop-cons c.args.pairs.now c.loop-pair.pair-index (0, 0) c.loop-pair-test.true) at c.loop-pair.invariant.below in
    record { first = more.0; second = more.1 }

pub push-requires : goal.push-requires
push-requires c = omega (arith, c.loop-pair.invariant.len, c.requires.few)

pub loop-pair-preserved : goal.loop-pair-preserved
loop-pair-preserved c =
    let more = rw (drop-cons c.args.pairs.now c.loop-pair.pair-index (0, 0) c.loop-pair-test.true) at c.loop-pair.invariant.below in
    record {
      so_far = rw (c.push.ensures.items, c.loop-pair.invariant.so_far, c.multiply.ensures)
          (sym (map_more (product_of c.args.wires.now) c.args.pairs.now c.loop-pair.pair-index (0, 0) c.loop-pair-test.true));
      len = omega (arith, c.push.ensures.len);
      below = rw add-one more.2;
    }

pub returns : goal.returns
returns c = c.loop-pair.invariant.so_far
    ∙ ap (map (product_of c.args.wires.now)) (take_all c.loop-pair.pair-index c.args.pairs.now c.loop-pair-test.false)
