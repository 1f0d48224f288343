use Rattle.std.proofs.Common.{◌≡◌, arith, sym, ap, ◌∙◌}
use Rattle.beet_gates.proofs.EachFacts.{each-more}
use Rattle.beet_gates.specs.Each.{each}
use Rattle.beet_view.specs.RunViews.{round_received}
use Rattle.beet_view.proofs.running.rounds_of.Goals as goal

pub loop-round-preserved : goal.loop-round-preserved
loop-round-preserved g c =
    let so_far = c.loop-round.invariant in
    record {
      so_far = rw (c.push_reserved.ensures.items, so_far.so_far, c.received_in.ensures)
          (sym (each-more (round_received c.args.core.now) c.loop-round.round));
      end = so_far.end;
      count = omega (arith, c.push_reserved.ensures.len, so_far.count);
      room = omega (arith, c.push_reserved.ensures.capacity, so_far.room);
    }

pub returns-clause-rounds : goal.returns-clause-rounds
returns-clause-rounds g c =
    let so_far = c.loop-round.invariant in
    let end : c.loop-round.round ≡ c.args.core.now.round =
    omega (arith, so_far.end, c.loop-round.auto.round-end, c.loop-round-test.false) in
    so_far.so_far ∙ ap (each (round_received c.args.core.now)) end
