use Rattle.std.proofs.Common.{ℕ, List, arith}
use Rattle.std.proofs.lemmas.Result.{err_from_is_err_and}
use Rattle.beet_words.specs.Fields.{number_at, times}
use Rattle.beet_words.proofs.Times.{onto-next, onto-fault, onto-end, length-times, number_at-after}
use Rattle.beet_words.proofs.points.read_points.Goals as goal

pub returns-in_err-point-clause-points : goal.returns-in_err-point-clause-points
returns-in_err-point-clause-points c =
    let part = number_at c.args.bytes.now c.args.allowed in
    let given = err_from_is_err_and c.from_residual-in_err-point.result c.from_residual-in_err-point.ensures.1 in
    rw (given.1, given.2) (
    onto-fault part c.loop-k.points.items c.args.count c.loop-k._k c.loop-k.next (times c.args.count part c.args.at)
    (λ read. read) (λ (read : List ℕ × ℕ). read) c.in_err-point.field-0.0 c.loop-k-test.true
    c.in_err-point.ensures.point c.loop-k.invariant.read
    )

pub push_reserved-requires : goal.push_reserved-requires
push_reserved-requires c =
    let i = c.loop-k.invariant in
    let after = number_at-after c.args.bytes.now c.args.allowed c.loop-k.next
    (c.in_ok-point.point, c.in_ok-point.after) c.in_ok-point.ensures.point in
    omega (arith, after, c.in_ok-point.ensures.within, i.place, i.put, i.room, c.loop-k-test.true)

pub loop-k-preserved : goal.loop-k-preserved
loop-k-preserved c =
    let i = c.loop-k.invariant in
    let part = number_at c.args.bytes.now c.args.allowed in
    let after = number_at-after c.args.bytes.now c.args.allowed c.loop-k.next
    (c.in_ok-point.point, c.in_ok-point.after) c.in_ok-point.ensures.point in
    let put = c.push_reserved.ensures in
    record {
      read = rw put.items (
          onto-next part c.loop-k.points.items c.args.count c.loop-k._k c.loop-k.next c.in_ok-point.after c.in_ok-point.point
          (times c.args.count part c.args.at) c.loop-k-test.true c.in_ok-point.ensures.point i.read
          );
      within = c.in_ok-point.ensures.within;
      place = omega (arith, after, i.place);
      put = omega (arith, put.len, i.put);
      room = rw put.capacity i.room;
    }

pub returns-clause-points : goal.returns-clause-points
returns-clause-points c =
    let part = number_at c.args.bytes.now c.args.allowed in
    rw c.of.ensures (
    onto-end part c.loop-k.points.items c.args.count c.loop-k._k c.loop-k.next (times c.args.count part c.args.at)
    c.loop-k-test.false c.loop-k.invariant.read
    )

pub returns-clause-count : goal.returns-clause-count
returns-clause-count c =
    let part = number_at c.args.bytes.now c.args.allowed in
    let read = onto-end part c.loop-k.points.items c.args.count c.loop-k._k c.loop-k.next (times c.args.count part c.args.at)
    c.loop-k-test.false c.loop-k.invariant.read in
    rw c.of.ensures (rw read at (length-times part c.args.count c.args.at))
