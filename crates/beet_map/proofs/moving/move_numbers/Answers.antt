use Rattle.std.proofs.Common.{arith}
use Rattle.beet_map.proofs.moving.move_numbers.Goals as goal

pub returns : goal.returns
returns c =
    let inv = c.loop-k.invariant in
    record {
      moves = λ k lt. inv.moves k (omega (arith, lt, inv.end, c.loop-k-test.false));
      below = inv.below;
      beyond = λ n le. inv.beyond n (omega (arith, le, inv.end, c.loop-k.auto.k-end));
      same_length = inv.len;
    }
