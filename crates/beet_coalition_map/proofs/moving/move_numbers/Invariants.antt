use Rattle.std.proofs.Common.{◌≡◌}
use Rattle.beet_gates.specs.Draws.{draws_in}
use Rattle.beet_coalition.specs.Watchers.{two_watch}
use Rattle.beet_coalition_map.specs.Steps.{MovesList, secret_in}
use Rattle.beet_coalition_map.proofs.moving.move_numbers.Given as goal

abbrev pub invariant-loop-k : goal.invariant-loop-k
invariant-loop-k l = record {
  moves : MovesList (two_watch l.fn.two.a l.fn.two.b) l.k (secret_in l.here.masks.now l.here.stage.now l.act l.server)
      (secret_in l.there.masks.now l.there.stage.now l.act l.server) l.here.stage.now.hidden l.fn.numbers l.numbers;
  end : l.k-end ≡ draws_in l.act;
}
