use Rattle.std.proofs.Common.{◌≤◌, ◌<◌, ◌^◌}
use Rattle.beet_five_world.proofs.MissingFacts.{IsLeast}
use Rattle.beet_five_world.proofs.world.FiveWorld.behind.Given as goal

abbrev pub invariant-loop-at : goal.invariant-loop-at
invariant-loop-at g l = record {
  low : 2 ≤ l.at;
  high : l.at ≤ 6;
  least : IsLeast l.fn.self l.at l.least;
  few : l.least < 2 ^ 31;
}
