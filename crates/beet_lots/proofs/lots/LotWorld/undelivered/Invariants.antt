use Rattle.std.proofs.Common.{◌≡◌, ◌≤◌, ◌*◌, map, sum, take}
use Rattle.beet_lots.specs.LotWorlds.{undelivered_of}
use Rattle.beet_lots.proofs.lots.LotWorld.undelivered.Given as goal

abbrev pub invariant-loop-world : goal.invariant-loop-world
invariant-loop-world g l = record {
  count : l.missing ≡ sum (map (undelivered_of g.S.Script.batch_of g.S.Script.inputs_of g.S.Script.rounds_of)
      (take l.world-index l.world-items));
  few : l.missing ≤ 12 * l.world-index;
}
