use Rattle.std.proofs.Common.{◌≡◌, length}
use Rattle.beet_lot_map.specs.LotMaps.{MappedBefore}
use Rattle.beet_lot_map.proofs.mapping.session_map.Given as goal

abbrev pub invariant-loop-i : goal.invariant-loop-i
invariant-loop-i l = record {
  count : length l.mapped.items ≡ l.i;
  before : MappedBefore l.me l.first l.words l.second l.mapped.items l.i;
}
