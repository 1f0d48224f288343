use Rattle.std.proofs.Common.{◌≡◌, ◌++◌, take, All}
use Rattle.std.specs.List.{flat_map}
use Rattle.beet_view.proofs.writing.push_each.Given as goal

abbrev pub invariant-loop-item : goal.invariant-loop-item
invariant-loop-item g l = record {
  file : l.file.items ≡ l.fn.file.items ++ flat_map g.T.Item.bytes_of (take l.item-index l.items);
  limits : All g.T.Item.limits_of (take l.item-index l.items);
}
