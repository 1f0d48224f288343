use Rattle.std.proofs.Common.{◌≡◌, take}
use Rattle.beet_five_map.proofs.mapping.copy_lists.Given as goal

abbrev pub invariant-loop-list : goal.invariant-loop-list
invariant-loop-list l = l.copy.items ≡ take l.list-index l.lists
