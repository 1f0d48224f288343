use Rattle.beet_two_books.specs.Losses.{losses_of}
use Rattle.beet_five_map.proofs.MaskLists.{MasksTo}
use Rattle.beet_five_map.proofs.masks.map_masks.Given as goal

abbrev pub invariant-loop-server : goal.invariant-loop-server
invariant-loop-server l = MasksTo l.turner (losses_of l.first l.second) l.masks l.mapped.items l.server
