use Rattle.std.proofs.Common.{◌≡◌, ◌++◌, take}
use Rattle.std.specs.List.{flat_map}
use Rattle.beet_words.specs.Bundles.{list_bytes}
use Rattle.beet_five_view.proofs.words.push_bidders.Given as goal

abbrev pub invariant-loop-list : goal.invariant-loop-list
invariant-loop-list l = record { file : l.file.items ≡ l.fn.file.items ++ flat_map list_bytes (take l.list-index l.lists) }
