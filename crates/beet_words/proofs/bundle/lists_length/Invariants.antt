use Rattle.std.proofs.Common.{◌≡◌, ◌*◌, ◌≤◌, length, take}
use Rattle.std.specs.List.{sum_by}
use Rattle.beet_words.specs.declared.bundle.TheConstants.{LONGEST_LIST}
use Rattle.beet_words.specs.Bundles.{list_bytes}
use Rattle.beet_words.proofs.bundle.lists_length.Given as goal

abbrev pub invariant-loop-list : goal.invariant-loop-list
invariant-loop-list l = record {
  summed : l.sum ≡ sum_by (λ list. length (list_bytes list)) (take l.list-index l.lists);
  within : l.sum ≤ LONGEST_LIST * l.list-index;
}
