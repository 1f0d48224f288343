use Rattle.std.proofs.Common.{◌≡◌, ◌++◌, take, All}
use Rattle.std.specs.List.{flat_map}
use Rattle.beet_words.specs.Words.{IsWord}
use Rattle.beet_words.specs.Bundles.{list_bytes}
use Rattle.beet_words.proofs.bundle.push_lists.Given as goal

abbrev pub invariant-loop-list : goal.invariant-loop-list
invariant-loop-list l = record {
  file : l.file.items ≡ l.fn.file.items ++ flat_map list_bytes (take l.list-index l.lists);
  words : All (λ list. All IsWord list) (take l.list-index l.lists);
}
