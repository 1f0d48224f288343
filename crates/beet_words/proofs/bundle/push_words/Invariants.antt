use Rattle.std.proofs.Common.{◌≡◌, ◌++◌, take}
use Rattle.std.specs.List.{flat_map}
use Rattle.beet_words.specs.Fields.{number_bytes}
use Rattle.beet_words.proofs.bundle.push_words.Given as goal

abbrev pub invariant-loop-word : goal.invariant-loop-word
invariant-loop-word l = l.file.items ≡ l.fn.file.items ++ flat_map number_bytes (take l.word-index l.words)
