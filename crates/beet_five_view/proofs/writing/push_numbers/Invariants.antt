use Rattle.std.proofs.Common.{◌≡◌, ◌++◌, take}
use Rattle.std.specs.List.{flat_map}
use Rattle.beet_words.specs.Fields.{number_bytes}
use Rattle.beet_five_view.proofs.writing.push_numbers.Given as goal

abbrev pub invariant-loop-number : goal.invariant-loop-number
invariant-loop-number l = record { file : l.file.items ≡ l.fn.file.items ++ flat_map number_bytes (take l.number-index l.numbers) }
