use Rattle.std.proofs.Common.{◌≡◌, ◌++◌, take, All}
use Rattle.std.specs.List.{flat_map}
use Rattle.beet_field.specs.Field.{IsElement}
use Rattle.beet_words.specs.Fields.{number_bytes}
use Rattle.beet_words.proofs.points.push_points.Given as goal

abbrev pub invariant-loop-point : goal.invariant-loop-point
invariant-loop-point l = record {
  file : l.file.items ≡ l.fn.file.items ++ flat_map number_bytes (take l.point-index l.points);
  points : All IsElement (take l.point-index l.points);
}
