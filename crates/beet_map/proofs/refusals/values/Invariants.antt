use Rattle.std.proofs.Common.{◌≡◌, ℕ, take, slice_index}
use Rattle.beet_field.specs.Field.{IsElement}
use Rattle.beet_map.specs.Secrets.{values_of}
use Rattle.beet_map.proofs.refusals.values.Given as goal

abbrev pub invariant-loop-line : goal.invariant-loop-line
invariant-loop-line l = record {
  so_far : l.values.items ≡ values_of (take l.line-index l.lines);
  elements : (k : ℕ) → IsElement (slice_index l.values.items k);
}
