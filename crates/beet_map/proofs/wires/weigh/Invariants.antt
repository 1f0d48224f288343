use Rattle.std.proofs.Common.{◌≡◌, ◌<◌, ◌+◌, ◌%◌, drop}
use Rattle.beet_field.specs.Field.{p}
use Rattle.beet_gates.specs.Clear.{weighed}
use Rattle.beet_map.proofs.wires.weigh.Given as goal

abbrev pub invariant-loop-factor : goal.invariant-loop-factor
invariant-loop-factor l = record {
  rest : (l.sum + weighed l.wires (drop l.factor-index l.terms)) % p ≡ weighed l.wires l.terms % p;
  small : l.sum < p;
}
