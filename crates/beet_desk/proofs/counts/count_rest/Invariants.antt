use Rattle.std.proofs.Common.{◌≡◌}
use Rattle.beet_field.specs.Trio.{member}
use Rattle.beet_field.specs.declared.point.Point.{Point}
use Rattle.beet_desk.specs.Counts.{HasPlace, count_of, together}
use Rattle.beet_desk.proofs.counts.count_rest.Given as goal

abbrev pub invariant-loop : goal.invariant-loop
invariant-loop g l = record {
  place : (s : Point) → HasPlace (member l.sums s) (member l.left s);
  total : (s : Point) → together (member l.sums s) (count_of (member l.left s)) ≡ together (member l.fn.counts s)
      (count_of (member l.fn.rest s));
}
