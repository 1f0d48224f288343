use Rattle.std.proofs.Common.{arith}
use Rattle.std.proofs.lemmas.Grind.{common_steps}
use Rattle.std.proofs.lemmas.List.Elements.{All-more}
use Rattle.beet_field.specs.Field.{IsElement}
use Rattle.beet_words.proofs.points.push_points.Goals as goal

pub loop-point-preserved : goal.loop-point-preserved
loop-point-preserved c =
    let points = c.args.points.now in
    let i = c.loop-point.point-index in
    let below : IsElement c.point-item.result = omega (arith, c.value.ensures.value, c.value.ensures.below) in
    record {
      file = grind (arith, common_steps);
      points = All-more IsElement points i c.point-item.result c.loop-point-test.true c.loop-point.invariant.points
          (rw (← c.point-item.is) below);
    }
