use Rattle.std.proofs.Common.{◌∙◌, arith}
use Rattle.std.proofs.lemmas.List.{length-set}
use Rattle.std.proofs.lemmas.List.Edits.{fill_by_more}
use Rattle.std.proofs.lemmas.List.FromFn.{fill_by_all}
use Rattle.beet_gates.specs.Each.{each}
use Rattle.beet_gates.specs.Levels.{places_of_pair}
use Rattle.beet_gates.proofs.levels.level_pairs.Goals as goal

pub returns : goal.returns
unfolding each
returns g c =
    let at = c.loop-i in
    fill_by_all places_of_pair at.pairs g.row.K (0, 0) at.invariant.count
    (λ k l. at.invariant.so_far k (omega (arith, l, c.loop-i-test.false)))

pub loop-i-preserved : goal.loop-i-preserved
loop-i-preserved g c =
    let at = c.loop-i in
    record {
      count = length-set at.pairs at.i (places_of_pair at.i) ∙ at.invariant.count;
      so_far = fill_by_more places_of_pair at.pairs at.i (0, 0) (omega (arith, at.invariant.count, c.loop-i-test.true)) at.invariant.so_far;
    }
