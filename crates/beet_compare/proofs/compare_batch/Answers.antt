use Rattle.std.proofs.Common.{arith, ap, sym, ◌∙◌, Some}
use Rattle.beet_gates.specs.declared.Batch.{Batch}
use Rattle.beet_compare.proofs.CompareTable.{compare-past, compare-there}
use Rattle.beet_compare.proofs.compare_batch.Goals as goal

pub returns-then-step-compare_rounds-clause-batch : goal.returns-then-step-compare_rounds-clause-batch
returns-then-step-compare_rounds-clause-batch c =
    sym (compare-past c.args.wires.first c.args.wires.mask c.args.wires.supply c.args.wires.demand c.args.c c.args.gates c.args.step
    (omega (arith, c.compare_rounds.ensures)))

pub returns-clause-batch : goal.returns-clause-batch
returns-clause-batch c =
    ap (λ (b : Batch). Some b) c.refill_compare.ensures
    ∙ compare-there c.args.wires.first c.args.wires.mask c.args.wires.supply c.args.wires.demand c.args.c c.args.gates c.args.step
    (omega (arith, c.compare_rounds.ensures))
