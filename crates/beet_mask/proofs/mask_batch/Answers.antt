use Rattle.std.proofs.Common.{arith, ap, sym, ◌∙◌, Some}
use Rattle.beet_gates.specs.declared.Batch.{Batch}
use Rattle.beet_mask.proofs.MaskTable.{mask-past, mask-there}
use Rattle.beet_mask.proofs.mask_batch.Goals as goal

pub returns-then-step-mask_rounds-clause-batch : goal.returns-then-step-mask_rounds-clause-batch
returns-then-step-mask_rounds-clause-batch c = sym
    (mask-past c.args.gates c.args.words c.args.first c.args.step (omega arith) (omega (arith, c.mask_rounds.ensures)))

pub returns-clause-batch : goal.returns-clause-batch
returns-clause-batch c =
    ap (λ (b : Batch). Some b) c.refill_mask.ensures
    ∙ mask-there c.args.gates c.args.words c.args.first c.args.step (omega arith) (omega (arith, c.mask_rounds.ensures))
