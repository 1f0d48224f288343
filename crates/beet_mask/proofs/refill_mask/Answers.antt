use Rattle.std.proofs.Common.{arith, sym, ◌∙◌}
use Rattle.beet_mask.proofs.MaskTable.{mask-bits, mask-products}
use Rattle.beet_mask.proofs.refill_mask.Goals as goal

pub returns-then-step-words : goal.returns-then-step-words
returns-then-step-words c = c.refill_words.ensures
    ∙ sym (mask-products c.args.gates c.args.words c.args.first c.args.step (omega arith) (omega arith))

pub returns-else-step-words : goal.returns-else-step-words
returns-else-step-words c = c.refill_bits.ensures
    ∙ sym (mask-bits c.args.gates c.args.words c.args.first c.args.step (omega arith) (omega arith))
