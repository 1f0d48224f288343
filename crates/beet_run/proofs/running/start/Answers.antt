use Rattle.std.proofs.Common.{refl}
use Rattle.beet_run.proofs.Starting.{enough-numbers, enough-masks}
use Rattle.beet_run.proofs.running.start.Goals as goal

pub unreachable-requires : goal.unreachable-requires
unreachable-requires g c =
    let few = (c.start.ensures.words c.in-Err-TooFewWords.field-0-0).0
    (rw (c.in-Err-TooFewWords.is, c.in-Err-TooFewWords.field-0-is) refl) in
    enough-numbers _ c.args.words c.words.inside.masks c.words.inside.coefficients c.in-Err-TooFewWords.field-0-0
    c.words.view_is c.words.invariant.1
    c.requires.coefficients few.0 few.1

pub unreachable-requires-in-Err-TooFewMasks : goal.unreachable-requires-in-Err-TooFewMasks
unreachable-requires-in-Err-TooFewMasks g c =
    let few = (c.start.ensures.masks c.in-Err-TooFewMasks.field-0-0).0
    (rw (c.in-Err-TooFewMasks.is, c.in-Err-TooFewMasks.field-0-is) refl) in
    enough-masks _ c.args.words c.words.inside.masks c.words.inside.coefficients c.in-Err-TooFewMasks.field-0-0
    c.words.view_is c.requires.masks few.1 few.2
