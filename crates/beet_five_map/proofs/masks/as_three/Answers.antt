use Rattle.std.proofs.Common.{◌≡◌, length, refl, sym, ap, ◌∙◌, arith}
use Rattle.beet_five_map.proofs.AsThree.{three-same}
use Rattle.beet_five_map.proofs.masks.as_three.Goals as goal

pub returns-clause-masks : goal.returns-clause-masks
returns-clause-masks c = λ i lt.
    let same : c.in_ok-copy.field-0 ≡ c.as_slice-words.result.now = c.in_ok-copy.ensures ∙ sym c.as_slice-words.ensures.value in
    three-same c.as_slice-words.result.now c.loop-i.others c.args.masks.now
    (record { one = c.in_ok-copy.field-0; two = c.loop-i.others; three = c.new.result }) i same refl c.new.ensures
    (c.loop-i.invariant.others i (omega (arith, lt, ap length same, c.loop-i.auto.i-end, c.loop-i-test.false)))
