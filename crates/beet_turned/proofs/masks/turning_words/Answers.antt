use Rattle.std.proofs.Common.{length, ap, ◌∙◌, arith}
use Rattle.beet_turned.proofs.TurnedWords.{turned-more}
use Rattle.beet_turned.proofs.masks.turning_words.Goals as goal

pub loop-i-preserved : goal.loop-i-preserved
loop-i-preserved c =
    let inv = c.loop-i.invariant in
    let more = turned-more c.args.losses.now c.args.masks.now c.as_slice-words.result.now c.loop-i.turned c.push.new.self
    c.loop-i.i c.loop-i.rejected c.count_rejected-rejected.result c.mask-mask.result c.index-words-i.result
    c.word_for.result c.loss_for-loss.result
    (omega arith) (record { count = inv.count; rejected_is = inv.rejected; few = inv.few; turns = inv.turns })
    c.mask-mask.ensures.mask c.index-words-i.is c.loss_for-loss.ensures c.word_for.ensures c.in_ok-push.ensures
    c.count_rejected-rejected.ensures in
    record { count = more.count; rejected = more.rejected_is; few = more.few; turns = more.turns }

pub returns-clause-length : goal.returns-clause-length
returns-clause-length c =
    let same = ap length (c.as_slice-words.ensures.value ∙ c.get.ensures) in
    omega (arith, same, c.loop-i.invariant.count, c.loop-i.auto.i-end, c.loop-i-test.false)

pub returns-clause-turns : goal.returns-clause-turns
returns-clause-turns c = λ i lt.
    rw (← c.get.ensures, ← c.as_slice-words.ensures.value) (c.loop-i.invariant.turns i (omega (arith, lt, c.loop-i.invariant.count)))
