use Rattle.std.proofs.Common.{◌≤◌, length, arith}
use Rattle.beet_words.specs.Words.{accepted}
use Rattle.beet_mapped.proofs.MovedWords.{moved-all, moved-more}
use Rattle.beet_mapped.proofs.moving.move_words.Goals as goal

pub loop-word-preserved : goal.loop-word-preserved
loop-word-preserved c =
    let inv = c.loop-word.invariant in
    let few = inv.few in
    let counted = c.count_drawn-drawn.ensures in
    record {
      few = grind (arith, few, counted);
      moved_to = moved-more c.args.me c.args.first.now c.args.second.now c.as_slice-words.result.now c.loop-word.moved c.push.new.self
          c.loop-word.word-index c.loop-word.drawn c.count_drawn-drawn.result c.word-item.result c.word_for.result
          (omega arith) inv.moved_to c.word-item.is c.word_for.ensures c.in_ok-push.ensures counted;
    }

pub returns : goal.returns
returns c =
    let same = c.as_slice-words.ensures.value in
    let enough : length c.args.first.now ≤ length (accepted c.as_slice-words.result.now) = rw same c.requires in
    let all = moved-all c.args.me c.args.first.now c.args.second.now c.as_slice-words.result.now c.loop-word.moved c.loop-word.word-index
    c.loop-word.drawn (omega arith) enough c.loop-word.invariant.moved_to in
    rw (← same) all
