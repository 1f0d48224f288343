use Rattle.std.proofs.Common.{[], All, ap, subst, ◌∙◌, arith}
use Rattle.std.proofs.lemmas.List.{take_all}
use Rattle.std.proofs.lemmas.List.Elements.{All-more}
use Rattle.beet_words.specs.Words.{IsWord}
use Rattle.beet_words.specs.TapeFiles.{word_line, tape_bytes}
use Rattle.beet_words.proofs.Appending.{bytes-more}
use Rattle.beet_words.proofs.TapeAgain.{tape_of-tape_bytes}
use Rattle.beet_words.proofs.tape_file.write_tape.Goals as goal

pub loop-word-init : goal.loop-word-init
loop-word-init c = record {
  file = c.in_ok-file.ensures.items;
  below = λ k d h. absurd (omega (arith, h));
}

pub loop-word-preserved : goal.loop-word-preserved
loop-word-preserved c =
    let words = c.args.words.now in
    let i = c.loop-word.word-index in
    let word = c.word-item.result in
    record {
      file = bytes-more word_line words i word [] c.loop-word.file.items _ c.loop-word-test.true c.loop-word.invariant.file
          (rw (← c.word-item.is) c.in_ok-push_line.ensures.line);
      below = All-more IsWord words i word c.loop-word-test.true c.loop-word.invariant.below
          (rw (← c.word-item.is) c.in_ok-push_line.ensures.below);
    }

pub returns-clause-bytes : goal.returns-clause-bytes
returns-clause-bytes c =
    c.loop-word.invariant.file ∙ ap tape_bytes (take_all c.loop-word.word-index c.args.words.now c.loop-word-test.false)

pub returns-clause-again : goal.returns-clause-again
returns-clause-again c = λ keep long.
    let words = c.args.words.now in
    let whole = take_all c.loop-word.word-index words c.loop-word-test.false in
    let below = subst (λ words. All IsWord words) whole c.loop-word.invariant.below in
    rw (c.loop-word.invariant.file ∙ ap tape_bytes whole) (tape_of-tape_bytes words keep (λ k h. below k 0 h) long)
