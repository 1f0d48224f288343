use Rattle.std.proofs.Common.{ap, sym, ◌∙◌, map, take}
use Rattle.beet_forms.specs.Faults.{reading_of}
use Rattle.beet_words.specs.TapeFiles.{lines_of, word_in}
use Rattle.beet_words.proofs.TapeRows.{first_fault-good, first_fault-bad, kept_more}
use Rattle.beet_words.proofs.tape_file.read_tape.Goals as goal

pub returns-in-Err : goal.returns-in-Err
returns-in-Err c =
    let bytes = c.args.bytes.now in
    let bad = first_fault-bad bytes c.loop-k.k c.div_ceil-count.result c.in-Err.reason c.loop-k-test.true
    (rw c.line.ensures at c.in-Err.ensures) in
    rw c.at_row.ensures (ap (λ fault. reading_of fault (take c.args.keep (map word_in (lines_of bytes))))
    (sym c.loop-k.invariant.judged ∙ bad))

pub loop-k-preserved : goal.loop-k-preserved
loop-k-preserved c =
    let bytes = c.args.bytes.now in
    let inv = c.loop-k.invariant in
    let line = rw c.line.ensures at c.in-Ok.ensures in
    let good = first_fault-good bytes c.loop-k.k c.div_ceil-count.result c.loop-k-test.true line.0 in
    record {
      judged = sym good ∙ inv.judged;
      words = c.in_ok-keep_word.ensures ∙ rw line.1 (kept_more bytes c.loop-k.words c.args.keep c.loop-k.k inv.words);
    }
