use Rattle.beet_words.specs.Fields.{number_bytes}
use Rattle.beet_words.proofs.Appending.{bytes-more}
use Rattle.beet_words.proofs.bundle.push_words.Goals as goal

pub loop-word-preserved : goal.loop-word-preserved
loop-word-preserved c =
    bytes-more number_bytes c.args.words.now c.loop-word.word-index c.word-item.result c.args.file.now.items c.loop-word.file.items _
    c.loop-word-test.true c.loop-word.invariant (rw (← c.word-item.is, ← c.value.ensures.value) c.in_ok-push_number.ensures)
