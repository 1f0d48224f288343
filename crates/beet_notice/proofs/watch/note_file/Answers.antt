use Rattle.std.proofs.Common.{refl, arith}
use Rattle.beet_notice.proofs.SeedFacts.{keeps-file}
use Rattle.beet_notice.proofs.watch.note_file.Goals as goal

pub returns : goal.returns
returns c = λ before keeps.
    keeps-file before c.args.bytes.now c.note_book.new.seeds _ _ (omega (arith, c.if-bytes-gt-LONGEST_FILE.false)) refl refl
    (c.in_ok-note_book.ensures _ (c.in_ok-note_servers.ensures before keeps))
