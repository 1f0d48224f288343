use Rattle.std.proofs.Common.{◌≡◌, Global, Ok, Vec}
use Rattle.beet_book.specs.BookFiles.{book_of}
use Rattle.beet_book.specs.declared.entries.Entry.{Entry}
use Rattle.beet_notice.specs.Notices.{seeds_of_entries}
use Rattle.beet_notice.proofs.SeedFacts.{keeps-same, none-read}
use Rattle.beet_notice.proofs.watch.note_book.Goals as goal

pub returns-in_ok-note_entries-in-Ok : goal.returns-in_ok-note_entries-in-Ok
returns-in_ok-note_entries-in-Ok c =
    let is : book_of c.args.bytes.now ≡ Ok c.in-Ok.entries.items = c.in-Ok.ensures.reads in
    rw is (rw c.as_slice.ensures.value at c.in_ok-note_entries-in-Ok.ensures)

pub returns-in-Err-Bad : goal.returns-in-Err-Bad
returns-in-Err-Bad c = λ before keeps.
    keeps-same before _ c.args.seeds.now
    (none-read (λ (entries : Vec Entry Global). entries.items) seeds_of_entries (book_of c.args.bytes.now)
    c.in-Err-Bad.field-0 _ _ c.in-Err-Bad.field-0-is c.in-Err-Bad.ensures.reads) keeps
