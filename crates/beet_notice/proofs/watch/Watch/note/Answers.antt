use Rattle.std.proofs.Common.{arith}
use Rattle.beet_store.specs.Files.{Bytes, fetch_of}
use Rattle.beet_notice.specs.Notices.{seeds_seen}
use Rattle.beet_notice.proofs.SeedFacts.{notes}
use Rattle.beet_notice.proofs.watch.Watch.note.Goals as goal

pub returns-then-self-lt-BOOK : goal.returns-then-self-lt-BOOK
returns-then-self-lt-BOOK c = λ fetches name limit noted.
    let few = c.if-self-lt-BOOK.true in
    let seeds = rw c.as_slice.ensures.value at c.note_counted.ensures.seeds in
    rw c.in-Ok.is
    (notes fetches (fetch_of name limit (Bytes c.in-Ok.bytes.items)) c.args.self.now c.note_counted.new.self noted
    (omega (arith, c.note_counted.ensures.count, few)) (omega (arith, c.if-self-gt0.true)) (omega (arith, few))
    (seeds (seeds_seen fetches) noted.noted))
