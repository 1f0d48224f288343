use Rattle.std.proofs.Common.{List, ap, arith, subst, sym}
use Rattle.beet_store.specs.Files.{Fetch, Told}
use Rattle.beet_notice.specs.Noting.{HasNoted}
use Rattle.beet_notice.proofs.watched.WatchedShelf.fetch.Goals as goal

pub note-requires : goal.note-requires
note-requires g c = omega (arith, c.self.invariant.counted)

pub invariant_of-self : goal.invariant_of-self
invariant_of-self g c =
    subst (λ (fetches : List Fetch). HasNoted fetches c.note.new.self)
    (sym (ap (λ (told : Told). told.fetches) c.fetch-answer.ensures.content.recorded))
    (c.note.ensures _ c.args.name.now c.args.limit c.self.invariant)
