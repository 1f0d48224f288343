use Rattle.std.proofs.Common.{false, ap, if◌then◌else◌, ◌∙◌}
use Rattle.beet_notice.specs.Noting.{Watching}
use Rattle.beet_notice.specs.Notices.{come_twice, seeds_seen}
use Rattle.beet_notice.proofs.SeedFacts.{told-twice}
use Rattle.beet_notice.proofs.watched.Watched.has_seed_twice.Goals as goal

pub returns : goal.returns
returns g c =
    c.has_seed_twice.ensures ∙ told-twice _ _ c.self.invariant
    ∙ ap (λ (w : Watching g.row.S.Denot). if w.lost then false
    else come_twice (seeds_seen (g.S.Shelf.seen w.shelf).told.fetches)) c.self.view_is
