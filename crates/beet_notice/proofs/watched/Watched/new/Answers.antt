use Rattle.std.proofs.Common.{List, subst, sym}
use Rattle.beet_store.specs.Files.{Fetch}
use Rattle.beet_notice.specs.Noting.{HasNoted}
use Rattle.beet_notice.proofs.watched.Watched.new.Goals as goal

pub invariant_of-result : goal.invariant_of-result
invariant_of-result g c = subst (λ (fetches : List Fetch). HasNoted fetches c.new.result) (sym c.requires) c.new.ensures.noted
