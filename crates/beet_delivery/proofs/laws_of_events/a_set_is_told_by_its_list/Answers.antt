use Rattle.std.proofs.lemmas.Bool.{not_from_false}
use Rattle.beet_delivery.specs.Events.{after, same}
use Rattle.beet_delivery.proofs.NetworkFacts.{was_sent}
use Rattle.beet_delivery.proofs.Listing.{listed_once, listed_has, listed_tells}
use Rattle.beet_delivery.proofs.ThreeServers.{same_not, three-is}
use Rattle.beet_delivery.proofs.laws_of_events.a_set_is_told_by_its_list.Goals as goal

pub returns-clause-once : goal.returns-clause-once
returns-clause-once c = λ rounds x e other. listed_once three-is rounds x e (not_from_false (same e.from e.to) (same_not e.from e.to other))

pub returns-clause-only : goal.returns-clause-only
returns-clause-only c = listed_has three-is

pub returns-clause-told : goal.returns-clause-told
returns-clause-told c = λ rounds es others.
    listed_tells three-is rounds (after rounds es) (after rounds others) (was_sent three-is rounds es) (was_sent three-is rounds others)
