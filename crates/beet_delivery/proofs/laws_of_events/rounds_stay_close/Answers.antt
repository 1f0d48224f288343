use Rattle.std.proofs.lemmas.Bool.{not-true}
use Rattle.beet_delivery.specs.Events.{after, same}
use Rattle.beet_delivery.proofs.NetworkFacts.{was_sent, was_sent_parts, front_within}
use Rattle.beet_delivery.proofs.ThreeServers.{not_same, one_apart, three-is}
use Rattle.beet_delivery.proofs.laws_of_events.rounds_stay_close.Goals as goal

pub returns-clause-apart : goal.returns-clause-apart
returns-clause-apart c = λ rounds es. one_apart rounds (after rounds es) (was_sent three-is rounds es)

pub returns-clause-sent : goal.returns-clause-sent
returns-clause-sent c = λ rounds es from to t h.
    let p = was_sent_parts three-is rounds es from to t h in (not_same from to (not-true (same from to) p.0), p.1)

pub returns-clause-grows : goal.returns-clause-grows
returns-clause-grows c = front_within three-is
