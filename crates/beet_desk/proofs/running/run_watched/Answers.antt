use denote.Param.Send.{sendable}
use Rattle.std.proofs.Common.{◌≡◌, [], ap, drop, refl, sym, subst, ◌∙◌}
use Rattle.beet_field.specs.Trio.{member}
use Rattle.beet_field.specs.declared.point.Point.{Point}
use Rattle.beet_field.specs.declared.point.Point.TheVariants.{One, Two, Three}
use Rattle.beet_field.specs.declared.trio.Trio.{Trio}
use Rattle.beet_queue.proofs.Members.{member-trio_of}
use Rattle.beet_server.specs.Cores.{setup_of}
use Rattle.beet_server.specs.Lockstep.{HaveEnded}
use Rattle.beet_server.proofs.Rounds.{by_point}
use Rattle.beet_link.specs.Streams.{rounds_from}
use Rattle.beet_station.specs.Notes.{notes_at, notes_from}
use Rattle.beet_station.proofs.Ends.{all-ended}
use Rattle.beet_desk.specs.Counts.{HasPlace, Added, count_in}
use Rattle.beet_desk.specs.Ends.{AreSmall, Sender}
use Rattle.beet_desk.proofs.CountFacts.{count-notes}
use Rattle.beet_desk.proofs.RunFacts.{ended-as, has-place, in-err, in-ok, starts-told, stayed-as, whole-count, whole-of}
use Rattle.beet_desk.proofs.running.run_watched.Given.{Over}
use Rattle.beet_desk.proofs.running.run_watched.Goals.{After-apart-servers, After-drop-in-Err-ended}
use Rattle.beet_desk.proofs.running.run_watched.Goals as goal

pub servings-servings-requires-clause-one_told : goal.servings-servings-requires-clause-one_told
servings-servings-requires-clause-one_told g c =
    let script = g.S.Script in
    starts-told script.batch_of script.inputs_of script.rounds_of c.args.cores _ c.in-Ok.ends.0.one One c.runs-runs.result.one.value
    c.stations-stations.result.one.core
    (c.in-Ok.ensures.senders One) c.runs-runs.ensures.one
    (ap (λ k. k.round) (c.stations-stations.ensures.cores.0 ∙ c.requires.fresh.one.1))

pub servings-servings-requires-clause-two_told : goal.servings-servings-requires-clause-two_told
servings-servings-requires-clause-two_told g c =
    let script = g.S.Script in
    starts-told script.batch_of script.inputs_of script.rounds_of c.args.cores _ c.in-Ok.ends.0.two Two c.runs-runs.result.two.value
    c.stations-stations.result.two.core
    (c.in-Ok.ensures.senders Two) c.runs-runs.ensures.two
    (ap (λ k. k.round) (c.stations-stations.ensures.cores.1 ∙ c.requires.fresh.two.1))

pub servings-servings-requires-clause-three_told : goal.servings-servings-requires-clause-three_told
servings-servings-requires-clause-three_told g c =
    let script = g.S.Script in
    starts-told script.batch_of script.inputs_of script.rounds_of c.args.cores _ c.in-Ok.ends.0.three Three
    c.runs-runs.result.three.value c.stations-stations.result.three.core
    (c.in-Ok.ensures.senders Three) c.runs-runs.ensures.three
    (ap (λ k. k.round) (c.stations-stations.ensures.cores.2 ∙ c.requires.fresh.three.1))

-- if no worker could be started, the servers stand as they began
stayed : (g : Over) (c : After-drop-in-Err-ended g) → c.in-Err-ended.stayed ≡ c.args.cores
stayed g c =
    let script = g.S.Script in
    let start = c.args.cores in
    let serving = c.servings-servings.ensures in
    let run = c.runs-runs.ensures in
    let cores = c.in-Err-ended.stayed in
    let stand = in-err _ cores _ c.in-Err-ended.is c.join-receiver.ensures.second.1.1.1 in
    let one = stayed-as script.batch_of script.inputs_of script.rounds_of _ start _ One cores.one (serving.one.1 ∙ run.one) serving.one.0
    stand.0 in
    let two = stayed-as script.batch_of script.inputs_of script.rounds_of _ start _ Two cores.two (serving.two.1 ∙ run.two) serving.two.0
    stand.1 in
    let three = stayed-as script.batch_of script.inputs_of script.rounds_of _ start _ Three cores.three (serving.three.1 ∙ run.three)
    serving.three.0 stand.2 in
    λ i. record { one = one i; two = two i; three = three i }

pub returns-in-Err-ended-clause-cores : goal.returns-in-Err-ended-clause-cores
returns-in-Err-ended-clause-cores g c =
    let script = g.S.Script in
    subst (λ cores. HaveEnded script.batch_of script.inputs_of script.rounds_of cores c.unwatched-in-Err-ended.result.cores)
    (stayed g (goal.at.returns-in-Err-ended-clause-cores g c).After-drop-in-Err-ended) c.unwatched-in-Err-ended.ensures.cores

pub returns-in-Err-ended-clause-counts : goal.returns-in-Err-ended-clause-counts
returns-in-Err-ended-clause-counts g c = λ s.
    let script = g.S.Script in
    subst (λ cores. member c.unwatched-in-Err-ended.result.counts s ≡ count_in (setup_of script.batch_of script.inputs_of cores)
    (rounds_from script.batch_of script.inputs_of script.rounds_of cores))
    (stayed g (goal.at.returns-in-Err-ended-clause-counts g c).After-drop-in-Err-ended) (c.unwatched-in-Err-ended.ensures.counts s)

abbrev senders : (g : Over) (c : After-apart-servers g) → Trio Sender
senders g c = c.apart-servers.result.1

-- the notes of a server, as the desk's end names them
named : (g : Over) (c : After-apart-servers g) → (s : Point) →
    member c.join-receiver.result.0.0.notes s ≡ notes_at g.S.Script.batch_of g.S.Script.inputs_of g.S.Script.rounds_of c.args.cores s
named g c s =
    let script = g.S.Script in
    ap (λ n. member n s) c.join-receiver.ensures.first.1 ∙ ap (λ e. member e.notes s) c.in-Ok.ensures.receiver
    ∙ member-trio_of (notes_at script.batch_of script.inputs_of script.rounds_of c.args.cores) s

-- each server has pushed all of them
pushed : (g : Over) (c : After-apart-servers g) → (s : Point) →
    (drop (member (senders g c) s).pushed (notes_at g.S.Script.batch_of g.S.Script.inputs_of g.S.Script.rounds_of c.args.cores s) ≡ [])
    × ((member (senders g c) s).queue ≡ c.join-receiver.result.0.0.queue) × ((member (senders g c) s).server ≡ s)
pushed g c =
    let script = g.S.Script in
    let start = c.args.cores in
    let all = notes_from script.batch_of script.inputs_of script.rounds_of start in
    let ended = c.in-Ok-ended.ends in
    let second = c.join-receiver.ensures.second in
    let queue = c.join-receiver.ensures.first.0 in
    let Whole : Trio Sender → Point → Type 0 = λ told s.
    (drop (member told s).pushed (notes_at script.batch_of script.inputs_of script.rounds_of start s) ≡ [])
    × ((member told s).queue ≡ c.join-receiver.result.0.0.queue) × ((member told s).server ≡ s) in
    let told : Trio Sender = record { one = ended.one.1; two = ended.two.1; three = ended.three.1 } in
    subst (λ told. (s : Point) → Whole told s) (sym c.apart-servers.ensures.told)
    (by_point (Whole told)
    (whole-of c.in-Ok.ends.1.queue _ One all _ c.in-Ok.ends.0.one c.servings-servings.result.one.sink ended.one.1
    (in-ok _ ended _ c.in-Ok-ended.is second.0).1
    c.servings-servings.ensures.one.2 (c.in-Ok.ensures.senders One) refl queue)
    (whole-of c.in-Ok.ends.1.queue _ Two all _ c.in-Ok.ends.0.two c.servings-servings.result.two.sink ended.two.1
    (in-ok _ ended _ c.in-Ok-ended.is second.1.0).1
    c.servings-servings.ensures.two.2 (c.in-Ok.ensures.senders Two) refl queue)
    (whole-of c.in-Ok.ends.1.queue _ Three all _ c.in-Ok.ends.0.three c.servings-servings.result.three.sink ended.three.1
    (in-ok _ ended _ c.in-Ok-ended.is second.1.1.0).1
    c.servings-servings.ensures.three.2 (c.in-Ok.ensures.senders Three) refl queue))

pub close-rest-requires : goal.close-rest-requires
close-rest-requires g c =
    let at = (goal.at.close-rest-requires g c).After-apart-servers in
    record { queues = λ s. (pushed g at s).1; servers = λ s. (pushed g at s).2 }

pub count_rest-counts-requires : goal.count_rest-counts-requires
count_rest-counts-requires g c = λ s.
    let script = g.S.Script in
    let at = (goal.at.count_rest-counts-requires g c).After-apart-servers in
    let rx = c.join-receiver.result.0.0 in
    let first = c.join-receiver.ensures.first in
    let small = subst AreSmall (ap (λ e. member e.notes s) c.in-Ok.ensures.receiver
    ∙ member-trio_of (notes_at script.batch_of script.inputs_of script.rounds_of c.args.cores) s) (c.in-Ok.ensures.small s) in
    subst (λ rest. HasPlace (member c.join-receiver.result.0.1 s) (member rest s)) (sym c.close-rest.ensures)
    (has-place rx (senders g at) c.join-receiver.result.0.1 s (notes_at script.batch_of script.inputs_of script.rounds_of c.args.cores s)
    (named g at s) (pushed g at s).0 first.2 first.3 small)

pub returns-clause-cores : goal.returns-clause-cores
returns-clause-cores g c =
    let script = g.S.Script in
    let start = c.args.cores in
    let serving = c.servings-servings.ensures in
    let run = c.runs-runs.ensures in
    let ended = c.in-Ok-ended.ends in
    let second = c.join-receiver.ensures.second in
    subst (HaveEnded script.batch_of script.inputs_of script.rounds_of start) (sym c.apart-servers.ensures.servers)
    (all-ended script.batch_of script.inputs_of script.rounds_of start
    (record { one = ended.one.0; two = ended.two.0; three = ended.three.0 }) c.requires.fresh
    (record {
      one = ended-as script.batch_of script.inputs_of script.rounds_of _ start _ One ended.one.0 (serving.one.1 ∙ run.one) serving.one.0
          (in-ok _ ended _ c.in-Ok-ended.is second.0).0;
      two = ended-as script.batch_of script.inputs_of script.rounds_of _ start _ Two ended.two.0 (serving.two.1 ∙ run.two) serving.two.0
          (in-ok _ ended _ c.in-Ok-ended.is second.1.0).0;
      three = ended-as script.batch_of script.inputs_of script.rounds_of _ start _ Three ended.three.0 (serving.three.1 ∙ run.three)
          serving.three.0 (in-ok _ ended _ c.in-Ok-ended.is second.1.1.0).0;
    }))

pub returns-clause-counts : goal.returns-clause-counts
returns-clause-counts g c = λ s.
    let script = g.S.Script in
    let at = (goal.at.returns-clause-counts g c).After-apart-servers in
    let rx = c.join-receiver.result.0.0 in
    let first = c.join-receiver.ensures.first in
    let o = setup_of script.batch_of script.inputs_of c.args.cores in
    let rounds = rounds_from script.batch_of script.inputs_of script.rounds_of c.args.cores in
    whole-count rx (senders g at) c.join-receiver.result.0.1 s
    (notes_at script.batch_of script.inputs_of script.rounds_of c.args.cores s) (named g at s) (pushed g at s).0 first.2 first.3
    (member c.count_rest-counts.result s) (subst
    (λ rest. Added (member c.join-receiver.result.0.1 s) (member rest s) (member c.count_rest-counts.result s)) c.close-rest.ensures
    (c.count_rest-counts.ensures s))
    ∙ count-notes o rounds s

pub join-receiver-requires-after_bounds : goal.join-receiver-requires-after_bounds
join-receiver-requires-after_bounds g c κs within =
    let b = c.type_bounds in (
      (ap (λ e. e.taken) c.in-Ok.ensures.receiver, c.in-Ok.ensures.small),
      (search (sendable) depth 20, search (sendable) depth 20, search (sendable) depth 20),
    )
