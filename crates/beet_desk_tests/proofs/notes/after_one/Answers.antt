use Rattle.std.proofs.Common.{◌≡◌, ap, subst, sym, ◌∙◌}
use Rattle.beet_field.specs.Trio.{member}
use Rattle.beet_field.specs.declared.point.Point.TheVariants.{One, Two, Three}
use Rattle.beet_field.specs.declared.trio.Trio.{Trio}
use Rattle.beet_server.proofs.Rounds.{by_point}
use Rattle.beet_desk.specs.Ends.{AreOf, Sender}
use Rattle.beet_desk.proofs.RunFacts.{in-ok}
use Rattle.beet_desk_tests.proofs.Taken.{taken-queue}
use Rattle.beet_desk_tests.proofs.Beginning.{AwaitAll, await-all}
use Rattle.beet_desk_tests.proofs.notes.after_one.Given.{Over}
use Rattle.beet_desk_tests.proofs.notes.after_one.Goals.{After-stations}
use Rattle.beet_desk_tests.proofs.notes.after_one.Goals as goal

pub servings-servings-requires-clause-one : goal.servings-servings-requires-clause-one
servings-servings-requires-clause-one g c = rw c.runs-runs.ensures.one c.stations.ensures.tied.one

pub servings-servings-requires-clause-two : goal.servings-servings-requires-clause-two
servings-servings-requires-clause-two g c = rw c.runs-runs.ensures.two c.stations.ensures.tied.two

pub servings-servings-requires-clause-three : goal.servings-servings-requires-clause-three
servings-servings-requires-clause-three g c = rw c.runs-runs.ensures.three c.stations.ensures.tied.three

await : (g : Over) (c : After-stations g) → AwaitAll c.expect-cores.result c.expect-senders.result.0
await g c =
    await-all c.expect-cores.ensures c.three_of_inputs.ensures.fresh c.expect-senders.ensures c.note_queue.ensures.senders

pub servings-servings-requires-clause-one_told : goal.servings-servings-requires-clause-one_told
servings-servings-requires-clause-one_told g c = await g c One _ _ c.runs-runs.ensures.one c.stations.ensures.cores.0

pub servings-servings-requires-clause-two_told : goal.servings-servings-requires-clause-two_told
servings-servings-requires-clause-two_told g c = await g c Two _ _ c.runs-runs.ensures.two c.stations.ensures.cores.1

pub servings-servings-requires-clause-three_told : goal.servings-servings-requires-clause-three_told
servings-servings-requires-clause-three_told g c = await g c Three _ _ c.runs-runs.ensures.three c.stations.ensures.cores.2

pub close-requires : goal.close-requires
close-requires g c =
    let made = in-ok _ c.expect-senders.result _ c.expect-senders.ensures c.note_queue.ensures.senders in
    let queue = taken-queue c.expect-senders.result.1 c.take.new.self c.take.result c.take.ensures.taken in
    let ends = c.in-Ok.ends in
    let told : Trio Sender = record { one = ends.one.1; two = ends.two.1; three = ends.three.1 } in
    subst (AreOf c.take.new.self) (sym c.apart-cores.ensures.told) (record {
      queues = by_point (λ s. (member told s).queue ≡ c.take.new.self.queue)
          (ap (λ e. e.queue) c.in-Ok.ensures.one.2 ∙ ap (λ e. e.queue) (c.servings-servings.ensures.one.2 ∙ made One) ∙ sym queue)
          (ap (λ e. e.queue) c.in-Ok.ensures.two.2 ∙ ap (λ e. e.queue) (c.servings-servings.ensures.two.2 ∙ made Two) ∙ sym queue)
          (ap (λ e. e.queue) c.in-Ok.ensures.three.2 ∙ ap (λ e. e.queue) (c.servings-servings.ensures.three.2 ∙ made Three) ∙ sym queue);
      servers = by_point (λ s. (member told s).server ≡ s)
          (ap (λ e. e.server) c.in-Ok.ensures.one.2 ∙ ap (λ e. e.server) (c.servings-servings.ensures.one.2 ∙ made One))
          (ap (λ e. e.server) c.in-Ok.ensures.two.2 ∙ ap (λ e. e.server) (c.servings-servings.ensures.two.2 ∙ made Two))
          (ap (λ e. e.server) c.in-Ok.ensures.three.2 ∙ ap (λ e. e.server) (c.servings-servings.ensures.three.2 ∙ made Three));
    })
