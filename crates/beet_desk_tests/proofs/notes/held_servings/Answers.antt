use Rattle.std.proofs.Common.{ap, drop, ◌∙◌}
use Rattle.beet_field.specs.declared.point.Point.TheVariants.{One, Two, Three}
use Rattle.beet_desk_tests.proofs.Beginning.{AwaitAll, await-all}
use Rattle.beet_desk_tests.proofs.notes.held_servings.Given.{Over}
use Rattle.beet_desk_tests.proofs.notes.held_servings.Goals.{After-stations}
use Rattle.beet_desk_tests.proofs.notes.held_servings.Goals as goal

pub servings-requires-clause-one : goal.servings-requires-clause-one
servings-requires-clause-one g c = rw c.runs-runs.ensures.one c.stations.ensures.tied.one

pub servings-requires-clause-two : goal.servings-requires-clause-two
servings-requires-clause-two g c = rw c.runs-runs.ensures.two c.stations.ensures.tied.two

pub servings-requires-clause-three : goal.servings-requires-clause-three
servings-requires-clause-three g c = rw c.runs-runs.ensures.three c.stations.ensures.tied.three

await : (g : Over) (c : After-stations g) → AwaitAll c.expect-cores.result c.expect-senders.result.0
await g c =
    await-all c.expect-cores.ensures c.three_of_inputs.ensures.fresh c.expect-senders.ensures c.note_queue.ensures.senders

pub servings-requires-clause-one_told : goal.servings-requires-clause-one_told
servings-requires-clause-one_told g c =
    ap (λ e. drop e.pushed e.notes) c.holding.ensures ∙ await g c One _ _ c.runs-runs.ensures.one c.stations.ensures.cores.0

pub servings-requires-clause-two_told : goal.servings-requires-clause-two_told
servings-requires-clause-two_told g c =
    ap (λ e. drop e.pushed e.notes) c.holding-2.ensures ∙ await g c Two _ _ c.runs-runs.ensures.two c.stations.ensures.cores.1

pub servings-requires-clause-three_told : goal.servings-requires-clause-three_told
servings-requires-clause-three_told g c =
    ap (λ e. drop e.pushed e.notes) c.holding-3.ensures ∙ await g c Three _ _ c.runs-runs.ensures.three c.stations.ensures.cores.2
