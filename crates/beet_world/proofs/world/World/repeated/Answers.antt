use Rattle.std.proofs.Common.{◌≡◌, true, false, subst, rules}
use Rattle.std.specs.Prelude.{slice_index_or}
use Rattle.beet_gates.specs.Scripts.{bounds_of}
use Rattle.beet_world.specs.Happens.{event_of}
use Rattle.beet_world.specs.Marks.{mark_at}
use Rattle.beet_world.specs.Worlds.{World, delivered_in, rounds_in}
use Rattle.beet_world.specs.declared.world.Event.TheVariants.{Delivered as DeliveredBy}
use Rattle.beet_world.proofs.Delivered.{told-again}
use Rattle.beet_world.proofs.world.World.repeated.Goals as goal

pub returns-then-delivered-clause-event : goal.returns-then-delivered-clause-event
returns-then-delivered-clause-event g c =
    let script = g.S.Script in
    let seen : World g.row.S.Denot = record { start = c.self.inside.start.value; marks = c.self.inside.marks.items } in
    let first = seen.start.one.script in
    let limits = bounds_of (script.wires_of first) (script.masks_of first) (script.secrets_of first) in
    let marked : slice_index_or c.self.inside.marks.items (mark_at c.args.from c.args.side c.args.round) false ≡ true = search rules in
    let told = told-again script.batch_of script.inputs_of script.rounds_of limits seen c.self.inside.cores c.self.inside.sent
    (g.met.S.Script.lawful _) c.self.invariant c.args.from c.args.to c.args.side c.args.round c.requires.side marked
    c.verdict_on_repeat.result (search rules) in
    subst (λ (v : World g.row.S.Denot). DeliveredBy c.verdict_on_repeat.result
    ≡ event_of (rounds_in script.batch_of script.inputs_of script.rounds_of v) (delivered_in v)
    (record { from = c.args.from; to = c.args.to; round = c.args.round })) c.self.view_is told.1
