use Rattle.std.proofs.Common.{subst, sym}
use Rattle.beet_field.specs.Trio.{member}
use Rattle.beet_gates.specs.Scripts.{bounds_of}
use Rattle.beet_server.specs.Cores.{Core}
use Rattle.beet_world.specs.Worlds.{IsCoreOf, World}
use Rattle.beet_world.proofs.Delivered.{core-in}
use Rattle.beet_world.proofs.world.World.core.Goals as goal

pub returns : goal.returns
returns g c =
    let script = g.S.Script in
    let next = script.batch_of in
    let w : World g.row.S.Denot = record { start = c.self.inside.start.value; marks = c.self.inside.marks.items } in
    let first = w.start.one.script in
    let bounds = bounds_of (script.wires_of first) (script.masks_of first) (script.secrets_of first) in
    let law = g.met.S.Script.lawful first in
    let cores = c.self.inside.cores in
    let sent = c.self.inside.sent in
    let here : IsCoreOf next script.inputs_of script.rounds_of c.args.self.now c.args.at (member cores c.args.at) =
    subst (λ (v : World g.row.S.Denot). IsCoreOf next script.inputs_of script.rounds_of v c.args.at (member cores c.args.at)) c.self.view_is
    (core-in next script.inputs_of script.rounds_of bounds w cores sent law c.self.invariant c.args.at) in
    subst (λ (k : Core g.row.S.Denot). IsCoreOf next script.inputs_of script.rounds_of c.args.self.now c.args.at k) (sym c.get.ensures) here
