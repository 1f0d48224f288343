use Rattle.std.proofs.Common.{◌≤◌, ap, ◌∙◌, arith, length}
use Rattle.beet_gates.specs.Scripts.{bounds_of}
use Rattle.beet_server.specs.Cores.{setup_of}
use Rattle.beet_link.specs.Streams.{stream_of}
use Rattle.beet_link.proofs.StreamFacts.{length-few}
use Rattle.beet_link.proofs.making.link.Goals as goal

pub open-requires-clause-room : goal.open-requires-clause-room
open-requires-clause-room g c =
    let script = g.S.Script in
    let cores = c.args.cores.now in
    let first = cores.one.script in
    let few : length (stream_of script.batch_of script.inputs_of script.rounds_of cores c.args.from c.args.to) ≤ script.rounds_of first =
    length-few (setup_of script.batch_of script.inputs_of cores)
    (bounds_of (script.wires_of first) (script.masks_of first) (script.secrets_of first))
    (script.rounds_of first) (script.inputs_of first) c.args.from c.args.to (g.met.S.Script.lawful first) in
    omega (arith, few, c.max-capacity.ensures, c.rounds.ensures.value ∙ ap script.rounds_of c.script.ensures)
