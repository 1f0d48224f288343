use Rattle.std.proofs.Common.{◌≤◌, ◌*◌, ap, ◌∙◌, arith, subst, sym}
use Rattle.beet_gates.specs.Scripts.{bounds_of}
use Rattle.beet_server.specs.Cores.{setup_of}
use Rattle.beet_sharing.specs.Runs.{rounds_among}
use Rattle.beet_queue.proofs.Members.{member-trio_of}
use Rattle.beet_field.specs.Trio.{member}
use Rattle.beet_queue.specs.Rule.{all_named}
use Rattle.beet_desk.specs.Ends.{AreFrom, AreSmall}
use Rattle.beet_station.specs.Notes.{notes, notes_at, notes_from}
use Rattle.beet_desk.proofs.RunFacts.{IfOk_then, small-notes}
use Rattle.beet_desk.proofs.NoteFacts.{are-from, named-few}
use Rattle.beet_desk.proofs.making.note_queue.Goals as goal

pub open-requires-clause-room : goal.open-requires-clause-room
open-requires-clause-room g c =
    let script = g.S.Script in
    let cores = c.args.cores.now in
    let first = cores.one.script in
    let few : all_named (notes_from script.batch_of script.inputs_of script.rounds_of cores) ≤ 3 * script.rounds_of first =
    named-few (setup_of script.batch_of script.inputs_of cores)
    (bounds_of (script.wires_of first) (script.masks_of first) (script.secrets_of first))
    (script.rounds_of first) (script.inputs_of first) (g.met.S.Script.lawful first) in
    omega (arith, few, c.max-capacity.ensures, c.rounds.ensures.value ∙ ap script.rounds_of c.script.ensures)

pub open-requires-clause-named : goal.open-requires-clause-named
open-requires-clause-named g c = λ s.
    let script = g.S.Script in
    let cores = c.args.cores.now in
    let o = setup_of script.batch_of script.inputs_of cores in
    let rounds = rounds_among o (script.rounds_of cores.one.script) in
    subst (AreFrom s) (sym (member-trio_of (notes o rounds) s)) (are-from o rounds s)

pub returns-clause-small : goal.returns-clause-small
returns-clause-small g c =
    let script = g.S.Script in
    let cores = c.args.cores.now in
    let first = cores.one.script in
    IfOk_then c.open.result c.open.ensures.receiver (λ ends made s. subst AreSmall
    (sym (ap (λ e. member e.notes s) made ∙ member-trio_of (notes_at script.batch_of script.inputs_of script.rounds_of cores) s))
    (small-notes script.batch_of script.inputs_of script.rounds_of cores
    (bounds_of (script.wires_of first) (script.masks_of first) (script.secrets_of first))
    (g.met.S.Script.lawful first) c.requires.few s))
