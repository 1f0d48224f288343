use Rattle.std.proofs.Common.{◌≡◌, ◌≤◌, ◌++◌, [], length, refl, ap, ◌∙◌, arith, vec_capacity}
use Rattle.beet_gates.specs.Clear.{with_lets}
use Rattle.beet_gates.specs.Scripts.{bounds_of}
use Rattle.beet_gates.specs.declared.Batch.{Batch}
use Rattle.beet_server.proofs.Soundness.{first-room, first-lets, first-sound}
use Rattle.beet_server.proofs.progress.begin_run.Goals as goal

pub append_all-requires : goal.append_all-requires
append_all-requires g c =
    let room = first-room g.row.SERVERS 1 _ (bounds_of (g.S.Script.wires_of c.args.script.now) (g.S.Script.masks_of c.args.script.now)
    (g.S.Script.secrets_of c.args.script.now)) _ _ (g.met.S.Script.lawful c.args.script.now) in
    let none : length c.args.wires.now.items ≡ 0 = ap length c.requires.none in
    record { room = omega (arith, room, none, c.requires.room, c.requires.inputs) }

pub append_lets-requires-clause-below : goal.append_lets-requires-clause-below
append_lets-requires-clause-below g c =
    let lets_are = c.as_slice.ensures.value ∙ ap (λ (b : Batch). b.lets.items) c.next-batch.ensures in
    let count : length c.append_all.new.list.items ≡ g.S.Script.inputs_of c.args.script.now =
    ap length (c.append_all.ensures.items ∙ ap (λ l. l ++ c.args.inputs.now) c.requires.none) ∙ c.requires.inputs in
    rw (lets_are, count) (first-lets g.row.SERVERS 1 _ (bounds_of (g.S.Script.wires_of c.args.script.now) (g.S.Script.masks_of
    c.args.script.now) (g.S.Script.secrets_of c.args.script.now)) _ _ (g.met.S.Script.lawful c.args.script.now))

pub append_lets-requires-clause-room : goal.append_lets-requires-clause-room
append_lets-requires-clause-room g c =
    let room = first-room g.row.SERVERS 1 _ (bounds_of (g.S.Script.wires_of c.args.script.now) (g.S.Script.masks_of c.args.script.now)
    (g.S.Script.secrets_of c.args.script.now)) _ _ (g.met.S.Script.lawful c.args.script.now) in
    let lets_are : length c.as_slice.result.now ≡ length (g.S.Script.batch_of c.args.script.now 0 []).lets.items =
    ap length (c.as_slice.ensures.value ∙ ap (λ (b : Batch). b.lets.items) c.next-batch.ensures) in
    let count : length c.append_all.new.list.items ≡ g.S.Script.inputs_of c.args.script.now =
    ap length (c.append_all.ensures.items ∙ ap (λ l. l ++ c.args.inputs.now) c.requires.none) ∙ c.requires.inputs in
    omega (arith, room, lets_are, count, c.append_all.ensures.capacity, c.requires.room)

pub returns-clause-wires : goal.returns-clause-wires
returns-clause-wires g c =
    c.append_lets.ensures.wires ∙ ap (λ l. with_lets c.append_all.new.list.items l) c.as_slice.ensures.value
    ∙ ap (λ l. with_lets l c.next-batch.result.lets.items)
    (c.append_all.ensures.items ∙ ap (λ l. l ++ c.args.inputs.now) c.requires.none)
    ∙ ap (λ (b : Batch). with_lets c.args.inputs.now b.lets.items) c.next-batch.ensures

pub returns-clause-sound : goal.returns-clause-sound
returns-clause-sound g c = λ numbers masks coefficients room no_word words drawn answers small.
    let script = g.S.Script in
    let s = c.args.script.now in
    let wires_fit : script.wires_of s ≤ vec_capacity c.append_lets.new.wires =
    omega (arith, c.append_lets.ensures.capacity, c.append_all.ensures.capacity, c.requires.room) in
    first-sound g.row.SERVERS numbers (script.batch_of s) (bounds_of (script.wires_of s) (script.masks_of s) (script.secrets_of s))
    (script.rounds_of s) (script.inputs_of s) (g.met.S.Script.lawful s) _ c.args.inputs.now _ _ _ _ _ _ c.next-batch.ensures
    c.requires.inputs
    (c.append_lets.ensures.wires ∙ ap (λ l. with_lets c.append_all.new.list.items l) c.as_slice.ensures.value
    ∙ ap (λ l. with_lets l c.next-batch.result.lets.items)
    (c.append_all.ensures.items ∙ ap (λ l. l ++ c.args.inputs.now) c.requires.none))
    refl no_word words drawn wires_fit answers small
