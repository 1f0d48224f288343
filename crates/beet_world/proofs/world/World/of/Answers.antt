use Rattle.std.proofs.Common.{◌≡◌, ◌≤◌, List, Vec, Global, sym, ◌∙◌, ap, arith, vec_capacity}
use Rattle.beet_field.specs.Trio.{member}
use Rattle.beet_field.specs.declared.point.Point.TheVariants.{One, Two, Three}
use Rattle.beet_field.specs.declared.trio.Trio.{Trio}
use Rattle.beet_gates.specs.Scripts.{bounds_of}
use Rattle.beet_round.specs.declared.message.RoundMessage.{RoundMessage}
use Rattle.beet_server.specs.Cores.{Core, setup_of}
use Rattle.beet_sharing.proofs.Rounds.{lawful-rounds}
use Rattle.beet_world.specs.Marks.{unmarked}
use Rattle.beet_world.proofs.Founding.{HasHandedOut, handed-out, has-room, world-begins}
use Rattle.beet_server.proofs.Rounds.{by_point}
use Rattle.beet_world.proofs.world.World.of.Goals as goal

pub hand_out-requires : goal.hand_out-requires
hand_out-requires g c =
    has-room g.S.Script.batch_of g.S.Script.inputs_of g.S.Script.rounds_of c.args.cores.one _ c.requires.one.1 (c.in-Ok.ensures.none One)
    (omega (arith, c.in-Ok.ensures.capacity One, c.rounds.ensures.value, ap g.S.Script.rounds_of c.script.ensures))

pub hand_out-requires-2 : goal.hand_out-requires-2
hand_out-requires-2 g c =
    let rounds = c.rounds.ensures.value ∙ ap g.S.Script.rounds_of (c.script.ensures ∙ sym c.requires.script_two) in
    has-room g.S.Script.batch_of g.S.Script.inputs_of g.S.Script.rounds_of c.args.cores.two _ c.requires.two.1 (c.in-Ok.ensures.none Two)
    (omega (arith, c.in-Ok.ensures.capacity Two, rounds))

pub hand_out-requires-3 : goal.hand_out-requires-3
hand_out-requires-3 g c =
    let rounds = c.rounds.ensures.value ∙ ap g.S.Script.rounds_of (c.script.ensures ∙ sym c.requires.script_three) in
    has-room g.S.Script.batch_of g.S.Script.inputs_of g.S.Script.rounds_of c.args.cores.three _ c.requires.three.1
    (c.in-Ok.ensures.none Three) (omega (arith, c.in-Ok.ensures.capacity Three, rounds))

pub invariant_of-result : goal.invariant_of-result
invariant_of-result g c =
    let script = g.S.Script in
    let next = script.batch_of in
    let start = c.args.cores in
    let first = start.one.script in
    let f = c.requires in
    let o = setup_of next script.inputs_of start in
    let bounds = bounds_of (script.wires_of first) (script.masks_of first) (script.secrets_of first) in
    let h = (lawful-rounds o bounds (script.rounds_of first) (script.inputs_of first) (g.met.S.Script.lawful first)).0 in
    let cores : Trio (Core g.row.S.Denot) =
    record { one = c.hand_out.new.core; two = c.hand_out-2.new.core; three = c.hand_out-3.new.core } in
    let sent : Trio (List (List RoundMessage)) = record {
      one = c.hand_out.new.sent.items;
      two = c.hand_out-2.new.sent.items;
      three = c.hand_out-3.new.sent.items;
    } in
    let vecs : Trio (Vec (List RoundMessage) Global) =
    record { one = c.hand_out.new.sent; two = c.hand_out-2.new.sent; three = c.hand_out-3.new.sent } in
    let one = c.hand_out.ensures in
    let two = c.hand_out-2.ensures in
    let three = c.hand_out-3.ensures in
    let rounds : c.rounds.result ≡ script.rounds_of first = c.rounds.ensures.value ∙ ap script.rounds_of c.script.ensures in
    let marks : c.in-Ok.room.1.items ≡ unmarked (script.rounds_of first) = c.in-Ok.ensures.marks ∙ ap unmarked rounds in
    let out = by_point (λ s. HasHandedOut next script.inputs_of script.rounds_of (member start s) (member cores s) (member sent s))
    (handed-out next script.inputs_of script.rounds_of _ _ _ _ _ (c.in-Ok.ensures.none One) one.took one.fits one.sends one.going)
    (handed-out next script.inputs_of script.rounds_of _ _ _ _ _ (c.in-Ok.ensures.none Two) two.took two.fits two.sends two.going)
    (handed-out next script.inputs_of script.rounds_of _ _ _ _ _ (c.in-Ok.ensures.none Three) three.took three.fits three.sends
    three.going) in
    rw (c.of-start.ensures, marks) (record {
      is_world = world-begins next script.inputs_of script.rounds_of start cores sent f h out;
      room = by_point (λ s. script.rounds_of first ≤ vec_capacity (member vecs s))
          (omega (arith, rounds, one.took.capacity, c.in-Ok.ensures.capacity One))
          (omega (arith, rounds, two.took.capacity, c.in-Ok.ensures.capacity Two))
          (omega (arith, rounds, three.took.capacity, c.in-Ok.ensures.capacity Three));
      script = by_point (λ s. (member cores s).script ≡ first) one.took.keeps.script (two.took.keeps.script ∙ f.script_two)
          (three.took.keeps.script ∙ f.script_three);
      masks = by_point (λ s. (member cores s).masks.words ≡ (member start s).masks.words) one.took.keeps.masks
          two.took.keeps.masks three.took.keeps.masks;
      coefficients = by_point (λ s. (member cores s).coefficients.words ≡ (member start s).coefficients.words)
          one.took.keeps.coefficients two.took.keeps.coefficients
          three.took.keeps.coefficients;
    })
