use Rattle.std.proofs.Common.{◌≡◌, arith, refl, sym, ◌∙◌, ap}
use Rattle.beet_gates.specs.Scripts.{bounds_of}
use Rattle.beet_server.specs.Cores.{setup_of}
use Rattle.beet_server.proofs.Beginning.{at-the-end, at-the-most, fresh-stand, goes-on, have-ended, may-pass}
use Rattle.beet_world.proofs.stepping.lockstep.Goals as goal

pub loop-round-init : goal.loop-round-init
loop-round-init g c =
    let script = g.S.Script in
    record {
      end = c.rounds-round-end.ensures.value ∙ ap script.rounds_of c.script.ensures;
      stand = fresh-stand script.batch_of script.inputs_of script.rounds_of c.args.cores c.requires;
      keeps = λ s. record { me = refl; script = refl; masks = refl; coefficients = refl };
    }

pub exchange-requires : goal.exchange-requires
exchange-requires g c =
    let script = g.S.Script in
    may-pass script.batch_of script.inputs_of script.rounds_of (setup_of script.batch_of script.inputs_of c.args.cores)
    c.loop-round._round c.loop-round.cores c.loop-round.invariant.stand
    (sym c.ended.ensures ∙ c.if-ended.false)

pub loop-round-preserved : goal.loop-round-preserved
loop-round-preserved g c =
    let script = g.S.Script in
    let o = setup_of script.batch_of script.inputs_of c.args.cores in
    let inv = c.loop-round.invariant in
    let on = goes-on script.batch_of script.inputs_of script.rounds_of o c.loop-round._round c.loop-round.cores
    inv.stand (sym c.ended.ensures ∙ c.if-ended.false) in
    record {
      end = inv.end;
      stand = c.exchange.ensures.passed o c.loop-round._round on inv.stand;
      keeps = λ s. let k = c.exchange.ensures.keeps s in let l = inv.keeps s in record {
        me = k.me ∙ l.me;
        script = k.script ∙ l.script;
        masks = k.masks ∙ l.masks;
        coefficients = k.coefficients ∙ l.coefficients;
      };
    }

pub returns-then-ended : goal.returns-then-ended
returns-then-ended g c =
    let script = g.S.Script in
    let first = c.args.cores.one.script in
    let bounds = bounds_of (script.wires_of first) (script.masks_of first) (script.secrets_of first) in
    let law = g.met.S.Script.lawful first in
    let inv = c.loop-round.invariant in
    let over = sym c.ended.ensures ∙ c.if-ended.true in
    have-ended script.batch_of script.inputs_of script.rounds_of bounds c.args.cores c.loop-round.cores
    c.loop-round._round c.requires law inv.stand
    (at-the-end script.batch_of script.inputs_of script.rounds_of bounds c.args.cores c.loop-round.cores
    c.loop-round._round law inv.stand over) inv.keeps

pub returns : goal.returns
returns g c =
    let script = g.S.Script in
    let first = c.args.cores.one.script in
    let bounds = bounds_of (script.wires_of first) (script.masks_of first) (script.secrets_of first) in
    let law = g.met.S.Script.lawful first in
    let inv = c.loop-round.invariant in
    let all : c.loop-round._round ≡ script.rounds_of first =
    omega (arith, c.loop-round-test.false, c.loop-round.auto._round-end, inv.end) in
    have-ended script.batch_of script.inputs_of script.rounds_of bounds c.args.cores c.loop-round.cores
    c.loop-round._round c.requires law inv.stand
    (at-the-most script.batch_of script.inputs_of script.rounds_of bounds c.args.cores c.loop-round.cores
    c.loop-round._round law inv.stand all) inv.keeps
