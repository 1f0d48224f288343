use Rattle.std.proofs.Common.{◌≡◌, suc, ◌+◌, ◌-◌, arith, sym, subst, ◌∙◌, false}
use Rattle.beet_gates.specs.Scripts.{bounds_of}
use Rattle.beet_gates.specs.Clear.{is_end}
use Rattle.beet_gates.specs.Deals.{deals_of}
use Rattle.beet_gates.proofs.ClearFacts.{begins, by-three, goes-on, opens-more, words-there}
use Rattle.beet_gates.proofs.clear.clear_run.Goals as goal

pub loop-done-init : goal.loop-done-init
loop-done-init g c =
    let script = g.S.Script in
    let bounds = bounds_of (script.wires_of c.args.script.now) (script.masks_of c.args.script.now)
    (script.secrets_of c.args.script.now) in
    let law = rw (← c.requires.inputs, ← c.rounds-rounds.ensures.value) at (g.met.S.Script.lawful c.args.script.now) in
    let whole : c.rounds-rounds.result - 0 ≡ c.rounds-rounds.result = omega arith in
    record {
      end = c.rounds-rounds.ensures.value;
      underway = rw (whole, c.in_ok-run.ensures)
          (begins (script.batch_of c.args.script.now) (deals_of c.args.masks.now) bounds c.args.inputs.now 3
          c.rounds-rounds.result (by-three c.args.masks.now) law);
      placed = rw c.in_ok-run.ensures c.begin-place.ensures;
    }

pub loop-done-preserved : goal.loop-done-preserved
loop-done-preserved g c =
    let script = g.S.Script in
    let bounds = bounds_of (script.wires_of c.args.script.now) (script.masks_of c.args.script.now)
    (script.secrets_of c.args.script.now) in
    let left = c.rounds-rounds.result - (c.loop-done.done + 1) in
    let e : c.rounds-rounds.result - c.loop-done.done ≡ suc left = omega arith in
    let is : c.refill.new.batch ≡ script.batch_of c.args.script.now c.loop-done.done c.loop-done.run.opened =
    rw c.opened.ensures at c.refill.ensures.batch in
    let more : is_end c.refill.new.batch.act ≡ false = sym c.is_end.ensures ∙ c.if-is_end.false in
    let here : script.is_at c.args.script.now c.loop-done.done c.loop-done.run.opened c.refill.new.place =
    rw c.opened.ensures at c.refill.ensures.place in
    let o = opens-more (deals_of c.args.masks.now) c.refill.new.batch c.loop-done.run in
    record {
      end = c.loop-done.invariant.end;
      underway = rw c.in_ok-step.ensures
          (goes-on (script.batch_of c.args.script.now) (deals_of c.args.masks.now) bounds c.args.inputs.now
          c.loop-done.done c.loop-done.run c.refill.new.batch is left (rw e at c.loop-done.invariant.underway) more);
      placed = rw (c.in_ok-step.ensures, o.2)
          (g.met.S.Script.goes_on c.args.script.now c.loop-done.done
          (c.loop-done.done + 1) c.loop-done.run.opened o.0 c.refill.new.place here (omega arith));
    }

pub step-requires-clause-words : goal.step-requires-clause-words
step-requires-clause-words g c =
    let script = g.S.Script in
    let bounds = bounds_of (script.wires_of c.args.script.now) (script.masks_of c.args.script.now)
    (script.secrets_of c.args.script.now) in
    let is : c.refill.new.batch ≡ script.batch_of c.args.script.now c.loop-done.done c.loop-done.run.opened =
    rw c.opened.ensures at c.refill.ensures.batch in
    let there = words-there (script.batch_of c.args.script.now) (deals_of c.args.masks.now) bounds c.args.inputs.now
    c.loop-done.done c.loop-done.run c.refill.new.batch is (c.rounds-rounds.result - c.loop-done.done) c.loop-done.invariant.underway in
    (omega (arith, there, c.requires.masks.0), omega (arith, there, c.requires.masks.1), omega (arith, there, c.requires.masks.2))

pub refill-requires : goal.refill-requires
refill-requires g c =
    subst (λ opened. g.S.Script.is_at c.args.script.now c.loop-done.done opened c.loop-done.place)
    (sym c.opened.ensures) c.loop-done.invariant.placed
