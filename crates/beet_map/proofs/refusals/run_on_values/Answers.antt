use Rattle.std.proofs.Common.{◌≡◌, ap, subst, sym, ◌∙◌}
use Rattle.beet_gates.specs.Clear.{EndsAfter}
use Rattle.beet_gates.specs.Deals.{deals_of}
use Rattle.beet_map.specs.Premise.{clear_of}
use Rattle.beet_map.specs.Secrets.{Secrets, values_of}
use Rattle.beet_map.proofs.Grounds as grounds
use Rattle.beet_map.proofs.refusals.run_on_values.Goals as goal

pub returns-clause-rounds : goal.returns-clause-rounds
returns-clause-rounds g c =
    let script = g.S.Script in
    let s = c.args.script.now in
    let end : EndsAfter (script.batch_of s) (deals_of c.args.secrets.now.masks)
    (values_of c.args.secrets.now.inputs) c.in_ok-clear_run.field-0.rounds =
    subst (λ (w : Secrets). EndsAfter (script.batch_of s) (deals_of w.masks)
    (values_of w.inputs) c.in_ok-clear_run.field-0.rounds) c.secrets.view_is
    (rw (c.as_slice-2.ensures.value, c.in_ok-inputs.ensures.values, c.as_slice.ensures.value) at c.in_ok-clear_run.ensures.end) in
    grounds.rounds_are (script.batch_of s) (script.rounds_of s) (script.inputs_of s) (script.masks_of s)
    (script.wires_of s) (script.secrets_of s)
    (g.met.S.Script.lawful s) c.args.secrets.now c.requires c.in_ok-clear_run.field-0.rounds end

pub returns-clause-opened : goal.returns-clause-opened
returns-clause-opened g c =
    let script = g.S.Script in
    let s = c.args.script.now in
    let opened : c.in_ok-clear_run.field-0.opened
    ≡ (clear_of (script.batch_of s) c.args.secrets.now c.in_ok-clear_run.field-0.rounds).opened =
    subst (λ (w : Secrets). c.in_ok-clear_run.field-0.opened
    ≡ (clear_of (script.batch_of s) w c.in_ok-clear_run.field-0.rounds).opened) c.secrets.view_is
    (rw (c.as_slice-2.ensures.value, c.in_ok-inputs.ensures.values, c.as_slice.ensures.value) at c.in_ok-clear_run.ensures.opened) in
    let rounds = returns-clause-rounds g c in
    opened ∙ ap (λ r. (clear_of (script.batch_of s) c.args.secrets.now r).opened) rounds
    ∙ sym (grounds.opened_is (script.batch_of s) (script.rounds_of s) (script.inputs_of s) (script.masks_of s)
    (script.wires_of s) (script.secrets_of s)
    (g.met.S.Script.lawful s) c.args.secrets.now c.requires)
