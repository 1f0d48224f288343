use Rattle.std.proofs.Common.{ap, sym, arith, ◌∙◌, ◌<◌, ◌-◌, [], length}
use Rattle.std.specs.Prelude.{List}
use Rattle.beet_gates.specs.Plans.{plan_batch, batch_at}
use Rattle.beet_gates.specs.declared.Batch.{Batch}
use Rattle.beet_sale_script.specs.Walk.{stage_plan, tail_batches}
use Rattle.beet_sale_script.proofs.Batches.{stage-batch, tail-some, rest-batch, rest-at}
use Rattle.beet_sale_script.proofs.walk.WalkPlanWalk.refill.Goals as goal

pub returns-then-step-before : goal.returns-then-step-before
returns-then-step-before c =
    let w = c.args.self.now in
    let n = c.tail_length-before.ensures.length in
    c.refill_stage.ensures ∙ ap (λ k. plan_batch (stage_plan w.stage w) (c.args.step - k) []) n
    ∙ sym (stage-batch w c.args.step (omega (arith, n, c.if-step-before.true)))

pub refill_rest-requires-clause-step : goal.refill_rest-requires-clause-step
refill_rest-requires-clause-step c =
    let w = c.args.self.now in
    let rest = tail-some w c.in-Some.tail c.in-Some.is in
    omega (arith, rest, c.tail_length-before.ensures.length, c.if-step-before.false)

pub refill_rest-requires-clause-wires : goal.refill_rest-requires-clause-wires
refill_rest-requires-clause-wires c = rw c.in-Some.is at c.requires.tail

pub returns : goal.returns
returns c =
    let w = c.args.self.now in
    let short : c.args.step < length (tail_batches w.tail w) =
    omega (arith, c.tail_length-before.ensures.length, c.if-step-before.false) in
    c.refill_rest.ensures
    ∙ sym (rest-batch w c.args.step short ∙ ap (λ (l : List Batch). batch_at l c.args.step) (rest-at w c.in-Some.tail c.in-Some.is))
