use Rattle.std.proofs.Common.{ap, arith, ◌∙◌, ◌∷◌, [], ◌+◌}
use Rattle.beet_gates.specs.Batches.{reveal_batch}
use Rattle.beet_gates.specs.Plans.{batch_at}
use Rattle.beet_walk.proofs.PlanParts.{past-one}
use Rattle.beet_sale_script.specs.declared.walk.Stage.TheVariants.{First, FirstMasked, Second, SecondMasked, Price, Sold, Spent}
use Rattle.beet_sale_script.proofs.Batches.{of-stage, first-of, batch-first, batch-closed, batch-masked-first, batch-masked-second}
use Rattle.beet_sale_script.proofs.Batches.{batch-price, batch-second, batch-sold, batch-spent}
use Rattle.beet_sale_script.proofs.walk.Walk.refill_stage.Goals as goal

pub returns-then-self-gt0 : goal.returns-then-self-gt0
returns-then-self-gt0 c =
    of-stage c.args.self.now First c.in-First.is c.args.step c.refill_mask.ensures
    (batch-first c.args.self.now c.args.step (omega (arith, c.if-self-gt0.true)))

pub returns-then-step-eq0 : goal.returns-then-step-eq0
returns-then-step-eq0 c =
    let w = c.args.self.now in
    let one = reveal_batch (w.who ∷ w.next ∷ []) (w.first ∷ (w.first + 1) ∷ []) in
    of-stage w First c.in-First.is c.args.step c.refill_opening.ensures
    (batch-closed w c.args.step (omega (arith, c.if-self-gt0.false)) ∙ ap (batch_at (one ∷ [])) c.if-step-eq0.true)

pub returns-else-step-eq0 : goal.returns-else-step-eq0
returns-else-step-eq0 c =
    of-stage c.args.self.now First c.in-First.is c.args.step c.set_end.ensures
    (batch-closed c.args.self.now c.args.step (omega (arith, c.if-self-gt0.false)) ∙ past-one _ c.args.step c.if-step-eq0.false)

pub returns-then-step-eq0-2 : goal.returns-then-step-eq0-2
returns-then-step-eq0-2 c =
    first-of c.args.self.now FirstMasked c.in-FirstMasked.is c.args.step c.if-step-eq0-2.true c.refill_first.ensures

pub returns-else-step-eq0-2 : goal.returns-else-step-eq0-2
returns-else-step-eq0-2 c =
    of-stage c.args.self.now FirstMasked c.in-FirstMasked.is c.args.step c.set_end-else-step-eq0-2.ensures
    (batch-masked-first c.args.self.now c.args.step c.if-step-eq0-2.false)

pub returns-in-Second : goal.returns-in-Second
returns-in-Second c =
    of-stage c.args.self.now Second c.in-Second.is c.args.step c.refill_mask-in-Second.ensures (batch-second c.args.self.now c.args.step)

pub returns-in-Price : goal.returns-in-Price
returns-in-Price c =
    of-stage c.args.self.now (Price c.in-Price.field-0) c.in-Price.is c.args.step c.set_end-in-Price.ensures
    (batch-price c.args.self.now c.in-Price.field-0 c.args.step)

pub returns-in-Sold : goal.returns-in-Sold
returns-in-Sold c =
    of-stage c.args.self.now (Sold c.in-Sold.field-0 c.in-Sold.field-1) c.in-Sold.is c.args.step c.set_end-in-Sold.ensures
    (batch-sold c.args.self.now c.in-Sold.field-0 c.in-Sold.field-1 c.args.step)

pub returns-in-Spent : goal.returns-in-Spent
returns-in-Spent c =
    of-stage c.args.self.now Spent c.in-Spent.is c.args.step c.set_end-in-Spent.ensures (batch-spent c.args.self.now c.args.step)

pub returns-then-step-eq0-3 : goal.returns-then-step-eq0-3
returns-then-step-eq0-3 c =
    first-of c.args.self.now SecondMasked c.in-SecondMasked.is c.args.step c.if-step-eq0-3.true c.refill_second.ensures

pub returns-else-step-eq0-3 : goal.returns-else-step-eq0-3
returns-else-step-eq0-3 c =
    of-stage c.args.self.now SecondMasked c.in-SecondMasked.is c.args.step c.set_end-else-step-eq0-3.ensures
    (batch-masked-second c.args.self.now c.args.step c.if-step-eq0-3.false)
