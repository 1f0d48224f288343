use Rattle.std.proofs.Common.{arith, refl, ◌∙◌, sym}
use Rattle.beet_sale_script.specs.declared.walk.Stage.TheVariants.{First, FirstMasked, Second, SecondMasked, Price, Sold, Spent}
use Rattle.beet_sale_script.proofs.Batches.{stage-length, length-open, length-closed, length-second}
use Rattle.beet_sale_script.proofs.walk.Walk.stage_length.Goals as goal

pub returns-then-self-gt0-clause-length : goal.returns-then-self-gt0-clause-length
returns-then-self-gt0-clause-length c =
    let w = c.args.self.now in
    stage-length w First c.in-First.is _ (length-open w (omega (arith, c.if-self-gt0.true)) ∙ sym c.mask_rounds.ensures)

pub returns-else-self-gt0-clause-length : goal.returns-else-self-gt0-clause-length
returns-else-self-gt0-clause-length c =
    let w = c.args.self.now in
    stage-length w First c.in-First.is _ (length-closed w (omega (arith, c.if-self-gt0.false)))

pub returns-in-FirstMasked-clause-length : goal.returns-in-FirstMasked-clause-length
returns-in-FirstMasked-clause-length c = stage-length c.args.self.now FirstMasked c.in-FirstMasked.is 1 refl

pub returns-in-Second-clause-length : goal.returns-in-Second-clause-length
returns-in-Second-clause-length c =
    let w = c.args.self.now in
    stage-length w Second c.in-Second.is _ (length-second w ∙ sym c.mask_rounds-in-Second.ensures)

pub returns-in-SecondMasked-clause-length : goal.returns-in-SecondMasked-clause-length
returns-in-SecondMasked-clause-length c = stage-length c.args.self.now SecondMasked c.in-SecondMasked.is 1 refl

pub returns-in-Price-clause-length : goal.returns-in-Price-clause-length
returns-in-Price-clause-length c = stage-length c.args.self.now (Price c.in-Price.field-0) c.in-Price.is 1 refl

pub returns-in-Sold-clause-length : goal.returns-in-Sold-clause-length
returns-in-Sold-clause-length c =
    stage-length c.args.self.now (Sold c.in-Sold.field-0 c.in-Sold.field-1) c.in-Sold.is 0 refl

pub returns-in-Spent-clause-length : goal.returns-in-Spent-clause-length
returns-in-Spent-clause-length c = stage-length c.args.self.now Spent c.in-Spent.is 0 refl
