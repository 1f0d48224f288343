use Rattle.std.proofs.Common.{Some, ◌∙◌}
use Rattle.beet_sale_plan.specs.declared.SaleEnd.TheVariants.{Sold as SoldEnd}
use Rattle.beet_sale_script.specs.declared.walk.Stage.TheVariants.{First, FirstMasked, Second, SecondMasked, Price, Sold, Spent}
use Rattle.beet_sale_script.proofs.Finishes.{finish-is}
use Rattle.beet_sale_script.proofs.walk.Walk.finish.Goals as goal

pub returns-in-First : goal.returns-in-First
returns-in-First c = finish-is c.args.self.now First c.in-First.is

pub returns-in-FirstMasked : goal.returns-in-FirstMasked
returns-in-FirstMasked c = finish-is c.args.self.now FirstMasked c.in-FirstMasked.is

pub returns-in-Second : goal.returns-in-Second
returns-in-Second c = finish-is c.args.self.now Second c.in-Second.is

pub returns-in-SecondMasked : goal.returns-in-SecondMasked
returns-in-SecondMasked c = finish-is c.args.self.now SecondMasked c.in-SecondMasked.is

pub returns-in-Price : goal.returns-in-Price
returns-in-Price c = finish-is c.args.self.now (Price c.in-Price.field-0) c.in-Price.is

pub returns-in-Sold : goal.returns-in-Sold
returns-in-Sold c =
    (λ i. Some (SoldEnd (c.value.ensures.value i) (c.value-in-Sold.ensures.value i)))
    ∙ finish-is c.args.self.now (Sold c.in-Sold.winner c.in-Sold.price) c.in-Sold.is

pub returns-in-Spent : goal.returns-in-Spent
returns-in-Spent c = finish-is c.args.self.now Spent c.in-Spent.is
