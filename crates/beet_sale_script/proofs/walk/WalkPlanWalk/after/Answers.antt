use Rattle.std.proofs.Common.{arith}
use Rattle.beet_sale_script.proofs.Leads.{first-closed, first-open, price-after, second-open, sold-after, spent-after}
use Rattle.beet_sale_script.proofs.walk.WalkPlanWalk.after.Goals as goal

pub returns-then-self-gt0-clause-plan : goal.returns-then-self-gt0-clause-plan
returns-then-self-gt0-clause-plan c =
    first-open c.args.self c.in-First.is (omega (arith, c.if-self-gt0.true)) c.args.number c.after_product.result
    c.after_product.ensures.after

pub returns-else-self-gt0-clause-plan : goal.returns-else-self-gt0-clause-plan
returns-else-self-gt0-clause-plan c =
    first-closed c.args.self c.in-First.is (omega (arith, c.if-self-gt0.false)) c.args.number

pub returns-in-Second-clause-plan : goal.returns-in-Second-clause-plan
returns-in-Second-clause-plan c =
    second-open c.args.self c.in-Second.is c.args.number c.after_product-in-Second.result
    c.after_product-in-Second.ensures.after

pub returns-in-Price-clause-plan : goal.returns-in-Price-clause-plan
returns-in-Price-clause-plan c = price-after c.args.self c.in-Price.winner c.in-Price.is c.args.number

pub returns-in-Sold-clause-plan : goal.returns-in-Sold-clause-plan
returns-in-Sold-clause-plan c = sold-after c.args.self _ _ c.in-Sold.is c.args.number

pub returns-in-Spent-clause-plan : goal.returns-in-Spent-clause-plan
returns-in-Spent-clause-plan c = spent-after c.args.self c.in-Spent.is c.args.number
