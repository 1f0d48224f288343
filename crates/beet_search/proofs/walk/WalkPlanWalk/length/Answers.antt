use Rattle.std.proofs.Common.{sym, ap, ◌∙◌, ◌-◌}
use Rattle.beet_gates.specs.Plans.{plan_length}
use Rattle.beet_search.proofs.WalkFacts as facts
use Rattle.beet_search.proofs.walk.WalkPlanWalk.length.Goals as goal

pub returns-then-is_open : goal.returns-then-is_open
returns-then-is_open c = c.mask_rounds.ensures
    ∙ sym (facts.length-open c.args.self.now c.in-Search.is c.is_open.result c.is_open.ensures c.if-is_open.true)

pub returns-else-is_open : goal.returns-else-is_open
returns-else-is_open c =
    c.end_length.ensures ∙ sym (ap plan_length
    (facts.closed-at c.args.self.now c.in-Search.is c.is_open.result c.is_open.ensures c.if-is_open.false))

pub returns-in-Borrow : goal.returns-in-Borrow
returns-in-Borrow c = ap (λ n. n - 1) c.compare_rounds.ensures
    ∙ sym (facts.length-borrow c.args.self.now c.in-Borrow.field-0 c.in-Borrow.is)
