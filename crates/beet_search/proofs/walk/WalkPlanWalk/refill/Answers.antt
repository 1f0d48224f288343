use Rattle.std.proofs.Common.{add-one, rules, arith, inl, inr, sym, ap, ◌∙◌, []}
use Rattle.beet_gates.specs.Plans.{Plan, plan_batch}
use Rattle.beet_plan.specs.declared.Finish.{Finish}
use Rattle.beet_walk.proofs.PlanParts as parts
use Rattle.beet_search.proofs.WalkFacts as facts
use Rattle.beet_search.proofs.walk.WalkPlanWalk.refill.Goals as goal

pub returns-then-is_open : goal.returns-then-is_open
returns-then-is_open c = rw (facts.batch-open c.args.self.now c.in-Search.is c.is_open.result c.is_open.ensures
    c.if-is_open.true c.args.step) c.refill_mask.ensures

pub returns-else-is_open : goal.returns-else-is_open
returns-else-is_open c =
    c.refill_end.ensures
    ∙ sym (ap (λ (p : Plan Finish). plan_batch p c.args.step [])
    (facts.closed-at c.args.self.now c.in-Search.is c.is_open.result c.is_open.ensures c.if-is_open.false))

pub returns-then-step-eq0 : goal.returns-then-step-eq0
returns-then-step-eq0 c = rw (facts.batch-masked c.args.self.now c.in-Masked.is c.args.step, c.if-step-eq0.true) (search rules)

pub returns-else-step-eq0 : goal.returns-else-step-eq0
returns-else-step-eq0 c =
    rw (facts.batch-masked c.args.self.now c.in-Masked.is c.args.step, parts.past-one _ c.args.step c.if-step-eq0.false) c.set_end.ensures

pub returns-then-step-compare_rounds : goal.returns-then-step-compare_rounds
returns-then-step-compare_rounds c = rw (facts.batch-borrow c.args.self.now c.in-Borrow.c c.in-Borrow.is c.args.step)
    (rw (add-one c.args.step) at c.refill_comparison-then-step-compare_rounds.ensures)

pub returns-else-step-compare_rounds : goal.returns-else-step-compare_rounds
returns-else-step-compare_rounds c = rw (facts.past-borrow c.args.self.now c.in-Borrow.c c.in-Borrow.is c.args.step
    (omega (arith, c.compare_rounds.ensures)))
    c.set_end-else-step-compare_rounds.ensures

pub returns-in-Supply : goal.returns-in-Supply
returns-in-Supply c = elim c.in-Supply.is [
  | inl h ↦ rw (facts.batch-supply c.args.self.now h.0 h.1 c.args.step) (search rules)
  | inr h ↦ rw (facts.batch-ended c.args.self.now h.0 h.1 c.args.step) (search rules)
]
