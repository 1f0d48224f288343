use Rattle.std.proofs.Common.{inl, inr, sym, ap, ◌∙◌, []}
use Rattle.beet_gates.specs.Plans.{Plan, plan_finish}
use Rattle.beet_plan.specs.declared.Finish.{Finish}
use Rattle.beet_search.proofs.WalkFacts as facts
use Rattle.beet_search.proofs.walk.Walk.finish.Goals as goal

pub returns-then-is_open : goal.returns-then-is_open
returns-then-is_open c = sym (facts.finish-open c.args.self.now c.in-Search.is c.is_open.result c.is_open.ensures c.if-is_open.true)

pub returns-else-is_open : goal.returns-else-is_open
returns-else-is_open c =
    c.finish_end.ensures
    ∙ sym (ap (λ (p : Plan Finish). plan_finish p [])
    (facts.closed-at c.args.self.now c.in-Search.is c.is_open.result c.is_open.ensures c.if-is_open.false))

pub returns-in-Masked : goal.returns-in-Masked
returns-in-Masked c = elim c.in-Masked.is [
  | inl h ↦ sym (facts.finish-masked c.args.self.now h)
  | inr (inl h) ↦ sym (facts.finish-borrow c.args.self.now h.0 h.1)
  | inr (inr h) ↦ sym (facts.finish-supply c.args.self.now h.0 h.1)
]

pub returns-in-Ended : goal.returns-in-Ended
returns-in-Ended c = sym (facts.finish-ended c.args.self.now c.in-Ended.finish c.in-Ended.is)
