use Rattle.std.proofs.Common.{sym, ap, ◌∙◌, [], Some}
use Rattle.beet_bids.specs.declared.outcomes.Policy.TheVariants.{Price as PriceAlone, Volume, Full}
use Rattle.beet_gates.specs.Plans.{Plan, plan_finish}
use Rattle.beet_plan.specs.declared.Finish.{Finish}
use Rattle.beet_walk.proofs.PlanParts as parts
use Rattle.beet_search.proofs.WalkFacts as facts
use Rattle.beet_search.proofs.walk.Walk.finish_end.Goals as goal

pub returns-in-None : goal.returns-in-None
returns-in-None c = sym (ap (λ (p : Plan Finish). plan_finish p []) (facts.end-past _ _ _ c.in-None.ensures) ∙ parts.ended-finish _)

pub returns-in-Some-Price : goal.returns-in-Some-Price
returns-in-Some-Price c =
    let h = c.in-Some-Price.ensures in
    ap Some c.price_with.ensures
    ∙ sym (ap (λ (p : Plan Finish). plan_finish p [])
    (facts.end-shows _ _ _ PriceAlone (sym c.in-Some-Price.field-0-is ∙ h.1) h.0) ∙ parts.ended-finish _)

pub returns-in-Some-Volume : goal.returns-in-Some-Volume
returns-in-Some-Volume c =
    let h = c.in-Some-Volume.ensures in
    sym (ap (λ (p : Plan Finish). plan_finish p [])
    (facts.end-shows _ _ _ Volume (sym c.in-Some-Volume.field-0-is ∙ h.1) h.0) ∙ parts.last-finish _ 0 _)

pub returns-in-Some-Full : goal.returns-in-Some-Full
returns-in-Some-Full c =
    let h = c.in-Some-Full.ensures in
    sym (ap (λ (p : Plan Finish). plan_finish p [])
    (facts.end-shows _ _ _ Full (sym c.in-Some-Full.field-0-is ∙ h.1) h.0) ∙ parts.last-finish _ 1 _)
