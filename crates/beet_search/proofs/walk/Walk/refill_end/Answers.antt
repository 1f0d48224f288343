use Rattle.std.proofs.Common.{sym, ◌∙◌, ◌≡◌, rules, arith}
use Rattle.beet_bids.specs.declared.outcomes.Policy.TheVariants.{Price as PriceAlone, Volume, Full}
use Rattle.beet_walk.proofs.PlanParts as parts
use Rattle.beet_search.proofs.WalkFacts as facts
use Rattle.beet_search.proofs.walk.Walk.refill_end.Goals as goal

pub returns-then-step-gt0 : goal.returns-then-step-gt0
returns-then-step-gt0 c = rw (facts.end-later c.args.self.now.policy c.args.self.now.prices c.args.self.now.lo
    c.args.step c.if-step-gt0.true) (search rules)

pub returns-in-Some-Volume : goal.returns-in-Some-Volume
returns-in-Some-Volume c =
    let h = c.in-Some-Volume.ensures in
    let first : c.args.step ≡ 0 = omega arith in
    rw (facts.end-shows _ _ _ Volume (sym c.in-Some-Volume.field-0-is ∙ h.1) h.0, parts.last-batch _ _ _ c.args.step, first) (search rules)

pub returns-in-Some-Full : goal.returns-in-Some-Full
returns-in-Some-Full c =
    let h = c.in-Some-Full.ensures in
    let first : c.args.step ≡ 0 = omega arith in
    rw (facts.end-shows _ _ _ Full (sym c.in-Some-Full.field-0-is ∙ h.1) h.0, parts.last-batch _ _ _ c.args.step, first) (search rules)

pub returns-in-None : goal.returns-in-None
returns-in-None c = rw (facts.end-past _ _ _ c.in-None.ensures, parts.ended-batch _ c.args.step) (search rules)

pub returns-in-Some-Price : goal.returns-in-Some-Price
returns-in-Some-Price c =
    let h = c.in-Some-Price.ensures in
    rw (facts.end-shows _ _ _ PriceAlone (sym c.in-Some-Price.field-0-is ∙ h.1) h.0, parts.ended-batch _ c.args.step) (search rules)
