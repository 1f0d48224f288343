use Rattle.std.proofs.Common.{◌≡◌, ℕ, ◌+◌, ◌-◌, ap, ◌∙◌, arith}
use Rattle.beet_plan.specs.Auction.{search_plan}
use Rattle.beet_search.specs.Walk.{blocks_among}
use Rattle.beet_search.specs.declared.walk.Stage.TheVariants.{Search}
use Rattle.beet_search.proofs.WalkFacts as facts
use Rattle.beet_search.proofs.walk.Walk.after_product.Goals as goal

pub returns-else-self-eq0-clause-plan : goal.returns-else-self-eq0-clause-plan
returns-else-self-eq0-clause-plan c =
    let w = c.args.self in
    let g = blocks_among w.dealers in
    let one : c.args.product ≡ 1 = omega (arith, c.value.ensures.value) in
    facts.stage-is (record w { first = w.first + c.mask_wires.result; spare = w.spare - 1 }) Search c.requires.search
    ∙ ap (λ (k : ℕ). search_plan g w.policy w.prices w.left w.lo w.hi (w.spare - 1) (w.first + k)) c.mask_wires.ensures.value
    ∙ facts.again-plan g w.policy w.prices w.left w.lo w.hi w.spare w.first c.requires.open.0 c.requires.open.1
    c.args.product one c.if-self-eq0.false
