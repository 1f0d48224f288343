use Rattle.std.proofs.Common.{◌≡◌, ◌+◌, ◌-◌, length, arith}
use Rattle.beet_sale_plan.proofs.SaleFacts.{is-sale, sale-only}
use Rattle.beet_sale_plan.proofs.outcome_law.Goals as goal

pub returns : goal.returns
returns c bids many =
    let count : length bids ≡ length bids - 1 + 1 = omega (arith, many) in
    let s = is-sale bids (length bids - 1) count (omega (arith, many)) in
    (_, _, s, λ winner price t. sale-only bids _ _ winner price s t)
