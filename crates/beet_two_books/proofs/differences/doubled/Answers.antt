use Rattle.std.proofs.Common.{◌≡◌, ◌<◌, ◌%◌, ℕ, ◌∙◌, arith}
use Rattle.beet_field.specs.Field.{p, mul_of, sub_of}
use Rattle.beet_bids.specs.Sums.{supply_at, demand_at}
use Rattle.beet_two_books.proofs.differences.doubled.Goals as goal

reduced : (x n m : ℕ) → x ≡ n % p → n ≡ m → n < p → x ≡ m
reduced x n m e f h = omega arith

pub returns : goal.returns
returns c =
    let s = reduced c.reduce-supply.result c.supply.result (supply_at c.args.book.now.bidders c.args.place)
    c.reduce-supply.ensures c.supply.ensures.value c.supply.ensures.below in
    let d = reduced c.reduce-demand.result c.demand.result (demand_at c.args.book.now.bidders c.args.place)
    c.reduce-demand.ensures c.demand.ensures.value c.demand.ensures.below in
    c.mul.ensures ∙ (λ i. mul_of (c.reduce.ensures i) (c.sub.ensures i)) ∙ (λ i. mul_of 2 (sub_of (s i) (d i)))
