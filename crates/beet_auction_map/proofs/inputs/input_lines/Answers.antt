use Rattle.std.proofs.Common.{◌*◌, length, ap, ◌∙◌, arith}
use Rattle.beet_bids.specs.Grids.{Grid}
use Rattle.beet_gates.specs.Each.{each}
use Rattle.beet_gates.proofs.EachFacts.{length-each}
use Rattle.beet_auction_map.specs.InputLines.{summed_slope}
use Rattle.beet_auction_map.proofs.InputFacts.{input-lines}
use Rattle.beet_auction_map.proofs.inputs.input_lines.Goals as goal

pub lines_with-requires : goal.lines_with-requires
lines_with-requires c =
    let sums = c.as_slice.ensures.value ∙ c.in_ok-slopes.ensures in
    let many = length-each (summed_slope c.args.words.now) (2 * c.prices-prices.result) in
    omega (arith, ap length sums, many, c.prices-prices.ensures.value, ap (λ (x : Grid). x.prices) c.grid.ensures.value)

pub returns : goal.returns
returns c =
    let sums = c.as_slice.ensures.value ∙ c.in_ok-slopes.ensures ∙ ap (λ n. each (summed_slope c.args.words.now)
    (2 * n)) (c.prices-prices.ensures.value ∙ ap (λ (x : Grid). x.prices) c.grid.ensures.value) in
    input-lines c.args.book.now c.args.words.now c.in_ok-lines.lines.items c.as_slice.result.now c.grid.ensures.limits c.requires sums
    c.in_ok-lines.ensures.values c.in_ok-lines.ensures.slopes
