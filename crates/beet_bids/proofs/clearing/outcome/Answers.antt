use Rattle.std.proofs.Common.{◌≡◌, arith, ap, refl, ◌∙◌}
use Rattle.beet_bids.specs.Grids.{Grid}
use Rattle.beet_bids.specs.Outcomes.{clearing_place}
use Rattle.beet_bids.proofs.BookSums.{reached-none}
use Rattle.beet_bids.proofs.clearing.outcome.Goals as goal

pub returns-then-place-prices : goal.returns-then-place-prices
returns-then-place-prices c =
    let all : c.prices.result ≡ c.args.book.now.grid.prices =
    c.prices.ensures.value ∙ ap (λ (grid : Grid). grid.prices) c.grid-grid.ensures.value in
    let past : clearing_place c.args.book.now ≡ c.args.book.now.grid.prices = omega (arith, all, c.clearing_place-place.ensures.value) in
    rw (reached-none c.args.book.now past) refl
