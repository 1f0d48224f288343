use Rattle.std.proofs.Common.{◌≡◌, []}
use Rattle.std.proofs.lemmas.Result.{IfOk-weaker}
use Rattle.beet_book.specs.PointSums.{AddsUp}
use Rattle.beet_book.specs.Totals.{none_of}
use Rattle.beet_book.proofs.PointsAdded.{added-none}
use Rattle.beet_gathering.proofs.gathering.TotalsGathers.begin.Goals as goal

pub returns : goal.returns
returns c =
    let grid = c.args.grid.now in
    IfOk-weaker c.new.result (λ totals. totals ≡ none_of grid.prices) (λ totals. AddsUp grid totals [])
    (λ totals e. added-none grid totals e) c.new.ensures
