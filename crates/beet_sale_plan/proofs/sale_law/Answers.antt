use Rattle.std.proofs.Common.{◌<◌, ◌^◌, ℕ, slice_index, arith}
use Rattle.std.proofs.lemmas.List.Elements.{All-get_or}
use Rattle.beet_sale_plan.specs.Outcome.{IsBid, IsSale}
use Rattle.beet_sale_plan.specs.Sale.{bidders_of}
use Rattle.beet_sale_plan.specs.SaleRuns.{SaleEnds}
use Rattle.beet_sale_plan.proofs.SaleFacts.{is-sale, kept_of, sale-only, sale-many}
use Rattle.beet_sale_plan.proofs.SaleRun.{sale-run}
use Rattle.beet_sale_plan.proofs.sale_law.Goals as goal

pub returns : goal.returns
returns c sale bids words winner price few len small m is =
    let k = kept_of (slice_index bids) sale.further in
    let found : IsSale bids k.who k.next = is-sale bids sale.further len (omega (arith, len, sale-many bids winner price is)) in
    let same = sale-only bids winner price k.who k.next is found in
    let below : (j : ℕ) → j < bidders_of sale → slice_index bids j < 2 ^ 48 =
    λ j h. let b = All-get_or IsBid bids j 0 (omega (arith, len, h)) small in omega (arith, b) in
    let run : SaleEnds sale bids words k.who k.next = sale-run sale bids words (omega (arith, few)) len below m in
    rw (← same.0, ← same.1) run
