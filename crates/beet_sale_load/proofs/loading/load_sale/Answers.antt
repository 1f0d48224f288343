use Rattle.std.proofs.Common.{refl}
use Rattle.beet_errand.proofs.Frame.{bind, exits, given, handed, stopped}
use Rattle.beet_sale_load.specs.SaleLoading.{sale_errand}
use Rattle.beet_sale_load.proofs.loading.load_sale.Goals as goal

pub returns-in_err-sale : goal.returns-in_err-sale
unfolding sale_errand
returns-in_err-sale g c = exits c.from_residual.ensures.1 (stopped c.in_err-sale.ensures)

pub returns-in_err-sale-2 : goal.returns-in_err-sale-2
unfolding sale_errand
returns-in_err-sale-2 g c =
    exits c.from_residual-in_err-sale-2.ensures.1
    (bind c.in_ok-sale.ensures (stopped (handed c.in_err-sale-2.ensures c.read_sources.ensures)))

pub returns-in_err-sale-3 : goal.returns-in_err-sale-3
unfolding sale_errand
returns-in_err-sale-3 g c =
    exits c.from_residual-in_err-sale-3.ensures.1
    (bind c.in_ok-sale.ensures (bind (handed c.in_ok-sale-2.ensures.1 c.read_sources.ensures)
    (stopped (handed c.in_err-sale-3.ensures (rw c.in_ok-sale-2.ensures.0 at c.load_words-words.ensures.reads)))))

pub returns : goal.returns
unfolding sale_errand
returns g c =
    bind c.in_ok-sale.ensures (bind (handed c.in_ok-sale-2.ensures.1 c.read_sources.ensures)
    (bind (handed c.in_ok-sale-3.ensures.1 (rw c.in_ok-sale-2.ensures.0 at c.load_words-words.ensures.reads))
    (given (rw (c.in_ok-sale-3.ensures.0, c.in_ok-sale-2.ensures.0) refl))))
