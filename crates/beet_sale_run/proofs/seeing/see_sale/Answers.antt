use Rattle.std.proofs.Common.{refl, ap}
use Rattle.beet_sale_load.specs.SaleLoading.{SaleRead}
use Rattle.beet_sale_run.proofs.Held.{held-seen}
use Rattle.beet_sale_run.proofs.seeing.see_sale.Goals as goal

pub returns-clause-transcript : goal.returns-clause-transcript
returns-clause-transcript c =
    held-seen c.args.whole.now c.in_ok-cores.cores c.in_ok-cores.ensures.held c.args.me c.get.result.now c.get.ensures
    c.in_ok-run.run' (λ o x fits. c.in_ok-run.ensures.run o x fits) c.whole.inside.words.bidders
    (ap (λ (w : SaleRead). w.words.bidders) c.whole.view_is) c.whole.inside.sale (ap (λ (w : SaleRead). w.sale) c.whole.view_is)
    c.in_ok-transcript.field-0.items c.in_ok-transcript.ensures

pub returns-clause-end : goal.returns-clause-end
returns-clause-end c = (c.end_of_sale-end.ensures c.args.whole.now c.in_ok-cores.cores c.in_ok-cores.ensures.held refl).0

pub returns-clause-rounds : goal.returns-clause-rounds
returns-clause-rounds c = (c.end_of_sale-end.ensures c.args.whole.now c.in_ok-cores.cores c.in_ok-cores.ensures.held refl).1
