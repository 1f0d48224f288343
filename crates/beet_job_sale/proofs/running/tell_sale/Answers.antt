use Rattle.std.proofs.Common.{ap, length, refl, subst, ◌∙◌}
use Rattle.beet_sale_load.specs.SaleLoading.{SaleRead}
use Rattle.beet_sale_plan.specs.Sale.{IsSaleSize}
use Rattle.beet_job_sale.proofs.SaleEnds.{of-bidders}
use Rattle.beet_job_sale.proofs.running.tell_sale.Goals as goal

pub end_of_sale-end-requires : goal.end_of_sale-end-requires
end_of_sale-end-requires c = (c.args.read.now, c.in_ok-cores.cores, c.in_ok-cores.ensures.held, refl)

pub sale_reply-requires : goal.sale_reply-requires
sale_reply-requires c =
    let told = c.end_of_sale-end.ensures c.args.read.now c.in_ok-cores.cores c.in_ok-cores.ensures.held refl in
    let rows = c.rows.ensures.value ∙ ap (λ (w : SaleRead). w.sale.rows) c.read.view_is in
    rw (told.0, rows)
    (of-bidders c.args.read.now
    (subst (λ (w : SaleRead). IsSaleSize (length w.sale.rows)) c.read.view_is c.rows.ensures.limits.size))

pub returns-clause-tells : goal.returns-clause-tells
returns-clause-tells c =
    let told = c.end_of_sale-end.ensures c.args.read.now c.in_ok-cores.cores c.in_ok-cores.ensures.held refl in
    let rows = c.rows.ensures.value ∙ ap (λ (w : SaleRead). w.sale.rows) c.read.view_is in
    rw (c.in_ok-sale_reply.ensures, told.0, told.1, rows) refl
