use Rattle.std.proofs.Common.{◌∙◌, ap, subst}
use Rattle.beet_sale_file.specs.Sales.{IsSaleRecord}
use Rattle.beet_sale_load.specs.SaleLoading.{SaleRead}
use Rattle.beet_job_sale.proofs.SaleEnds.{of-bidders}
use Rattle.beet_job_sale_pair.specs.Answering.{transcript_of}
use Rattle.beet_job_sale_pair.proofs.SaleAnswers.{replies-agreed}
use Rattle.beet_job_sale_pair.proofs.answering.agreed_reply.Goals as goal

pub sale_reply-requires : goal.sale_reply-requires
sale_reply-requires c =
    let limits = subst (λ (w : SaleRead). IsSaleRecord w.sale) c.first.view_is c.rows.ensures.limits in
    rw (c.in_ok-first_seen.ensures.end, c.rows.ensures.value ∙ ap (λ (w : SaleRead). w.sale.rows) c.first.view_is)
    (of-bidders c.args.first.now limits.size)

pub returns-clause-answer : goal.returns-clause-answer
returns-clause-answer c =
    let first = c.args.first.now in
    replies-agreed c.args.out.now first c.args.second.now.words (transcript_of first.sale first.words c.args.me) _ _ _ _ _ _ _
    c.in_ok-first_seen.ensures.end c.in_ok-first_seen.ensures.rounds c.in_ok-first_seen.ensures.transcript
    (c.in_ok-second_seen.ensures.transcript ∙ c.requires) c.in_ok-words.ensures
    (rw (c.rows.ensures.value ∙ ap (λ (w : SaleRead). w.sale.rows) c.first.view_is) at c.in_ok-reply.ensures) c.in_ok-telling_worlds.ensures
