use Rattle.std.proofs.Common.{◌≡◌, ◌∙◌, IfOk, ap, subst, sym}
use Rattle.beet_sale_file.specs.Sales.{bids_of}
use Rattle.beet_differences.specs.Comparing.{TellsApart}
use Rattle.beet_sale_load.specs.SaleLoading.{SaleRead}
use Rattle.beet_job_sale_pair.specs.Answering.{agreed_answer, transcript_of}
use Rattle.beet_job_sale_pair.specs.Differences.{difference_between, refused_text}
use Rattle.beet_job_sale_pair.specs.Ending.{AnswersSales}
use Rattle.beet_job_sale_pair.proofs.SaleAnswers.{agreed-answers, refused-answers}
use Rattle.beet_job_sale_pair.proofs.answering.answer_both.Goals as goal

pub sale_map-requires-clause-gates : goal.sale_map-requires-clause-gates
sale_map-requires-clause-gates c = c.requires ∙ sym (ap (λ (w : SaleRead). w.sale.gates) c.first.view_is)

pub sale_map-requires-clause-enough : goal.sale_map-requires-clause-enough
sale_map-requires-clause-enough c = c.first.invariant.enough

pub agreed_reply-reply-requires : goal.agreed_reply-reply-requires
agreed_reply-reply-requires c =
    subst (λ (w : SaleRead).
    transcript_of c.args.second c.in-Ok.words c.args.me ≡ transcript_of w.sale w.words c.args.me)
    c.first.view_is c.in-Ok.ensures.bytes

pub returns-in-Ok : goal.returns-in-Ok
returns-in-Ok c =
    let at : SaleRead = record { sale = c.first.inside.sale; words = c.first.inside.words } in
    let reply = c.agreed_reply-reply.result in
    subst (λ (w : SaleRead).
    IfOk reply (λ answer. answer ≡ agreed_answer c.args.out.now w (transcript_of w.sale w.words c.args.me) c.in-Ok.words) →
    AnswersSales c.args.me c.args.out.now w c.args.second reply)
    c.first.view_is
    (agreed-answers c.args.me c.args.out.now at c.args.second c.in-Ok.words c.in-Ok.ensures.agreed c.in-Ok.ensures.mapped
    c.in-Ok.ensures.bytes c.in-Ok.ensures.only c.in-Ok.ensures.back reply c.agreed_reply-reply.ensures.memory)
    c.agreed_reply-reply.ensures.answer

pub returns-in-Err : goal.returns-in-Err
returns-in-Err c =
    let rows = λ (w : SaleRead). bids_of w.sale.rows in
    subst (λ (w : SaleRead).
    TellsApart refused_text (difference_between c.args.me (rows w) (bids_of c.args.second.rows)) c.refuse_sales.result) c.first.view_is
    (refused-answers c.args.me (bids_of c.first.inside.sale.rows) (bids_of c.args.second.rows) c.in-Err.fault
    c.in-Err.ensures.refused c.refuse_sales.result c.refuse_sales.ensures)
