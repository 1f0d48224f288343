use Rattle.std.proofs.Common.{◌-◌}
use Rattle.beet_five_load.specs.FiveWholes.{read_of}
use Rattle.beet_job_five_worlds.proofs.BookAnswers.{agreed-answers}
use Rattle.beet_job_five_worlds.proofs.DifferenceForTwo.{refusal-tells}
use Rattle.beet_job_five_worlds.proofs.FewMapped.{few-mapped}
use Rattle.beet_job_five_worlds.proofs.answering.answer_both.Goals as goal

pub agreed_reply-requires-clause-few : goal.agreed_reply-requires-clause-few
agreed_reply-requires-clause-few c =
    let two = c.args.two in
    few-mapped two.a two.b two.lowest two.order c.args.whole.now.book c.args.second.now c.args.whole.now.words c.in-Ok.mapped
    c.in-Ok.ensures.pair.mapped (record {
      masks = λ j at. c.args.whole.now.few_masks (j - 1);
      coefficients = λ j at. c.args.whole.now.few_coefficients (j - 1);
    })

pub returns-in-Ok : goal.returns-in-Ok
returns-in-Ok c =
    let two = c.args.two in
    agreed-answers two.a two.b c.args.out.now (read_of c.args.whole.now) c.args.second.now two.lowest two.order two.highest
    c.args.whole.now.is_book c.grid-grid.ensures.limits c.in-Ok.mapped c.in-Ok.ensures.agree c.in-Ok.ensures.pair c.agreed_reply.result
    c.agreed_reply.ensures.memory c.agreed_reply.ensures.answer

pub returns-in-Err : goal.returns-in-Err
returns-in-Err c =
    refusal-tells c.args.two.a c.args.two.b c.args.whole.now.book c.args.second.now c.in-Err.fault c.in-Err.ensures.refused
    c.refuse_books.result c.refuse_books.ensures
