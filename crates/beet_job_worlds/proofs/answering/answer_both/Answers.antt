use Rattle.beet_job_worlds.proofs.BookAnswers.{agreed-answers, refused-answers}
use Rattle.beet_job_worlds.proofs.SecondWords.{can-run, same-transcripts}
use Rattle.beet_job_worlds.proofs.answering.answer_both.Goals as goal

pub agreed_reply-requires-clause-second_runs : goal.agreed_reply-requires-clause-second_runs
agreed_reply-requires-clause-second_runs g c lives within =
    can-run c.args.me c.args.first.book c.args.second c.args.first.words c.in-Ok.mapped c.args.first.runs c.requires
    c.in-Ok.ensures.mapped c.in-Ok.ensures.enough

pub agreed_reply-requires-clause-same : goal.agreed_reply-requires-clause-same
agreed_reply-requires-clause-same g c lives within =
    same-transcripts c.args.me c.args.first.book c.args.second c.args.first.words c.in-Ok.mapped c.args.first.runs
    (can-run c.args.me c.args.first.book c.args.second c.args.first.words c.in-Ok.mapped c.args.first.runs c.requires
    c.in-Ok.ensures.mapped c.in-Ok.ensures.enough)
    c.in-Ok.ensures.bytes

pub returns-in-Ok : goal.returns-in-Ok
returns-in-Ok g c =
    agreed-answers c.args.me c.args.out.now c.args.first.book c.args.first.words c.args.second c.in-Ok.mapped
    c.in-Ok.ensures.agreed c.in-Ok.ensures.mapped
    (same-transcripts c.args.me c.args.first.book c.args.second c.args.first.words c.in-Ok.mapped c.args.first.runs
    (can-run c.args.me c.args.first.book c.args.second c.args.first.words c.in-Ok.mapped c.args.first.runs c.requires
    c.in-Ok.ensures.mapped c.in-Ok.ensures.enough)
    c.in-Ok.ensures.bytes)
    c.in-Ok.ensures.only c.in-Ok.ensures.back
    c.agreed_reply.result c.agreed_reply.ensures.memory c.agreed_reply.ensures.answer

pub returns-in-Err : goal.returns-in-Err
returns-in-Err g c =
    refused-answers c.args.me c.args.first.book c.args.second c.in-Err.fault
    c.in-Err.ensures.refused c.refuse_books.result c.refuse_books.ensures
