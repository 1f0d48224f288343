use Rattle.std.proofs.lemmas.Result.{err_from_is_err_and}
use Rattle.beet_errand.proofs.Tasks.{unread_stops}
use Rattle.beet_job_session_pair.proofs.SessionAnswers.{paired}
use Rattle.beet_job_session_pair.proofs.pairing.pair.Goals as goal

pub returns-in_err-both : goal.returns-in_err-both
returns-in_err-both g c =
    let p = err_from_is_err_and c.from_residual.result c.from_residual.ensures.1 in
    rw (p.1, p.2) (unread_stops c.in_err-both.ensures.reads)

pub returns : goal.returns
returns g c =
    let files = c.args.files.now in
    paired files.first.now files.second.now files.servers.now c.args.server files.out.now c.in_ok-both.both
    c.answer_sessions-reply.result c.in_ok-both.ensures.reads c.answer_sessions-reply.ensures
