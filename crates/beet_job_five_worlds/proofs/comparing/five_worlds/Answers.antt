use Rattle.std.proofs.lemmas.Result.{err_from_is_err_and}
use Rattle.beet_five_load.specs.FiveWholes.{read_of}
use Rattle.beet_job_five_worlds.proofs.JobSteps.{answered-both, unread}
use Rattle.beet_job_five_worlds.proofs.comparing.five_worlds.Goals as goal

pub returns-in_err-whole : goal.returns-in_err-whole
returns-in_err-whole g c =
    let files = c.args.files.now in
    let two = c.args.watchers in
    let p = err_from_is_err_and c.from_residual.result c.from_residual.ensures.1 in
    let r = c.in_err-whole.ensures.reads in
    rw (p.1, p.2) (unread files.auction.now files.servers.now files.first.now files.second.now two.a two.b files.out.now
    (record { gives = r.gives; cause = r.cause; later = r.later }))

pub returns : goal.returns
returns g c =
    let files = c.args.files.now in
    let two = c.args.watchers in
    let read = c.in_ok-whole.ensures in
    let r = read.reads in
    answered-both files.auction.now files.servers.now files.first.now files.second.now two.a two.b files.out.now
    (read_of c.in_ok-whole.whole) c.in_ok-whole.second read.grid c.answer_both-reply.result
    (record { gives = r.gives; cause = r.cause; later = r.later }) c.answer_both-reply.ensures
