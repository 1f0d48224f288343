use Rattle.beet_job_session_pair.proofs.SessionAnswers.{shows-same}
use Rattle.beet_lot_map.proofs.LotSteps.{views-same}
use Rattle.beet_job_session_pair.proofs.KeptLots.{start-many}
use Rattle.beet_job_session_pair.proofs.answering.same_reply.Goals as goal

pub returns-clause-shows : goal.returns-clause-shows
returns-clause-shows g c =
    let both = c.args.both.now in
    shows-same c.args.me both c.requires.runs c.args.out.now c.args.mapped.now c.in_ok-seen.seen c.in_ok-into_reply.field-0
    c.requires.mapped
    (views-same c.args.me both.lots.books.items both.lots.words.items both.seconds.items c.args.mapped.now
    (start-many both.lots.books.items both.lots.words.items c.requires.runs) c.requires.mapped)
    (rw c.rows.ensures.lots at c.in_ok-seen.ensures.seen) c.in_ok-into_reply.ensures

pub see_lots-requires-clause-runs : goal.see_lots-requires-clause-runs
see_lots-requires-clause-runs g c κs within = c.requires.runs

pub see_lots-requires-clause-count : goal.see_lots-requires-clause-count
see_lots-requires-clause-count g c κs within = rw c.rows.ensures.lots c.requires.count

pub see_lots-requires-clause-mapped : goal.see_lots-requires-clause-mapped
see_lots-requires-clause-mapped g c κs within = rw c.as_slice-seconds.ensures.value c.requires.mapped
