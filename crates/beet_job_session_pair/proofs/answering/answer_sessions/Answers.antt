use Rattle.std.proofs.Common.{arith}
use Rattle.beet_job_session_pair.proofs.KeptLots.{each-enough, start-many}
use Rattle.beet_job_session_pair.proofs.SessionAnswers.{refused-answers, same-answers}
use Rattle.beet_job_session_pair.proofs.answering.answer_sessions.Goals as goal

pub session_map-requires-clause-few : goal.session_map-requires-clause-few
session_map-requires-clause-few g c = rw c.as_slice-books.ensures.value (omega (arith, c.requires.count, c.requires.few))

pub session_map-requires-clause-few_second : goal.session_map-requires-clause-few_second
session_map-requires-clause-few_second g c = rw c.as_slice.ensures.value (omega (arith, c.requires.few_seconds))

pub session_map-requires-clause-many : goal.session_map-requires-clause-many
session_map-requires-clause-many g c =
    rw (c.as_slice-books.ensures.value, c.as_slice-words.ensures.value) (start-many _ _ c.requires.runs)

pub session_map-requires-clause-enough : goal.session_map-requires-clause-enough
session_map-requires-clause-enough g c =
    rw (c.as_slice-books.ensures.value, c.as_slice-words.ensures.value) (each-enough _ _ c.requires.runs)

pub same_reply-requires-clause-mapped : goal.same_reply-requires-clause-mapped
same_reply-requires-clause-mapped g c κs within =
    rw c.as_slice-in-Ok.ensures.value (rw (c.as_slice-books.ensures.value, c.as_slice-words.ensures.value, c.as_slice.ensures.value) at
    c.in-Ok.ensures.mapped)

pub returns-in-Ok : goal.returns-in-Ok
returns-in-Ok g c =
    same-answers c.args.me c.args.both.now c.args.out.now c.same_reply.result c.same_reply.ensures.memory c.same_reply.ensures.shows

pub returns-in-Err : goal.returns-in-Err
returns-in-Err g c =
    refused-answers c.args.me c.args.both.now c.requires.runs c.args.out.now c.in-Err.fault c.refusal.result
    (rw (c.as_slice-books.ensures.value, c.as_slice.ensures.value) at c.in-Err.ensures.refused) c.refusal.ensures

pub same_reply-requires-clause-runs : goal.same_reply-requires-clause-runs
same_reply-requires-clause-runs g c κs within = c.requires.runs

pub same_reply-requires-clause-count : goal.same_reply-requires-clause-count
same_reply-requires-clause-count g c κs within = c.requires.count
