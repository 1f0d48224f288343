use Rattle.std.proofs.Common.{◌≡◌, length}
use Rattle.beet_job_session_pair.proofs.LotsSeen.{SeenBefore}
use Rattle.beet_job_session_pair.proofs.answering.see_lots.Given as goal

abbrev pub invariant-loop-i : goal.invariant-loop-i
invariant-loop-i g l = record {
  words : length l.fn.lots.words.items ≡ length l.fn.rows;
  seconds : length l.fn.seconds ≡ length l.fn.rows;
  mapped : length l.fn.mapped ≡ length l.fn.rows;
  seen : SeenBefore l.fn.me l.fn.rows l.fn.lots.books.items l.fn.lots.words.items l.fn.mapped l.i l.seen;
}
