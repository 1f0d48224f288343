use Rattle.std.proofs.Common.{refl, ◌∙◌}
use Rattle.beet_transcripts.proofs.BookRuns.{ends-book, inputs-enough, tapes-enough, view-for}
use Rattle.beet_job_record.proofs.Recorded.{answer-book}
use Rattle.beet_job_record.proofs.recording.reply_for.Goals as goal

pub run_servers-requires-clause-enough : goal.run_servers-requires-clause-enough
run_servers-requires-clause-enough g c = λ lifetimes outlive.
    let whole = c.args.whole in
    let h = c.in_ok-begun.ensures in
    tapes-enough whole.book whole.words h.book whole.runs _ h.grid _ h.inputs _ h.tapes

pub run_servers-requires-clause-inputs : goal.run_servers-requires-clause-inputs
run_servers-requires-clause-inputs g c = λ lifetimes outlive.
    let whole = c.args.whole in
    let h = c.in_ok-begun.ensures in
    inputs-enough whole.book whole.words h.book whole.runs _ h.grid _ h.inputs _ h.tapes

pub reply_of_run-requires-clause-run : goal.reply_of_run-requires-clause-run
reply_of_run-requires-clause-run g c = λ lifetimes outlive. (_, _, c.in_ok-cores.ensures.ended)

pub returns-clause-reply : goal.returns-clause-reply
returns-clause-reply g c =
    let whole = c.args.whole in
    let h = c.in_ok-begun.ensures in
    let ran = c.in_ok-cores.ensures.ended in
    c.in_ok-reply_of_run.ensures _ _ _ _ (record {
      ran = ran;
      ends = ends-book whole.book whole.words h.book whole.runs _ h.grid _ h.inputs _ h.tapes ran.starts.are_masks;
    })
    ∙ answer-book c.args.out.now whole _ _ _ _ whole.runs.lists h.grid
    (λ s. view-for whole.book whole.words h.book whole.runs _ h.grid _ h.inputs _ h.tapes s _ (h.seen s refl))
