use Rattle.std.proofs.Common.{List, ℕ, ◌∙◌, ap, sym}
use Rattle.beet_field.specs.declared.trio.Trio.{Trio}
use Rattle.beet_bids.specs.Grids.{Grid}
use Rattle.beet_errand.specs.Errands.{Answer, Step, gives}
use Rattle.beet_errand.proofs.Frame.{bound, exits, given, no_memory, stopped}
use Rattle.beet_load.specs.Servers.{ServerWords}
use Rattle.beet_run.proofs.StatusFacts.{status-done}
use Rattle.beet_gathering.proofs.PointRuns.{many}
use Rattle.beet_job_witness.specs.Witness.{kept_job, witnessed_answer}
use Rattle.beet_job_witness.proofs.Witnessed.{answer-witnessed, ends-kept}
use Rattle.beet_job_witness.proofs.witnessing.witness_entries.Goals as goal

-- what comes after the words and the bidders
abbrev rest : List ℕ → Grid → Trio ServerWords × List (Trio (List ℕ)) → Step Answer
rest out grid sealed = gives (witnessed_answer out grid sealed.0 sealed.1)

pub returns-in_err-servers-clause-reads : goal.returns-in_err-servers-clause-reads
unfolding kept_job
returns-in_err-servers-clause-reads g c =
    let setting = c.args.setting.now in
    exits c.from_residual.ensures.1 (stopped {rest = rest setting.out.now setting.grid.now} c.in_err-servers.ensures.reads)

pub run_servers-requires-clause-inputs : goal.run_servers-requires-clause-inputs
run_servers-requires-clause-inputs g c = λ lifetimes outlive.
    let read = c.in_ok-servers.ensures.reads.gives in
    many c.args.setting.now.grid.now c.in_ok-servers.kept.totals read.0.1 c.inputs.result read.1.1.taken.sums c.inputs.ensures.points

pub reply_of_run-requires-clause-run : goal.reply_of_run-requires-clause-run
reply_of_run-requires-clause-run g c = λ lifetimes outlive. (_, _, c.in_ok-cores.ensures.ended)

pub returns-in_err-cores-clause-reads : goal.returns-in_err-cores-clause-reads
unfolding kept_job
returns-in_err-cores-clause-reads g c =
    let setting = c.args.setting.now in
    exits c.from_residual-in_err-cores.ensures.1 (rw c.in_err-cores.ensures.memory
    (bound {rest = rest setting.out.now setting.grid.now} c.in_ok-servers.ensures.reads (λ sealed is. no_memory)))

pub returns-in_err-reply_of_run-clause-reads : goal.returns-in_err-reply_of_run-clause-reads
unfolding kept_job
returns-in_err-reply_of_run-clause-reads g c =
    let setting = c.args.setting.now in
    exits c.from_residual-in_err-reply_of_run.ensures.1
    (bound {rest = rest setting.out.now setting.grid.now} c.in_ok-servers.ensures.reads (λ sealed is. no_memory))

pub returns-clause-reads : goal.returns-clause-reads
unfolding kept_job
returns-clause-reads g c =
    let words = c.in_ok-servers.servers in
    let kept = c.in_ok-servers.kept in
    let ran = c.in_ok-cores.ensures.ended in
    let grid = c.args.setting.now.grid.now in
    let out = c.args.setting.now.out.now in
    bound {rest = rest out grid} c.in_ok-servers.ensures.reads (λ sealed is. given
    (ap (λ (w : Trio ServerWords). witnessed_answer out grid w sealed.1) is.0
    ∙ sym (c.in_ok-reply_of_run.ensures _ words _ _ (record {
      ran = ran;
      ends = ends-kept grid kept.totals kept.seen sealed.1 is.1.taken c.inputs.result c.inputs.ensures.points words ran.starts.are_masks;
    })
    ∙ answer-witnessed grid kept.totals kept.seen sealed.1 is.1.taken c.inputs.result c.inputs.ensures.points words out)))

pub returns-clause-done : goal.returns-clause-done
returns-clause-done g c =
    let ran = c.in_ok-cores.ensures.ended in
    let read = c.in_ok-servers.ensures.reads.gives in
    let kept = c.in_ok-servers.kept in
    let made = c.in_ok-reply_of_run.ensures _ _ _ _ (record {
      ran = ran;
      ends = ends-kept c.args.setting.now.grid.now kept.totals kept.seen read.0.1 read.1.1.taken c.inputs.result
          c.inputs.ensures.points _ ran.starts.are_masks;
    }) in
    rw (ap (λ (answer : Answer). answer.status) made) (status-done _)
