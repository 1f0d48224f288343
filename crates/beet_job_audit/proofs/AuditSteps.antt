-- How the job `audit` ends, once its files are read.
use Rattle.std.proofs.Common.{◌≢◌, ℕ, List, Some, Result, Ok, Err, IfOk, ap}
use Rattle.beet_store.specs.Files.{Seen}
use Rattle.beet_errand.specs.Errands.{Answer, text_answer}
use Rattle.beet_errand.specs.Fetches.{IsDone, Reads, Refuses}
use Rattle.beet_errand.specs.Tasks.{DoesTask}
use Rattle.beet_errand.proofs.Tasks.{read_value, reading_stops, shown_ends, shown_refused}
use Rattle.beet_errand.specs.declared.answer.OwnRefusal.TheVariants.{OfAudit}
use Rattle.beet_errand.specs.declared.answer.Refusal.TheVariants.{Own}
use Rattle.beet_errand.specs.declared.answer.Status.TheVariants.{Refused as IsRefused}
use Rattle.beet_errand.specs.declared.answer.Stop.{Stop}
use Rattle.beet_errand.specs.declared.answer.Stop.TheVariants.{Refused, OutOfMemory}
use Rattle.beet_audit.specs.Audits.{Finds}
use Rattle.beet_audit.specs.OneRuns.{OneRun}
use Rattle.beet_audit.specs.declared.fault.AuditFault.{AuditFault}
use Rattle.beet_audit.specs.declared.fault.AuditFault.TheVariants.{OutOfMemory as Memory}
use Rattle.beet_job_audit.specs.Reading.{read_errand}
use Rattle.beet_job_audit.specs.Refusals.{fault_text}
use Rattle.beet_job_audit.specs.Ending.{AnswersViews, audit_task}
use Rattle.beet_job_audit.specs.declared.reading.ReadViews.{ReadViews}

-- the files are read, and answered
pub audited : {old now : Seen} (auction one two three : List ℕ) (read : ReadViews) (result : Result Answer Stop) →
    Reads (λ read. read) old now (read_errand auction one two three) (Ok read) →
    IfOk result (λ answer. IsDone answer.status) → AnswersViews read result →
    DoesTask (audit_task auction one two three) old now result
audited auction one two three read (Ok answer) r done h =
    shown_ends answer done (record { value = read; read = read_value r; shown = h }) r.cause
audited auction one two three read (Err (Refused refusal line)) r done h =
    rw h.0 (shown_refused line (record { value = read; read = read_value r; shown = h.1 }) r.cause)
audited auction one two three read (Err OutOfMemory) r done h =
    reading_stops OutOfMemory (λ next. (next r.gives.0, r.gives.2 next)) r.cause r.later

-- others are refused by the line of what is found
pub refused-told : (read : ReadViews) (fault : AuditFault) (stop : Stop) → (fault ≢ Memory → Finds read.grid read.views (Some fault)) →
    (fault ≢ Memory → OneRun read.grid read.views → ⊥) → Refuses (Own OfAudit) (fault_text fault) stop →
    (stop ≢ OutOfMemory → fault ≢ Memory) →
    AnswersViews read (Err stop)
refused-told read fault (Refused refusal line) f o r n =
    let found = n (λ e. absurd (cc e)) in
    (r.0, record { found = Some fault; finds = f found; one_run = o found; is = ap (text_answer (IsRefused (Own OfAudit))) r.1 })
refused-told read fault OutOfMemory f o r n = tt
