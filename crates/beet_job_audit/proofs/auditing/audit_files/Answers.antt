use Rattle.std.proofs.lemmas.Result.{err_from_is_err_and}
use Rattle.beet_errand.proofs.Tasks.{unread_stops}
use Rattle.beet_job_audit.proofs.AuditSteps.{audited}
use Rattle.beet_job_audit.specs.declared.reading.ReadViews.{ReadViews}
use Rattle.beet_job_audit.proofs.auditing.audit_files.Goals as goal

pub returns-in_err-read : goal.returns-in_err-read
returns-in_err-read g c =
    let p = err_from_is_err_and c.from_residual.result c.from_residual.ensures.1 in
    rw (p.1, p.2) (unread_stops {T = ReadViews} {view = λ read. read} c.in_err-read.ensures)

pub returns : goal.returns
returns g c =
    audited c.args.files.now.auction.now c.args.files.now.one.now c.args.files.now.two.now c.args.files.now.three.now c.in_ok-read.read
    c.answer_views.result
    c.in_ok-read.ensures c.answer_views.ensures.done c.answer_views.ensures.answers
