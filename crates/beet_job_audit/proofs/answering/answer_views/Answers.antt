use Rattle.beet_job_audit.proofs.AuditSteps.{refused-told}
use Rattle.beet_job_audit.proofs.answering.answer_views.Goals as goal

pub returns-in-Err-clause-answers : goal.returns-in-Err-clause-answers
returns-in-Err-clause-answers g c =
    refused-told c.args.read.now c.in-Err.fault c.refusal.result c.in-Err.ensures.found c.in-Err.ensures.one_run c.refusal.ensures.refuses
    c.refusal.ensures.memory
