use Rattle.beet_program_laws.proofs.Audits.{audits}
use Rattle.beet_program_laws.proofs.what_audit_says_is_the_end_of_one_run.Goals as goal

pub returns : goal.returns
returns c = λ files auction one two three call done.
    audits files call done.from done.code auction one two three done.runs
