use Rattle.std.proofs.Common.{append_assoc, ◌∙◌}
use Rattle.beet_job_audit.proofs.refusing.number_text.Goals as goal

pub returns : goal.returns
returns c = c.in_ok-text.ensures.ok ∙ rw (c.value-held.ensures.value, c.value-expected.ensures.value) (simp append_assoc)
