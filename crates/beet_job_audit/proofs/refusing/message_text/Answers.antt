use Rattle.std.proofs.Common.{append_assoc, ◌∙◌}
use Rattle.beet_job_audit.proofs.refusing.message_text.Goals as goal

pub returns : goal.returns
returns c = c.in_ok-text.ensures.ok ∙ rw (c.number-sender.ensures, c.number-receiver.ensures) (simp append_assoc)
