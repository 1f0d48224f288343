use Rattle.std.proofs.Common.{append_assoc, ap, ◌∙◌}
use Rattle.beet_differences.proofs.refusing.bidder_line.Goals as goal

pub returns : goal.returns
returns c = ap (λ v. v.items) c.into_bytes.ensures.value ∙ (c.in_ok-line.ensures.ok ∙ simp append_assoc)
