use Rattle.std.proofs.Common.{append_assoc, ap, ◌∙◌}
use Rattle.beet_book_differences.proofs.refusing.outcomes_line.Goals as goal

pub returns : goal.returns
returns c = ap (λ v. v.items) c.into_bytes.ensures.value
    ∙ (c.in_ok-line.ensures.ok ∙ rw (c.in_ok-one.ensures, c.in_ok-other.ensures) (simp append_assoc))
