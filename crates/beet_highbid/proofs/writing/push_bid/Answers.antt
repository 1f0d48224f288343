use Rattle.std.proofs.Common.{append_assoc}
use Rattle.beet_highbid.proofs.writing.push_bid.Goals as goal

pub returns : goal.returns
returns c =
    rw (
      c.in_ok-push_own.ensures,
      c.in_ok-push_number-2.ensures,
      c.in_ok-push_number.ensures,
      c.mark_of.ensures,
      c.value.ensures.value,
      c.at.ensures,
      c.requires,
    )
    (simp append_assoc)
