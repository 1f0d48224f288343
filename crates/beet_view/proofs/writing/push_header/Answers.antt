use Rattle.std.proofs.Common.{append_assoc}
use Rattle.beet_view.proofs.writing.push_header.Goals as goal

pub returns-clause-bytes : goal.returns-clause-bytes
returns-clause-bytes c =
    rw (
      c.in_ok-push_number-2.ensures,
      c.in_ok-push_grid.ensures.bytes,
      c.in_ok-push_number.ensures,
      c.in_ok-push_magic.ensures,
      c.number.ensures,
    )
    (simp append_assoc)
