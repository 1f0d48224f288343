use Rattle.std.proofs.Common.{arith}
use Rattle.beet_view.proofs.ViewBytes.{view_in-bytes}
use Rattle.beet_view.proofs.reading.read_view.Goals as goal

pub returns-clause-bytes : goal.returns-clause-bytes
returns-clause-bytes c =
    view_in-bytes c.args.bytes.now c.in_ok-view.view (λ i. omega (arith, c.type_inv.bytes i)) c.in_ok-view.ensures.view
