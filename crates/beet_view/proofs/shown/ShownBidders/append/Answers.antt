use Rattle.std.proofs.Common.{arith, ap, ◌++◌, ◌∙◌}
use Rattle.beet_view.proofs.ShownBytes.{others-more}
use Rattle.beet_view.proofs.shown.ShownBidders.append.Goals as goal

pub overflow_add-self : goal.overflow_add-self
overflow_add-self c =
    let longer =
    c.in_ok-extend_from_slice.ensures.items
    ∙ ap (λ more. c.self.inside.bytes.items ++ more) c.deref.ensures.value in
    let fits = others-more _ _ _ _ _ c.self.invariant.0 c.others.invariant.0 longer in
    omega (arith, fits, c.self.invariant.1, c.others.invariant.1, c.len-bytes.ensures, c.len-bytes.type_inv)
