use Rattle.std.proofs.Common.{arith, option_map}
use Rattle.beet_view.specs.declared.view.Seen.{Seen}
use Rattle.beet_view.proofs.ShownBytes.{one-more}
use Rattle.beet_view.proofs.shown.ShownBidders.push.Goals as goal

pub overflow_add-self : goal.overflow_add-self
overflow_add-self c =
    let seen : Seen = record {
      known = c.args.known;
      points = c.args.points.now;
      own = option_map (λ o. (o.0.now, o.1.now)) c.args.own;
    } in
    let fits = one-more _ seen _ _ c.self.invariant.0 c.in-Ok.ensures.bytes in
    omega (arith, fits, c.self.invariant.1, c.len-bytes.ensures, c.len-bytes.type_inv)
