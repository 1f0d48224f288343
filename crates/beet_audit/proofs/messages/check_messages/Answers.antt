use Rattle.std.proofs.Common.{◌<◌, None, arith}
use Rattle.beet_field.specs.declared.point.Point.TheVariants.{One}
use Rattle.beet_audit.specs.Audits.{RoundMessages}
use Rattle.beet_audit.proofs.VerdictFacts.{below_next, stops_at}
use Rattle.beet_audit.proofs.messages.check_messages.Goals as goal

pub returns-in_err-check_round-clause-messages : goal.returns-in_err-check_round-clause-messages
returns-in_err-check_round-clause-messages c = λ o rounds at.
    let end = c.loop-round.invariant.end in
    let lt : c.loop-round.round < rounds = omega (arith, c.loop-round-test.true, end, (at One).round) in
    stops_at rounds (RoundMessages o c.args.views.now) _ c.loop-round.round _ lt
    (λ k less. c.loop-round.invariant.right o rounds at k less (omega (arith, less, lt)))
    c.from_residual.ensures.1 (c.in_err-check_round.ensures.messages o rounds at lt)

pub loop-round-preserved : goal.loop-round-preserved
loop-round-preserved c = record {
  end = c.loop-round.invariant.end;
  right = λ o rounds at. below_next (λ k. k < rounds → RoundMessages o c.args.views.now k None) c.loop-round.round
      (c.loop-round.invariant.right o rounds at)
      (λ lt. c.in_ok-check_round.ensures.messages o rounds at lt);
}

pub returns-clause-messages : goal.returns-clause-messages
returns-clause-messages c = λ o rounds at k lt.
    c.loop-round.invariant.right o rounds at k
    (omega (arith, lt, c.loop-round-test.false, c.loop-round.invariant.end, (at One).round)) lt
