use Rattle.beet_field.specs.declared.point.Point.TheVariants.{One, Two, Three}
use Rattle.beet_audit.specs.Verdicts.{InTurn}
use Rattle.beet_audit.proofs.RoundFacts.{BothTo}
use Rattle.beet_audit.proofs.VerdictFacts.{exits, goes_on, stops}
use Rattle.beet_audit.proofs.messages.check_round.Goals as goal

pub returns-in_err-check_receiver-clause-messages : goal.returns-in_err-check_receiver-clause-messages
returns-in_err-check_receiver-clause-messages c = λ o rounds at lt.
    let both = BothTo o c.args.views.now c.args.round in
    stops (both One) (InTurn (both Two) (both Three)) _ _ c.from_residual.ensures.1
    (c.in_err-check_receiver.ensures.messages o rounds (at One) lt)

pub returns-in_err-check_receiver-2-clause-messages : goal.returns-in_err-check_receiver-2-clause-messages
returns-in_err-check_receiver-2-clause-messages c = λ o rounds at lt.
    let both = BothTo o c.args.views.now c.args.round in
    goes_on (both One) (InTurn (both Two) (both Three)) _ (c.in_ok-check_receiver.ensures.messages o rounds (at One) lt)
    (stops (both Two) (both Three) _ _ c.from_residual-in_err-check_receiver-2.ensures.1
    (c.in_err-check_receiver-2.ensures.messages o rounds (at Two) lt))

pub returns-in_err-check_receiver-3-clause-messages : goal.returns-in_err-check_receiver-3-clause-messages
returns-in_err-check_receiver-3-clause-messages c = λ o rounds at lt.
    let both = BothTo o c.args.views.now c.args.round in
    goes_on (both One) (InTurn (both Two) (both Three)) _ (c.in_ok-check_receiver.ensures.messages o rounds (at One) lt)
    (goes_on (both Two) (both Three) _ (c.in_ok-check_receiver-2.ensures.messages o rounds (at Two) lt)
    (exits (both Three) _ _ c.from_residual-in_err-check_receiver-3.ensures.1
    (c.in_err-check_receiver-3.ensures.messages o rounds (at Three) lt)))

pub returns-clause-messages : goal.returns-clause-messages
returns-clause-messages c = λ o rounds at lt. (
  c.in_ok-check_receiver.ensures.messages o rounds (at One) lt,
  (
    c.in_ok-check_receiver-2.ensures.messages o rounds (at Two) lt,
    c.in_ok-check_receiver-3.ensures.messages o rounds
        (at Three) lt,
  ),
)
