use Rattle.beet_field.specs.declared.point.Point.TheVariants.{One, Two, Three}
use Rattle.std.proofs.Common.{◌∙◌}
use Rattle.beet_audit.specs.Audits.{Rounds}
use Rattle.beet_audit.specs.Verdicts.{InTurn}
use Rattle.beet_audit.proofs.RoundFacts.{judged-count}
use Rattle.beet_audit.proofs.VerdictFacts.{exits, goes_on, stops}
use Rattle.beet_audit.proofs.messages.check_rounds.Goals as goal

pub returns-in_err-check_count-clause-rounds : goal.returns-in_err-check_count-clause-rounds
returns-in_err-check_count-clause-rounds c = λ rounds at.
    let counts = Rounds c.args.views.now rounds in
    stops (counts One) (InTurn (counts Two) (counts Three)) _ _ c.from_residual.ensures.1
    (judged-count c.in_err-check_count.field-0.0 c.args.views.now One _ rounds
    (at One) c.in_err-check_count.ensures.count)

pub returns-in_err-check_count-2-clause-rounds : goal.returns-in_err-check_count-2-clause-rounds
returns-in_err-check_count-2-clause-rounds c = λ rounds at.
    let counts = Rounds c.args.views.now rounds in
    goes_on (counts One) (InTurn (counts Two) (counts Three)) _ (c.in_ok-check_count.ensures.count ∙ at One)
    (stops (counts Two) (counts Three) _ _ c.from_residual-in_err-check_count-2.ensures.1
    (judged-count c.in_err-check_count-2.field-0.0 c.args.views.now Two _ rounds
    (at Two) c.in_err-check_count-2.ensures.count))

pub returns-in_err-check_count-3-clause-rounds : goal.returns-in_err-check_count-3-clause-rounds
returns-in_err-check_count-3-clause-rounds c = λ rounds at.
    let counts = Rounds c.args.views.now rounds in
    goes_on (counts One) (InTurn (counts Two) (counts Three)) _ (c.in_ok-check_count.ensures.count ∙ at One)
    (goes_on (counts Two) (counts Three) _ (c.in_ok-check_count-2.ensures.count ∙ at Two)
    (exits (counts Three) _ _ c.from_residual-in_err-check_count-3.ensures.1
    (judged-count c.in_err-check_count-3.field-0.0 c.args.views.now Three _ rounds
    (at Three) c.in_err-check_count-3.ensures.count)))

pub returns-clause-rounds : goal.returns-clause-rounds
returns-clause-rounds c = λ rounds at. (
  c.in_ok-check_count.ensures.count ∙ at One,
  (c.in_ok-check_count-2.ensures.count ∙ at Two, c.in_ok-check_count-3.ensures.count ∙ at Three),
)
