use Rattle.beet_audit.specs.Audits.{RoundMessages, Rounds, rounds_of, run_of}
use Rattle.beet_audit.specs.Verdicts.{EachBelow, EachServer}
use Rattle.beet_audit.proofs.VerdictFacts.{exits, goes_on, stops}
use Rattle.beet_audit.proofs.auditing.compare.Goals as goal

pub returns-in_err-check_rounds-clause-found : goal.returns-in_err-check_rounds-clause-found
returns-in_err-check_rounds-clause-found c = λ grid ran.
    let views = c.args.views.now in
    let rounds = rounds_of grid views in
    stops (EachServer (Rounds views rounds)) (EachBelow rounds (RoundMessages (run_of grid views) views)) _ _ c.from_residual.ensures.1
    (c.in_err-check_rounds.ensures.rounds rounds (λ s. (ran.stands s).round))

pub returns-in_err-check_messages-clause-found : goal.returns-in_err-check_messages-clause-found
returns-in_err-check_messages-clause-found c = λ grid ran.
    let views = c.args.views.now in
    let rounds = rounds_of grid views in
    let messages = EachBelow rounds (RoundMessages (run_of grid views) views) in
    goes_on (EachServer (Rounds views rounds)) messages _
    (c.in_ok-check_rounds.ensures.rounds rounds (λ s. (ran.stands s).round))
    (exits messages _ _ c.from_residual-in_err-check_messages.ensures.1
    (c.in_err-check_messages.ensures.messages (run_of grid views) rounds ran.stands))

pub returns-clause-found : goal.returns-clause-found
returns-clause-found c = λ grid ran.
    let views = c.args.views.now in
    let rounds = rounds_of grid views in (
      c.in_ok-check_rounds.ensures.rounds rounds (λ s. (ran.stands s).round),
      c.in_ok-check_messages.ensures.messages
          (run_of grid views) rounds ran.stands,
    )
