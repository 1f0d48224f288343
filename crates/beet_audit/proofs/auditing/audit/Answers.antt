use Rattle.beet_audit.specs.Audits.{Header}
use Rattle.beet_audit.specs.Verdicts.{InTurn}
use Rattle.beet_audit.proofs.AuditFacts.{AllMessages, AllRounds, AllTapes, Bidders, Headers, judged-finish, judged-one}
use Rattle.beet_audit.proofs.AuditFacts.{judged-rounds, not-one}
use Rattle.beet_audit.proofs.VerdictFacts.{each-server, goes_on, stops}
use Rattle.beet_audit.proofs.auditing.audit.Goals as goal

pub returns-in_err-check_headers-clause-found : goal.returns-in_err-check_headers-clause-found
returns-in_err-check_headers-clause-found g c =
    let grid = c.args.grid.now in
    let v = c.args.views.now in
    stops (Headers grid v) (InTurn (Bidders grid v) (InTurn (AllTapes grid v) (InTurn (AllRounds grid v) (AllMessages grid v)))) _ _
    c.from_residual.ensures.1 c.in_err-check_headers.ensures.headers

pub returns-in_err-check_headers-clause-one_run : goal.returns-in_err-check_headers-clause-one_run
returns-in_err-check_headers-clause-one_run g c =
    not-one c.args.grid.now c.args.views.now _ _ c.from_residual.ensures.1 (returns-in_err-check_headers-clause-found g c)

pub sum_bidders-requires-clause-fit : goal.sum_bidders-requires-clause-fit
sum_bidders-requires-clause-fit g c = λ lifetimes outlive.
    each-server (Header c.args.grid.now c.args.views.now) c.in_ok-check_headers.ensures.headers

pub returns-in_err-totals-clause-found : goal.returns-in_err-totals-clause-found
returns-in_err-totals-clause-found g c =
    let grid = c.args.grid.now in
    let v = c.args.views.now in
    goes_on (Headers grid v) (InTurn (Bidders grid v) (InTurn (AllTapes grid v) (InTurn (AllRounds grid v) (AllMessages grid v)))) _
    c.in_ok-check_headers.ensures.headers
    (stops (Bidders grid v) (InTurn (AllTapes grid v) (InTurn (AllRounds grid v) (AllMessages grid v))) _ _
    c.from_residual-in_err-totals.ensures.1 c.in_err-totals.ensures.bidders)

pub returns-in_err-totals-clause-one_run : goal.returns-in_err-totals-clause-one_run
returns-in_err-totals-clause-one_run g c =
    not-one c.args.grid.now c.args.views.now _ _ c.from_residual-in_err-totals.ensures.1
    (returns-in_err-totals-clause-found g c)

pub returns-in_err-totals-2-clause-found : goal.returns-in_err-totals-2-clause-found
returns-in_err-totals-2-clause-found g c =
    let grid = c.args.grid.now in
    let v = c.args.views.now in
    goes_on (Headers grid v) (InTurn (Bidders grid v) (InTurn (AllTapes grid v) (InTurn (AllRounds grid v) (AllMessages grid v)))) _
    c.in_ok-check_headers.ensures.headers
    (goes_on (Bidders grid v) (InTurn (AllTapes grid v) (InTurn (AllRounds grid v) (AllMessages grid v))) _
    c.in_ok-totals.ensures.bidders
    (stops (AllTapes grid v) (InTurn (AllRounds grid v) (AllMessages grid v)) _ _ c.from_residual-in_err-totals-2.ensures.1
    (rw c.in_err-totals-2.ensures at c.check_tapes.ensures.tapes)))

pub returns-in_err-totals-2-clause-one_run : goal.returns-in_err-totals-2-clause-one_run
returns-in_err-totals-2-clause-one_run g c =
    not-one c.args.grid.now c.args.views.now _ _ c.from_residual-in_err-totals-2.ensures.1 (returns-in_err-totals-2-clause-found g c)

pub run_again-requires-clause-sums : goal.run_again-requires-clause-sums
run_again-requires-clause-sums g c = rw c.in_ok-totals-2.ensures.0 c.in_ok-totals.ensures.sums

pub returns-clause-found : goal.returns-clause-found
returns-clause-found g c =
    let grid = c.args.grid.now in
    let v = c.args.views.now in
    goes_on (Headers grid v) (InTurn (Bidders grid v) (InTurn (AllTapes grid v) (InTurn (AllRounds grid v) (AllMessages grid v)))) _
    c.in_ok-check_headers.ensures.headers
    (goes_on (Bidders grid v) (InTurn (AllTapes grid v) (InTurn (AllRounds grid v) (AllMessages grid v))) _
    c.in_ok-totals.ensures.bidders
    (goes_on (AllTapes grid v) (InTurn (AllRounds grid v) (AllMessages grid v)) _
    (rw c.in_ok-totals-2.ensures.1 at c.check_tapes.ensures.tapes)
    (c.compare-audited.ensures.found grid c.in_ok-cores.ensures.ran)))

pub returns-clause-one_run : goal.returns-clause-one_run
returns-clause-one_run g c =
    judged-one c.args.grid.now c.args.views.now c.in_ok-check_headers.ensures.limits
    c.in_ok-totals.ensures.elements c.compare-audited.result (returns-clause-found g c)

pub returns-clause-finish : goal.returns-clause-finish
returns-clause-finish g c =
    judged-finish c.args.grid.now c.args.views.now c.in_ok-check_headers.ensures.limits
    c.in_ok-totals.ensures.elements c.compare-audited.result c.in_ok-cores.cores
    (returns-clause-found g c) c.in_ok-cores.ensures.ran c.compare-audited.ensures.finish

pub returns-clause-rounds : goal.returns-clause-rounds
returns-clause-rounds g c =
    judged-rounds c.args.grid.now c.args.views.now c.in_ok-check_headers.ensures.limits
    c.in_ok-totals.ensures.elements c.compare-audited.result c.in_ok-cores.cores
    (returns-clause-found g c) c.in_ok-cores.ensures.ran c.compare-audited.ensures.finish c.compare-audited.ensures.rounds
