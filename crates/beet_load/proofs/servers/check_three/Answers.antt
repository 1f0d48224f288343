use Rattle.beet_errand.proofs.Frame.{both, first_fails, test_exits}
use Rattle.beet_load.proofs.servers.check_three.Goals as goal

pub returns-in_err-check_counts-clause-tests : goal.returns-in_err-check_counts-clause-tests
returns-in_err-check_counts-clause-tests c = test_exits c.from_residual.ensures.1 (first_fails _ c.in_err-check_counts.ensures.tests)

pub returns-in_err-check_counts-2-clause-tests : goal.returns-in_err-check_counts-2-clause-tests
returns-in_err-check_counts-2-clause-tests c =
    test_exits c.from_residual-in_err-check_counts-2.ensures.1
    (both _ c.in_ok-check_counts.ensures.tests (first_fails _ c.in_err-check_counts-2.ensures.tests))

pub returns-clause-tests : goal.returns-clause-tests
returns-clause-tests c = both _ c.in_ok-check_counts.ensures.tests
    (both _ c.in_ok-check_counts-2.ensures.tests c.check_counts-3.ensures.tests)
