use Rattle.beet_five_tests.proofs.AllFresh.{in-ok}
use Rattle.beet_five_tests.proofs.tests.servers.server.Goals as goal

pub returns : goal.returns
returns g c = in-ok _ c.start.result _ c.expect.ensures c.start.ensures
