use Rattle.std.proofs.Common.{subst, sym}
use Rattle.beet_plan.specs.FivePlan.{five_batch, most_rounds}
use Rattle.beet_five_world.specs.Members.{AreFresh}
use Rattle.beet_five_tests.proofs.AllFresh.{all-fresh, in-ok}
use Rattle.beet_five_tests.proofs.tests.servers.servers_with.Goals as goal

pub returns : goal.returns
returns g c =
    subst (AreFresh five_batch most_rounds) (sym (in-ok _ c.from_array.result _ c.expect.ensures c.from_array.ensures.items))
    (all-fresh c.script-script.result _ _ _ _ _ c.server-one.ensures c.server-two.ensures c.server-three.ensures
    c.server-four.ensures c.server-five.ensures)
