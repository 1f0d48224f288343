use Rattle.beet_five_load.proofs.RestSteps.{same-servers}
use Rattle.beet_five_load.proofs.servers.read_servers.Goals as goal

pub returns : goal.returns
returns g c =
    same-servers _ _ c.setting.view_is (rw (c.as_slice.ensures, c.five_wants-wanted.ensures) at c.read_seeded_servers.ensures)
