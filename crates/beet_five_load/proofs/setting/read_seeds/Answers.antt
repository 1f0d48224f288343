use Rattle.beet_errand.proofs.Frame.{bind, judges}
use Rattle.beet_five_load.proofs.setting.read_seeds.Goals as goal

pub returns : goal.returns
returns g c = bind c.in_ok-bytes.ensures.reads (judges _ _ _ _ (rw c.as_slice.ensures.value at c.read_five_seeds.ensures) c.judge.ensures)
