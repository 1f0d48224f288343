use Rattle.std.proofs.Common.{refl}
use Rattle.beet_errand.proofs.Frame.{bind, exits, given, passed, stopped, tested}
use Rattle.beet_five_load.specs.FiveSettings.{five_setting_errand}
use Rattle.beet_five_load.proofs.setting.read_five_setting.Goals as goal

pub returns-in_err-grid : goal.returns-in_err-grid
unfolding five_setting_errand
returns-in_err-grid g c = exits c.from_residual.ensures.1 (stopped c.in_err-grid.ensures)

pub returns-in_err-script : goal.returns-in_err-script
unfolding five_setting_errand
returns-in_err-script g c =
    exits c.from_residual-in_err-script.ensures.1 (bind c.in_ok-grid.ensures (tested c.in_err-script.ensures.tests))

pub returns-in_err-seeds : goal.returns-in_err-seeds
unfolding five_setting_errand
returns-in_err-seeds g c =
    exits c.from_residual-in_err-seeds.ensures.1
    (bind c.in_ok-grid.ensures (passed c.in_ok-script.ensures.tests (stopped c.in_err-seeds.ensures)))

pub returns-in_err-entries : goal.returns-in_err-entries
unfolding five_setting_errand
returns-in_err-entries g c =
    exits c.from_residual-in_err-entries.ensures.1 (bind c.in_ok-grid.ensures (passed c.in_ok-script.ensures.tests
    (bind c.in_ok-seeds.ensures (stopped c.in_err-entries.ensures.reads))))

pub returns : goal.returns
unfolding five_setting_errand
returns g c =
    bind c.in_ok-grid.ensures (passed c.in_ok-script.ensures.tests
    (bind c.in_ok-seeds.ensures (bind c.in_ok-entries.ensures.reads (given refl))))
