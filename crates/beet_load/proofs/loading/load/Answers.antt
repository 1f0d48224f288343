use Rattle.std.proofs.Common.{None}
use Rattle.beet_load.proofs.SettingSteps.{for_setting}
use Rattle.beet_load.specs.Loading.{loaded_errand, rest_errand}
use Rattle.beet_load.specs.Settings.{setting_errand}
use Rattle.beet_errand.proofs.Frame.{bind, exits, stopped}
use Rattle.beet_load.proofs.loading.load.Goals as goal

pub returns-in_err-setting : goal.returns-in_err-setting
unfolding loaded_errand setting_errand rest_errand
returns-in_err-setting g c = exits c.from_residual.ensures.1 (stopped {rest = rest_errand None} c.in_err-setting.ensures)

pub returns : goal.returns
unfolding loaded_errand setting_errand rest_errand
returns g c =
    bind {rest = rest_errand None} c.in_ok-setting.ensures
    (for_setting (rest_errand None) c.setting.view_is (rw c.as_slice.ensures.value at c.load_rest-loaded.ensures))
