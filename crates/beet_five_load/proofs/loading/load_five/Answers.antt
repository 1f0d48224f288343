use Rattle.beet_errand.proofs.Frame.{bind, exits, stopped}
use Rattle.beet_five_load.specs.FiveLoading.{five_loaded_errand, five_rest_errand}
use Rattle.beet_five_load.specs.FiveSettings.{five_setting_errand}
use Rattle.beet_five_load.proofs.loading.load_five.Goals as goal

pub returns-in_err-setting : goal.returns-in_err-setting
unfolding five_loaded_errand five_setting_errand five_rest_errand
returns-in_err-setting g c = exits c.from_residual.ensures.1 (stopped {rest = five_rest_errand} c.in_err-setting.ensures)

pub returns : goal.returns
unfolding five_loaded_errand five_setting_errand five_rest_errand
returns g c = bind {rest = five_rest_errand} c.in_ok-setting.ensures c.load_rest-loaded.ensures
