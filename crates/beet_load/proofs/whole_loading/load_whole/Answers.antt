use Rattle.std.proofs.Common.{None}
use Rattle.beet_load.proofs.SettingSteps.{for_setting}
use Rattle.beet_errand.proofs.Frame.{bind, exits, passed, stopped, tested}
use Rattle.beet_load.specs.Loading.{rest_errand}
use Rattle.beet_load.specs.Settings.{setting_errand}
use Rattle.beet_load.specs.Wholes.{limited_errand, limited_rest}
use Rattle.beet_load.proofs.whole_loading.load_whole.Goals as goal

pub returns-in_err-setting : goal.returns-in_err-setting
unfolding limited_errand setting_errand rest_errand
returns-in_err-setting g c =
    exits c.from_residual.ensures.1 (stopped {rest = limited_rest None 0 c.args.files.now.book.now} c.in_err-setting.ensures)

pub returns-in_err-check_product : goal.returns-in_err-check_product
unfolding limited_errand setting_errand rest_errand
returns-in_err-check_product g c =
    exits c.from_residual-in_err-check_product.ensures.1
    (bind {rest = limited_rest None 0 c.args.files.now.book.now} c.in_ok-setting.ensures
    (for_setting (limited_rest None 0 c.args.files.now.book.now) c.setting.view_is
    (tested (rw c.as_slice-entries.ensures.value at c.in_err-check_product.ensures.tests))))

pub returns : goal.returns
unfolding limited_errand setting_errand rest_errand
returns g c =
    bind {rest = limited_rest None 0 c.args.files.now.book.now} c.in_ok-setting.ensures
    (for_setting (limited_rest None 0 c.args.files.now.book.now) c.setting.view_is
    (passed (rw c.as_slice-entries.ensures.value at c.in_ok-check_product.ensures.tests)
    (rw c.as_slice-entries.ensures.value at c.load_whole_rest-whole.ensures)))
