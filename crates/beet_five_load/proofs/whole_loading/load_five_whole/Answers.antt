use Rattle.beet_errand.proofs.Frame.{bind, exits, passed, stopped, tested}
use Rattle.beet_five_load.specs.FiveLoading.{five_limited_errand, five_limited_rest, five_rest_errand}
use Rattle.beet_five_load.specs.FiveSettings.{five_setting_errand}
use Rattle.beet_five_load.proofs.FiveSteps.{for_value}
use Rattle.beet_five_load.proofs.whole_loading.load_five_whole.Goals as goal

pub returns-in_err-setting : goal.returns-in_err-setting
unfolding five_limited_errand five_setting_errand five_rest_errand
returns-in_err-setting g c =
    exits c.from_residual.ensures.1 (stopped {rest = five_limited_rest c.args.files.now.book.now} c.in_err-setting.ensures)

pub returns-in_err-check_product : goal.returns-in_err-check_product
unfolding five_limited_errand five_setting_errand five_rest_errand
returns-in_err-check_product g c =
    exits c.from_residual-in_err-check_product.ensures.1 (bind {rest = five_limited_rest c.args.files.now.book.now} c.in_ok-setting.ensures
    (for_value (five_limited_rest c.args.files.now.book.now) c.setting.view_is
    (tested (rw c.as_slice-entries.ensures.value at c.in_err-check_product.ensures.tests))))

pub returns : goal.returns
unfolding five_limited_errand five_setting_errand five_rest_errand
returns g c =
    bind {rest = five_limited_rest c.args.files.now.book.now} c.in_ok-setting.ensures
    (for_value (five_limited_rest c.args.files.now.book.now) c.setting.view_is
    (passed (rw c.as_slice-entries.ensures.value at c.in_ok-check_product.ensures.tests)
    (rw (← c.setting.view_is) at c.load_whole_rest-whole.ensures)))
