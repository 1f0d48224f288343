use Rattle.std.proofs.Common.{◌≡◌, rules}
use Rattle.beet_forms.specs.Numbers.{number_of}
use Rattle.beet_forms.proofs.RoundTrip.{printed_again}
use Rattle.beet_forms.proofs.decimals.number.Goals as goal

pub returns-clause-printed : goal.returns-clause-printed
returns-clause-printed c =
    let e : c.ok_or.result ≡ number_of c.args.digits.now c.args.max = search rules in
    printed_again c.args.digits.now c.args.max c.ok_or.result c.ranges.max.fits e
