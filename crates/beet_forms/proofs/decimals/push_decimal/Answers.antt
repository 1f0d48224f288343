use Rattle.beet_forms.proofs.RoundTrip.{number_of-decimal}
use Rattle.beet_forms.proofs.decimals.push_decimal.Goals as goal

pub returns-clause-read_back : goal.returns-clause-read_back
returns-clause-read_back c = λ max within. number_of-decimal c.args.n max c.ranges.n.fits within
