use Rattle.std.proofs.lemmas.Result.{IfOk-weaker}
use Rattle.beet_five_tests.proofs.tests.servers.start.Goals as goal

pub returns : goal.returns
returns g c = IfOk-weaker c.start.result _ _ (λ core is. record {
  inputs = c.points-inputs.result;
  masks = c.tape-masks.result;
  coefficients = c.tape-coefficients.result;
  no_mask = c.tape-masks.ensures;
  no_number = c.tape-coefficients.ensures;
  is = is;
}) c.start.ensures.core
