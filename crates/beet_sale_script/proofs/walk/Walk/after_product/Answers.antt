use Rattle.std.proofs.Common.{arith}
use Rattle.beet_sale_script.proofs.walk.Walk.after_product.Goals as goal

pub returns-then-value-ne1-clause-fits : goal.returns-then-value-ne1-clause-fits
returns-then-value-ne1-clause-fits c =
    let f = c.requires.fits in
    record {
      some = omega (arith, c.requires.busy, c.requires.open);
      few = f.few;
      spare = f.spare;
      wires = omega (arith, f.wires, c.requires.masked);
      product = f.product;
      tail = omega arith;
    }

pub returns-then-self-eq0-clause-fits : goal.returns-then-self-eq0-clause-fits
returns-then-self-eq0-clause-fits c =
    let f = c.requires.fits in
    record {
      some = omega arith;
      few = f.few;
      spare = f.spare;
      wires = omega (arith, f.wires);
      product = f.product;
      tail = omega arith;
    }
