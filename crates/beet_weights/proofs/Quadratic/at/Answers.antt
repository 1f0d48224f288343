use Rattle.std.proofs.Common.{◌≡◌, ◌+◌, ◌*◌, ◌%◌, arith, refl}
use Rattle.beet_field.specs.Field.{p}
use Rattle.beet_field.proofs.Modular.{mul_same}
use Rattle.beet_weights.proofs.Quadratic.at.Goals as goal

pub returns : goal.returns
returns c =
    let i = c.args.i in
    let a = c.args.self in
    let r : c.reduce_u64-i.result % p ≡ i % p = omega (arith, c.reduce_u64-i.ensures) in
    let e = mul_same a.second c.reduce_u64-i.result a.second i refl r in
    let f = mul_same c.add.result c.reduce_u64-i.result (a.second * i + a.first) i (omega (arith, c.add.ensures, c.mul.ensures, e)) r in
    omega (arith, c.add-2.ensures, c.mul-2.ensures, f)
