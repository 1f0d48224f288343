use Rattle.std.proofs.Common.{◌≡◌, ℕ, ◌+◌, ◌*◌, ap, length, ◌∙◌, arith}
use Rattle.beet_gates.specs.Levels.{wire_of}
use Rattle.beet_gates.specs.Linears.{two_terms}
use Rattle.beet_gates.proofs.EachFacts.{length-each}
use Rattle.beet_compare.proofs.set_last_level.Goals as goal

pub set_last_product-requires-clause-room : goal.set_last_product-requires-clause-room
set_last_product-requires-clause-room c =
    let less = wire_of c.level_less.result in
    let one : length c.add_level_lets.new.lets.items ≡ 1 =
    ap length c.add_level_lets.ensures ∙ length-each (λ (i : ℕ). two_terms 0 (1, less (2 * i + 1)) (1, c.args.first + 360 + 2 * i)) 1 in
    omega (arith, one)
