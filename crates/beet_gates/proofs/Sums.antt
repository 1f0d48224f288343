-- The value of a let as one sum.
use Rattle.std.proofs.Common.{◌≡◌, ℕ, ◌+◌, ◌*◌, ◌%◌, List, slice_index, arith}
use Rattle.beet_gates.specs.Clear.{let_of, weighed}
use Rattle.beet_gates.specs.Linears.{three_terms}

-- a let is the sum of its constant and its three products, modulo p
pub value-three_terms : (wires : List ℕ) (c : ℕ) (x y z : ℕ × ℕ) →
    let_of wires (three_terms c x y z)
    ≡ (c + x.0 * slice_index wires x.1 + y.0 * slice_index wires y.1 + z.0 * slice_index wires z.1) % 2305843009213693951
unfolding weighed
value-three_terms wires c x y z = omega arith
