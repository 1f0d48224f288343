-- How many numbers five servers give together.
use Rattle.std.proofs.Common.{◌≡◌, ◌*◌, ◌++◌, ℕ, List, length, length-append, arith}
use Rattle.beet_linear_sharing.specs.Sharings.{joined}
use Rattle.beet_weights.specs.Quadratics.{servers}
use Rattle.beet_five_server.specs.Parts.{by_sender}

pub counted-five : (one two three four five : List ℕ) → (length two ≡ length one) × (length three ≡ length one)
    × (length four ≡ length one) × (length five ≡ length one) →
    length (joined (by_sender one two three four five) servers) ≡ length one * 5
counted-five one two three four five even =
    omega (
      arith,
      even.0,
      even.1,
      even.2,
      even.3,
      length-append one (two ++ (three ++ (four ++ five))),
      length-append two (three ++ (four ++ five)),
      length-append three (four ++ five),
      length-append four five,
    )
