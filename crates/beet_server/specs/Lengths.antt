-- How many numbers three servers give together.
use Rattle.std.proofs.Common.{◌≡◌, ◌*◌, ◌++◌, ℕ, List, length, length-append, arith}

pub counted-three : (one two three : List ℕ) → (length two ≡ length one) × (length three ≡ length one) →
    length (one ++ (two ++ three)) ≡ length one * 3
counted-three one two three even =
    omega (arith, even.0, even.1, length-append one (two ++ three), length-append two three)
