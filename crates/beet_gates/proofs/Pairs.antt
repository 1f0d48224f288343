-- Each item of a list stands in exactly one pair, or is carried.
use Rattle.std.proofs.Common.{◌≡◌, ℕ, ◌/◌, ◌%◌, ◌<◌, ◌⊎◌, inl, inr, arith}
use Rattle.std.proofs.lemmas.Bool.{cases_lt}
use Rattle.beet_gates.specs.Levels.{places_of_pair, IsInPair, IsPaired, IsCarried}

-- an item of a pair is one of two
in-pair : (k i : ℕ) → IsInPair k (places_of_pair i) → k / 2 ≡ i
in-pair k i h = elim h [ inl e ↦ omega (arith, e) | inr e ↦ omega (arith, e) ]

of-pair : (k : ℕ) → IsInPair k (places_of_pair (k / 2))
of-pair k = elim (cases_lt (k % 2) 1) [ inl e ↦ inl (omega (arith, e)) | inr e ↦ inr (omega (arith, e)) ]

pub paired-or-carried : (n k : ℕ) → k < n → IsPaired n k ⊎ IsCarried n k
paired-or-carried n k h = elim (cases_lt (k / 2) (n / 2)) [
  | inl there ↦ inl (record { pair = k / 2; there = there; stands = of-pair k; only = λ i s. omega (arith, in-pair k i s) })
  | inr past ↦ inr (record {
    odd = omega (arith, past);
    last = omega (arith, past);
    unpaired = λ i l s. omega (arith, in-pair k i s, past);
  })
]
