-- Two servers of five watch.
use Rattle.std.specs.Prelude.{ℕ, zero, suc, ◌+◌, ◌==◌, if◌then◌else◌, true}
use Rattle.beet_field.specs.Field.{mul_of, neg_of}
use Rattle.beet_coalition.specs.Coalitions.{Coalition}

-- the number whose product with 1, 2, 3, 4 or 5 is 1
abbrev pub inverse_of : ℕ → ℕ
inverse_of zero = 0
inverse_of (suc zero) = 1
inverse_of (suc (suc zero)) = 1152921504606846976
inverse_of (suc (suc (suc zero))) = 1537228672809129301
inverse_of (suc (suc (suc (suc zero)))) = 576460752303423488
inverse_of (suc (suc (suc (suc (suc n))))) = 1844674407370955161

-- a and b together: the numbers move by (a + b) / (a * b) and by -1 / (a * b)
abbrev pub two_watch : ℕ → ℕ → Coalition
two_watch a b = record {
  watches = λ j. if j == a then true else (j == b);
  factor = λ m.
      if m == 0 then mul_of (a + b) (mul_of (inverse_of a) (inverse_of b))
      else neg_of (mul_of (inverse_of a) (inverse_of b));
}
