-- What a level does to values of segments: where each item of a list has the value of its segment, so has each item of the next list.
use Rattle.std.proofs.Common.{◌≡◌, ℕ, ◌+◌, ◌-◌, ◌*◌, ◌/◌, ◌<◌, ◌≤◌, inl, inr, refl, ap, ◌∙◌, arith}
use Rattle.std.specs.Prelude.{min, nat_lt, true, false}
use Rattle.std.proofs.lemmas.Bool.{cases_lt}
use Rattle.std.proofs.lemmas.Nat.{mul-le}
use Rattle.std.proofs.lemmas.Bool.Decides.{nat_tests}
use Rattle.beet_gates.specs.Levels.{next_length, next_item}

-- item k of n items, each of which covers `wide` of the places below `end`, has the value of its segment
pub record Covers {A : Type 0} (F : ℕ → ℕ → A) (end wide n : ℕ) (value : ℕ → A) : Type 0 where
  pub whole : end ≤ wide * n
  pub at : (k : ℕ) → k < n → value k ≡ F (min (wide * k) end) (min (wide * (k + 1)) end)

-- the value of a segment is that of its two parts
abbrev pub Splits : {A : Type 0} → (A → A → A) → (ℕ → ℕ → A) → Type 0
Splits op F = (a b c : ℕ) → a ≤ b → b ≤ c → op (F a b) (F b c) ≡ F a c

module _ {A : Type 0} (op : A → A → A) (F : ℕ → ℕ → A) (splits : Splits op F) where
  -- one level
  pub next-covers : (end wide n : ℕ) (value result : ℕ → A) → Covers F end wide n value →
      ((k : ℕ) → k < n / 2 → result k ≡ op (value (2 * k)) (value (2 * k + 1))) →
      Covers F end (2 * wide) (next_length n) (next_item n value result)
  next-covers end wide n value result h each_result =
      let half = n / 2 in
      let enough : wide * n ≤ wide * (2 * next_length n) = mul-le wide n wide (2 * next_length n) (omega arith) (omega arith) in
      record {
        whole = omega (arith, h.whole, enough);
        at = λ k l. elim (cases_lt k half) [
          | inl below ↦
              let t : nat_lt k half ≡ true = grind (arith, nat_tests) in
              let a = min (wide * (2 * k)) end in
              let b = min (wide * (2 * k + 1)) end in
              let c = min (wide * (2 * k + 1 + 1)) end in
              let first : value (2 * k) ≡ F a b = h.at (2 * k) (omega (arith, below)) in
              let second : value (2 * k + 1) ≡ F b c = h.at (2 * k + 1) (omega (arith, below)) in
              let start : a ≡ min (2 * wide * k) end = ap (λ n. min n end) (omega arith) in
              let stop : c ≡ min (2 * wide * (k + 1)) end = ap (λ n. min n end) (omega arith) in
              let parts : op (value (2 * k)) (value (2 * k + 1)) ≡ op (F a b) (F b c) = rw (first, second) refl in
              rw (← start, ← stop, t) (each_result k below ∙ parts ∙ splits a b c (omega arith) (omega arith))
          | inr past ↦
              let t : nat_lt k half ≡ false = grind (arith, nat_tests) in
              let last : n - 1 ≡ 2 * k = omega (arith, past, l) in
              let reach : wide * n ≡ wide * (2 * k + 1) = ap (λ m. wide * m) (omega (arith, past, l)) in
              let start : min (wide * (2 * k)) end ≡ min (2 * wide * k) end = ap (λ m. min m end) (omega arith) in
              let stop : min (wide * (2 * k + 1)) end ≡ min (2 * wide * (k + 1)) end = omega (arith, h.whole, reach) in
              rw (← start, ← stop, t, last) (h.at (2 * k) (omega (arith, past, l)))
        ];
      }

-- the last item has the value of the whole
pub covers-one : {A : Type 0} (F : ℕ → ℕ → A) → (end wide : ℕ) (value : ℕ → A) → Covers F end wide 1 value → value 0 ≡ F 0 end
covers-one F end wide value h =
    let start : min (wide * 0) end ≡ 0 = omega arith in
    let stop : min (wide * (0 + 1)) end ≡ end = omega (arith, h.whole) in
    rw (start, stop) at (h.at 0 (omega arith))
