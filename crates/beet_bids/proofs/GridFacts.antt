-- Places, prices and comparisons.
use Rattle.std.proofs.Common.{◌≡◌, ◌≢◌, ℕ, zero, suc, ◌+◌, ◌-◌, ◌*◌, ◌/◌, ◌%◌, ◌^◌, ◌<◌, ◌≤◌, Bool, true, false, nat_eq}
use Rattle.std.proofs.Common.{Some, None, find, refl, ap, sym, ◌∙◌, arith, inl, inr}
use Rattle.std.specs.List.{range_with_len}
use Rattle.std.specs.Int.Digits.{digits_of}
use lib.Count.{count_leading_zeros}
use Rattle.std.proofs.lemmas.Bool.{cases_lt, cases_eq, cases_Bool, eq-eqb, ne_eqb, cond-true, cond-false}
use Rattle.std.proofs.lemmas.Int.Digits.{number_lt, number_digits_of, all_below_base_digits_of, length-digits_of-le}
use Rattle.std.proofs.Math.Nat.{pow-le-pow_right, pow-suc}
use Rattle.std.proofs.lemmas.Nat.{mod-mul-add, div-mul-add, leading_length}
use Rattle.beet_bids.specs.declared.grid.TheConstants.{MOST_COMPARISONS, MOST_PRICES}
use Rattle.beet_bids.specs.Grids.{Grid, price_of, place_of, comparisons_of}

pub below_comparisons : (n : ℕ) → n < 2 ^ comparisons_of n
unfolding comparisons_of
below_comparisons n =
    let two : 2 ≤ 2 = omega arith in
    let h = number_lt 2 (digits_of 2 n) (all_below_base_digits_of 2 n two) in
    rw (number_digits_of 2 n two) at h

pub comparisons-le : (n k : ℕ) → n < 2 ^ k → comparisons_of n ≤ k
unfolding comparisons_of
comparisons-le n k h = length-digits_of-le 2 k n (omega arith) h

-- a grid has few
pub few_comparisons : (prices : ℕ) → prices ≤ MOST_PRICES → comparisons_of prices ≤ MOST_COMPARISONS
few_comparisons prices h = comparisons-le prices MOST_COMPARISONS (omega arith)

-- the bits of a number from its highest one
pub bits_left : (n above m : ℕ) → above + m ≡ 32 → n < 2 ^ m → 2 ^ m ≤ 2 * n + 1 → 32 - above ≡ comparisons_of n
bits_left n unused m e within least =
    let most : comparisons_of n ≤ m = comparisons-le n m within in
    elim (cases_lt (comparisons_of n) m) [
      | inl short ↦
          (let long : 2 ^ suc (comparisons_of n) ≤ 2 ^ m = pow-le-pow_right {n = 2} (omega arith) (omega arith) in
          absurd (omega (arith, below_comparisons n, pow-suc 2 (comparisons_of n))))
      | inr long ↦ omega arith
    ]

-- no number of a range passes
pub find-range_none : (p : ℕ → Bool) (a n : ℕ) → ((k : ℕ) → a ≤ k → k < a + n → p k ≡ false) → find p (range_with_len a n) ≡ None
find-range_none p a zero off = refl
find-range_none p a (suc n) off =
    cond-false (p a) _ _ (off a (omega arith) (omega arith))
    ∙ find-range_none p (a + 1) n (λ k low high. off k (omega arith) (omega arith))

-- the first number of a range that passes
pub find-range_some : (p : ℕ → Bool) (a n k : ℕ) → a ≤ k → k < a + n → ((j : ℕ) → a ≤ j → j < k → p j ≡ false) → p k ≡ true →
    find p (range_with_len a n) ≡ Some k
find-range_some p a zero k low high before here = absurd (omega arith)
find-range_some p a (suc n) k low high before here =
    elim (cases_eq a k) [
      | inl e ↦ cond-true (p a) _ _ (ap p e ∙ here) ∙ ap Some e
      | inr differ ↦ cond-false (p a) _ _ (before a (omega arith) (omega arith))
          ∙ find-range_some p (a + 1) n k (omega arith) (omega arith) (λ j l b. before j (omega arith) b) here
    ]

-- a number that was found passes
pub find-range_found : (p : ℕ → Bool) (a n k : ℕ) → find p (range_with_len a n) ≡ Some k → (k < a + n) × (p k ≡ true)
find-range_found p a zero k e = absurd (cc)
find-range_found p a (suc n) k e =
    elim (cases_Bool (p a)) [
      | inl on ↦
          (let same : a ≡ k = cc (sym (cond-true (p a) (Some a) (find p (range_with_len (a + 1) n)) on) ∙ e) in
          (omega arith, ap p (sym same) ∙ on))
      | inr off ↦
          (let rest = find-range_found p (a + 1) n k (sym (cond-false (p a) (Some a) (find p (range_with_len (a + 1) n)) off) ∙ e) in
          (omega (arith, rest.0), rest.1))
    ]

-- a price stands at one place
pub place_from_price : (grid : Grid) (k price : ℕ) → 1 ≤ grid.tick → price_of grid k ≡ price →
    ((price - grid.base) % grid.tick ≡ 0) × ((price - grid.base) / grid.tick ≡ k) × (grid.base ≤ price)
place_from_price grid k price some e =
    let above : price - grid.base ≡ k * grid.tick + 0 = omega arith in
    (rw above (mod-mul-add k grid.tick 0 some), rw above (div-mul-add k grid.tick 0 some), omega arith)

-- no other place has the price
pub one_place : (grid : Grid) (j k : ℕ) → 1 ≤ grid.tick → price_of grid j ≡ price_of grid k → j ≡ k
one_place grid j k some e =
    sym (place_from_price grid j (price_of grid k) some e).1 ∙ (place_from_price grid k (price_of grid k) some refl).1

-- where no place has the price, the price has no place
pub place_of-none : (grid : Grid) (price : ℕ) → ((k : ℕ) → k < grid.prices → price_of grid k ≢ price) → place_of grid price ≡ None
place_of-none grid price off =
    find-range_none (λ place. nat_eq (price_of grid place) price) 0 grid.prices (λ k low high. ne_eqb _ _ (off k (omega arith)))

-- a price has the place that has it
pub place_of-some : (grid : Grid) (k price : ℕ) → 1 ≤ grid.tick → k < grid.prices → price_of grid k ≡ price → place_of grid price ≡ Some k
place_of-some grid k price some inside e =
    find-range_some (λ place. nat_eq (price_of grid place) price) 0 grid.prices k (omega arith) (omega arith)
    (λ j low below. ne_eqb (price_of grid j) price (λ same. absurd (omega (arith, one_place grid j k some (same ∙ sym e)))))
    (eq-eqb _ _ e)

pub leading : (n : ℕ) → n < 2 ^ 32 → 32 - count_leading_zeros 32 n ≡ comparisons_of n
leading n h = let m = leading_length 32 n h in bits_left n (count_leading_zeros 32 n) m.0 m.1 m.2 m.3
