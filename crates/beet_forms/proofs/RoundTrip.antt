-- A printed number is read back, and what is read is what is printed.
use Rattle.std.proofs.Common.{◌≡◌, ℕ, zero, suc, ◌<◌, ◌≤◌, ◌^◌, List, length, get_or, Bool, true, false, nat_lt, ◌==◌}
use Rattle.std.proofs.Common.{◌&&◌, if◌then◌else◌, not, decimal, Result, Ok, Err, IfOk, arith, rules, refl, ◌∙◌, ap}
use Rattle.std.proofs.Common.{sym, subst}
use Rattle.std.specs.List.{list_all}
use Rattle.std.specs.Char.{is_ascii_digit}
use Rattle.std.proofs.lemmas.Str.Parse.{IsNumeralModel, numerals_by_fold}
use Rattle.std.proofs.lemmas.Fmt.{decimal-digits_value, digits_decimal, digits_value-decimal, decimal_nonempty}
use Rattle.std.proofs.lemmas.Fmt.{first_decimal, decimal_digit}
use Rattle.std.proofs.lemmas.Bool.{ltb-false}
use Rattle.std.proofs.lemmas.Bool.Decides.{nat_tests}
use Rattle.beet_forms.specs.Numbers.{read_on, number_of}
use Rattle.beet_forms.specs.declared.decimals.NumberFault.{NumberFault}
use Rattle.beet_forms.specs.declared.decimals.NumberFault.TheVariants.{Empty, NotDigit, LeadingZero, TooLarge}

own : IsNumeralModel (λ ds. list_all is_ascii_digit ds ≡ true) (read_on 0)
own = numerals_by_fold _ (search rules) read_on (search rules)

-- the outcome where no test fails
passes : (ds : List ℕ) (max : ℕ) → (length ds == 0) ≡ false → list_all is_ascii_digit ds ≡ true →
    (nat_lt 1 (length ds) && (get_or ds 0 0 == 48)) ≡ false → nat_lt max (read_on 0 ds) ≡ false → number_of ds max ≡ Ok (read_on 0 ds)
passes ds max a b c d = rw (a, b, c, d) refl

plain_first : (n : ℕ) → n < 2 ^ 64 → (nat_lt 1 (length (decimal n)) && (get_or (decimal n) 0 0 == 48)) ≡ false
plain_first zero h = rw (decimal_digit 0 (omega arith)) refl
plain_first (suc n) h =
    let first = first_decimal (suc n) (omega arith) h in
    later (nat_lt 1 (length (decimal (suc n)))) (get_or (decimal (suc n)) 0 0) first where
      later : (b : Bool) (x : ℕ) → 48 < x → (b && (x == 48)) ≡ false
      later true x h = grind (arith, nat_tests)
      later false x h = refl

-- a printed number is read back
pub number_of-decimal : (n max : ℕ) → n < 2 ^ 64 → n ≤ max → number_of (decimal n) max ≡ Ok n
number_of-decimal n max h k =
    let value = digits_value-decimal own n h in
    let some = decimal_nonempty n h in
    passes (decimal n) max (grind (arith, nat_tests)) (digits_decimal own n h) (plain_first n h)
    (rw value (grind (arith, nat_tests))) ∙ ap Ok value

single : (n x : ℕ) → (n == 0) ≡ false → (nat_lt 1 n && (x == 48)) ≡ false → x ≡ 48 → n ≡ 1
single n x some plain e = grind (arith, nat_tests)

-- a text that is read as a number
record IsNumeral (ds : List ℕ) (max n : ℕ) : Type 0 where
  some : (length ds == 0) ≡ false
  digits : list_all is_ascii_digit ds ≡ true
  plain : (nat_lt 1 (length ds) && (get_or ds 0 0 == 48)) ≡ false
  small : nat_lt max (read_on 0 ds) ≡ false
  value : read_on 0 ds ≡ n

is-numeral : (ds : List ℕ) (max n : ℕ) → number_of ds max ≡ Ok n → IsNumeral ds max n
is-numeral ds max n e =
    by (length ds == 0) (list_all is_ascii_digit ds) (nat_lt 1 (length ds) && (get_or ds 0 0 == 48)) (nat_lt max (read_on 0 ds))
    refl refl refl refl e where
      by : (a b c d : Bool) → (length ds == 0) ≡ a → list_all is_ascii_digit ds ≡ b →
          (nat_lt 1 (length ds) && (get_or ds 0 0 == 48)) ≡ c → nat_lt max (read_on 0 ds) ≡ d →
          (if a then Err Empty else if not b then Err NotDigit else if c then Err LeadingZero else if d then
          Err TooLarge else Ok (read_on 0 ds)) ≡ Ok n →
          IsNumeral ds max n
      by true b c d some digits plain small e = cc e
      by false false c d some digits plain small e = cc e
      by false true true d some digits plain small e = cc e
      by false true false true some digits plain small e = cc e
      by false true false false some digits plain small e =
          record { some = some; digits = digits; plain = plain; small = small; value = cc e }

-- a number that is read is at most the maximum
pub number-within : (ds : List ℕ) (max n : ℕ) → number_of ds max ≡ Ok n → n ≤ max
number-within ds max n e =
    let is = is-numeral ds max n e in subst (λ (m : ℕ). m ≤ max) is.value (ltb-false max (read_on 0 ds) is.small)

-- what is read is what is printed of it
pub decimal-number_of : (ds : List ℕ) (max n : ℕ) → max < 2 ^ 64 → number_of ds max ≡ Ok n → decimal n ≡ ds
decimal-number_of ds max n h e =
    let is = is-numeral ds max n e in
    let some : (length ds == 0) ≡ false = is.some in
    let value : read_on 0 ds ≡ n = is.value in
    let small : n ≤ max = number-within ds max n e in
    ap decimal (sym value) ∙ decimal-digits_value own ds is.digits (grind (arith, nat_tests))
    (single (length ds) (get_or ds 0 0) some is.plain) (omega (arith, value, small, h))

-- the same of the answer that is this number, or a fault
pub printed_again : (ds : List ℕ) (max : ℕ) (answer : Result ℕ NumberFault) → max < 2 ^ 64 → answer ≡ number_of ds max →
    IfOk answer (λ n. decimal n ≡ ds)
printed_again ds max (Ok n) h e = decimal-number_of ds max n h (sym e)
printed_again ds max (Err fault) h e = tt
