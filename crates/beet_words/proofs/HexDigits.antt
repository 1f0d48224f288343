-- Sixteen hexadecimal digits, read by a table and judged at once.
use Rattle.std.proofs.Common.{◌≡◌, ℕ, zero, suc, ◌+◌, ◌*◌, ◌%◌, ◌^◌, ◌<◌, ◌≤◌, ◌==◌, ◌&&◌, if◌then◌else◌, Bool, true}
use Rattle.std.proofs.Common.{List, [], ◌∷◌, length, get_or, Option, Some, None, unwrap_or, option_map, bit_or, Result}
use Rattle.std.proofs.Common.{Ok, Err, is_some, refl, sym, ap, subst, ◌∙◌, arith, inl, inr}
use Rattle.std.specs.Int.{w64, from_be_bytes}
use Rattle.std.specs.List.{AllPass}
use Rattle.std.proofs.lemmas.Bool.{and_parts, cases_eq, eqb-true}
use Rattle.std.proofs.lemmas.List.Elements.{All-head, All-tail}
use Rattle.std.proofs.lemmas.Nat.{le_or_l, le_or_r, mul-le, or_lt}
use Rattle.std.proofs.Math.Nat.{mul_assoc, pow-succ'}
use Rattle.hex.specs.Hex.{decode_of, decode_pairs, hex_digit_value, is_hex_digit, digit_or_error, value_at, pair_value}
use Rattle.hex.specs.declared.error.FromHexError.{FromHexError}
use Rattle.hex.proofs.HexLemmas.{decode_of-ok}
use Rattle.beet_words.specs.declared.digits.TheConstants.{VALUES}
use Rattle.beet_words.specs.Seeds.{bytes_in}
use Rattle.beet_words.specs.TapeFiles.{digits_of}

-- the value of a digit, or one that no digit has
abbrev pub value_of : ℕ → ℕ
value_of c = unwrap_or (hex_digit_value c) 255

-- the table has the values of the bytes below n
abbrev agrees : ℕ → Bool
agrees zero = true
agrees (suc n) = (get_or VALUES n 0 == value_of n) && agrees n

agrees-at : (n c : ℕ) → agrees n ≡ true → c < n → get_or VALUES c 0 ≡ value_of c
agrees-at zero c h lt = absurd (omega arith)
agrees-at (suc n) c h lt =
    let parts = and_parts (get_or VALUES n 0 == value_of n) (agrees n) h in
    elim (cases_eq c n) [
      | inl same ↦ rw same (eqb-true (get_or VALUES n 0) (value_of n) parts.0)
      | inr other ↦ agrees-at n c parts.1 (omega arith)
    ]

-- the table has the value of each byte
pub table_value : (c : ℕ) → c < 256 → get_or VALUES c 0 ≡ value_of c
table_value c lt = agrees-at 256 c refl lt

-- the bits of the values, put to those of n
abbrev pub seen_of : ℕ → List ℕ → ℕ
seen_of n [] = n
seen_of n (c ∷ cs) = seen_of (bit_or n (value_of c)) cs

-- the number that the values write after n
abbrev pub joined : ℕ → List ℕ → ℕ
joined n [] = n
joined n (c ∷ cs) = joined (n * 16 + value_of c) cs

-- the bytes that pairs of values write
abbrev pairs : List ℕ → List ℕ
pairs [] = []
pairs (a ∷ []) = []
pairs (a ∷ b ∷ cs) = (value_of a * 16 + value_of b) ∷ pairs cs

-- numbers that are the same below 2 ^ 64 stay so
pub joined-same : (cs : List ℕ) (m n : ℕ) → m % 2 ^ 64 ≡ n % 2 ^ 64 → joined m cs % 2 ^ 64 ≡ joined n cs % 2 ^ 64
joined-same [] m n h = h
joined-same (c ∷ cs) m n h = joined-same cs (m * 16 + value_of c) (n * 16 + value_of c) (more m n (value_of c) h) where
  more : (m n v : ℕ) → m % 2 ^ 64 ≡ n % 2 ^ 64 → (m * 16 + v) % 2 ^ 64 ≡ (n * 16 + v) % 2 ^ 64
  more m n v h = omega arith

-- more values have no fewer bits
seen-ge : (n : ℕ) (cs : List ℕ) → n ≤ seen_of n cs
seen-ge n [] = omega arith
seen-ge n (c ∷ cs) = omega (arith, le_or_l n (value_of c), seen-ge (bit_or n (value_of c)) cs)

some_of : (o : Option ℕ) → unwrap_or o 255 < 16 → o ≡ Some (unwrap_or o 255)
some_of (Some v) h = refl
some_of None h = absurd (omega arith)

-- values that are all below 16 are those of digits
decode_small : (i : ℕ) (cs : List ℕ) (n : ℕ) → length cs % 2 ≡ 0 → seen_of n cs < 16 → decode_pairs i cs ≡ Ok (pairs cs)
unfolding decode_pairs
decode_small i [] n even small = refl
decode_small i (a ∷ []) n even small = absurd (omega arith)
decode_small i (a ∷ b ∷ cs) n even small =
    let one = bit_or n (value_of a) in
    let two = bit_or one (value_of b) in
    let top : two < 16 = omega (arith, seen-ge two cs) in
    let first : value_of a < 16 = omega (arith, le_or_r n (value_of a), le_or_l one (value_of b)) in
    let second : value_of b < 16 = omega (arith, le_or_r one (value_of b)) in
    let high : value_at a i ≡ Ok (value_of a) = ap (digit_or_error a i) (some_of (hex_digit_value a) first) in
    let low : value_at b (i + 1) ≡ Ok (value_of b) = ap (digit_or_error b (i + 1)) (some_of (hex_digit_value b) second) in
    let pair : pair_value a b i ≡ Ok (value_of a * 16 + value_of b) = rw (high, low) refl in
    let rest = decode_small (i + 2) cs two (omega arith) small in
    rw (pair, rest) refl

digit_small : (o : Option ℕ) → is_some o ≡ true → ((v : ℕ) → o ≡ Some v → v < 16) → unwrap_or o 255 < 16
digit_small (Some v) h below = below v refl
digit_small None h below = cc h

-- the values of digits have no more bits than 15
seen_small : (cs : List ℕ) (n : ℕ) → n < 16 → AllPass is_hex_digit cs → seen_of n cs < 16
seen_small [] n h all = h
seen_small (c ∷ cs) n h all =
    let here : is_hex_digit c ≡ true = All-head (λ x. is_hex_digit x ≡ true) c cs all in
    let value : value_of c < 16 = digit_small (hex_digit_value c) here (λ v e. grind arith) in
    seen_small cs (bit_or n (value_of c)) (or_lt 4 n (value_of c) h value) (All-tail (λ x. is_hex_digit x ≡ true) c cs all)

sixteen : (a b c d e f g h i j k l m n o p : ℕ) → from_be_bytes w64 ((a * 16 + b) ∷ (c * 16 + d)
    ∷ (e * 16 + f) ∷ (g * 16 + h) ∷ (i * 16 + j) ∷ (k * 16 + l) ∷ (m * 16 + n) ∷ (o * 16 + p) ∷ []) ≡
    (((((((((((((((0 * 16 + a) * 16 + b) * 16 + c) * 16 + d) * 16 + e) * 16 + f) * 16 + g) * 16 + h) * 16 + i) * 16 + j)
    * 16 + k) * 16 + l) * 16 + m) * 16 + n) * 16 + o) * 16 + p
sixteen a b c d e f g h i j k l m n o p = omega arith

number_of_pairs : (cs : List ℕ) → length cs ≡ 16 → from_be_bytes w64 (pairs cs) ≡ joined 0 cs
number_of_pairs [] long = absurd (omega arith)
number_of_pairs (a ∷ []) long = absurd (omega arith)
number_of_pairs (a ∷ b ∷ []) long = absurd (omega arith)
number_of_pairs (a ∷ b ∷ c ∷ []) long = absurd (omega arith)
number_of_pairs (a ∷ b ∷ c ∷ d ∷ []) long = absurd (omega arith)
number_of_pairs (a ∷ b ∷ c ∷ d ∷ e ∷ []) long = absurd (omega arith)
number_of_pairs (a ∷ b ∷ c ∷ d ∷ e ∷ f ∷ []) long = absurd (omega arith)
number_of_pairs (a ∷ b ∷ c ∷ d ∷ e ∷ f ∷ g ∷ []) long = absurd (omega arith)
number_of_pairs (a ∷ b ∷ c ∷ d ∷ e ∷ f ∷ g ∷ h ∷ []) long = absurd (omega arith)
number_of_pairs (a ∷ b ∷ c ∷ d ∷ e ∷ f ∷ g ∷ h ∷ i ∷ []) long = absurd (omega arith)
number_of_pairs (a ∷ b ∷ c ∷ d ∷ e ∷ f ∷ g ∷ h ∷ i ∷ j ∷ []) long = absurd (omega arith)
number_of_pairs (a ∷ b ∷ c ∷ d ∷ e ∷ f ∷ g ∷ h ∷ i ∷ j ∷ k ∷ []) long = absurd (omega arith)
number_of_pairs (a ∷ b ∷ c ∷ d ∷ e ∷ f ∷ g ∷ h ∷ i ∷ j ∷ k ∷ l ∷ []) long = absurd (omega arith)
number_of_pairs (a ∷ b ∷ c ∷ d ∷ e ∷ f ∷ g ∷ h ∷ i ∷ j ∷ k ∷ l ∷ m ∷ []) long = absurd (omega arith)
number_of_pairs (a ∷ b ∷ c ∷ d ∷ e ∷ f ∷ g ∷ h ∷ i ∷ j ∷ k ∷ l ∷ m ∷ n ∷ []) long = absurd (omega arith)
number_of_pairs (a ∷ b ∷ c ∷ d ∷ e ∷ f ∷ g ∷ h ∷ i ∷ j ∷ k ∷ l ∷ m ∷ n ∷ o ∷ []) long = absurd (omega arith)
number_of_pairs (a ∷ b ∷ c ∷ d ∷ e ∷ f ∷ g ∷ h ∷ i ∷ j ∷ k ∷ l ∷ m ∷ n ∷ o ∷ p ∷ q ∷ more) long = absurd (omega arith)
number_of_pairs (a ∷ b ∷ c ∷ d ∷ e ∷ f ∷ g ∷ h ∷ i ∷ j ∷ k ∷ l ∷ m ∷ n ∷ o ∷ p ∷ []) long =
    sixteen (value_of a) (value_of b) (value_of c) (value_of d) (value_of e) (value_of f) (value_of g) (value_of h)
    (value_of i) (value_of j) (value_of k) (value_of l) (value_of m) (value_of n) (value_of o) (value_of p)

-- so many digits write a number of so many digits
joined_small : (cs : List ℕ) (n s : ℕ) → seen_of s cs < 16 → joined n cs < (n + 1) * 16 ^ length cs
joined_small [] n s small = omega arith
joined_small (c ∷ cs) n s small =
    let v = value_of c in
    let x = 16 ^ length cs in
    let digit : v < 16 = omega (arith, le_or_r s v, seen-ge (bit_or s v) cs) in
    let rest = joined_small cs (n * 16 + v) (bit_or s v) small in
    let step = mul-le (n * 16 + v + 1) x ((n + 1) * 16) x (omega arith) (omega arith) in
    let power : (n + 1) * 16 * x ≡ (n + 1) * 16 ^ suc (length cs) =
    mul_assoc (n + 1) 16 x ∙ ap (λ y. (n + 1) * y) (sym (pow-succ' 16 (length cs))) in
    let bound : (n * 16 + v + 1) * x ≤ (n + 1) * 16 ^ suc (length cs) = subst (λ y. (n * 16 + v + 1) * x ≤ y) power step in
    omega (arith, rest, bound)

-- sixteen digits have their number
pub digits_good : (cs : List ℕ) (n : ℕ) → length cs ≡ 16 → seen_of 0 cs < 16 → n < 2 ^ 64 →
    n % 2 ^ 64 ≡ joined 0 cs % 2 ^ 64 → digits_of cs ≡ Some n
digits_good cs n long small fits same =
    let bytes : decode_pairs 0 cs ≡ Ok (pairs cs) = decode_small 0 cs 0 (omega arith) small in
    let below : joined 0 cs < 2 ^ 64 = rw long at (joined_small cs 0 0 small) in
    let is : joined 0 cs ≡ n = omega (arith, same, fits, below) in
    rw (long, bytes) (ap (λ m. Some m) (number_of_pairs cs long ∙ is))

-- where a value is above 15, there is another byte than a digit
pub digits_bad : (cs : List ℕ) → length cs ≡ 16 → 16 ≤ seen_of 0 cs → digits_of cs ≡ None
digits_bad cs long large = by (decode_of cs) refl where
  by : (r : Result (List ℕ) FromHexError) → decode_of cs ≡ r →
      (if length cs == 16 then option_map (from_be_bytes w64) (bytes_in r) else None) ≡ None
  by (Ok bytes) e = absurd (omega (arith, seen_small cs 0 (omega arith) (decode_of-ok cs bytes e).1))
  by (Err why) e = rw long refl
