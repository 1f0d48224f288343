-- What a part that was read is known to be.
use Rattle.std.proofs.Common.{◌≡◌, ℕ, zero, suc, ◌+◌, ◌≤◌, Bool, true, false, ◌||◌, if◌then◌else◌, ltb, List, [], ◌∷◌}
use Rattle.std.proofs.Common.{length, All, AllPairs, Ok, Err, refl, sym, ap, subst, arith}
use Rattle.std.specs.Result.{is_ok}
use Rattle.std.proofs.lemmas.Bool.{true≢false, ltb-false, or_parts}
use Rattle.std.proofs.lemmas.List.Elements.{All-nil, All-cons}
use Rattle.std.proofs.lemmas.List.Kept.{AllPairs-cons}
use Rattle.beet_forms.specs.Faults.{Fault, Reading}
use Rattle.beet_words.specs.declared.fields.Allowed.{Allowed}
use Rattle.beet_words.specs.Fields.{◌>>=◌, Part, eight_bytes_at, at_offset, number_at, times, counted_at}
use Rattle.beet_bids.specs.declared.curve.TheConstants.{LARGEST_QUANTITY}
use Rattle.beet_view.specs.declared.quantities.Course.{Course}
use Rattle.beet_view.specs.declared.quantities.Course.TheVariants.{Falling, Rising}
use Rattle.beet_view.specs.Transcripts.{allowed_after, quantities_at}

-- the value that was read, or another one
abbrev value_or : {A : Type 0} → A → Reading A → A
value_or other (Ok value) = value
value_or other (Err fault) = other

-- a value as a reading
abbrev read_as : {A : Type 0} → A → Reading A
read_as value = Ok value

-- one reading has one value
pub same_value : {A : Type 0} (x y : A) → read_as x ≡ read_as y → x ≡ y
same_value x y e = ap (value_or x) e

-- what holds of one holds of the other
pub value_has : {A : Type 0} (P : A → Type 0) (x y : A) → read_as x ≡ read_as y → P x → P y
value_has P x y e h = subst P (same_value x y e) h

pub no_value : {A : Type 0} (fault : Fault) (value : A) → Err fault ≡ Ok value → ⊥
no_value fault value e = true≢false (sym (ap is_ok e))

-- two steps with a value
pub record Steps {A B : Type 0} (first : Reading A) (next : A → Reading B) (value : B) : Type 0 where
  pub between : A
  pub one : first ≡ Ok between
  pub two : next between ≡ Ok value

pub steps_of : {A B : Type 0} (first : Reading A) (next : A → Reading B) (value : B) → (first >>= next) ≡ Ok value → Steps first next value
steps_of (Ok x) next value e = record { between = x; one = refl; two = e }
steps_of (Err fault) next value e = absurd (no_value fault value e)

-- a number that was read is neither cut off nor outside
chosen : (short outside : Bool) (a b : Fault) (v r : ℕ × ℕ) →
    (if short then Err a else if outside then Err b else Ok v) ≡ Ok r →
    (outside ≡ false) × (v ≡ r)
chosen true outside a b v r e = absurd (no_value a r e)
chosen false true a b v r e = absurd (no_value b r e)
chosen false false a b v r e = (refl, same_value v r e)

-- a number that was read is within its limits
pub number_at-within : (bytes : List ℕ) (allowed : Allowed) (at : ℕ) (read : ℕ × ℕ) →
    number_at bytes allowed at ≡ Ok read →
    (allowed.low ≤ read.0) × (read.0 ≤ allowed.high)
number_at-within bytes allowed at read e =
    let n = eight_bytes_at bytes at in
    let is = chosen (ltb (length bytes) (at + 8)) (ltb n allowed.low || ltb allowed.high n)
    (at_offset at allowed.truncated) (at_offset at allowed.outside) (n, at + 8) read e in
    let both = or_parts (ltb n allowed.low) (ltb allowed.high n) is.0 in
    let number : n ≡ read.0 = ap (λ (r : ℕ × ℕ). r.0) is.1 in
    (rw (← number) (ltb-false n allowed.low both.0), rw (← number) (ltb-false allowed.high n both.1))

-- so many items, each as it should be
pub record AreAll {A : Type 0} (P : A → Type 0) (count : ℕ) (items : List A) : Type 0 where
  pub many : length items ≡ count
  pub each : All P items

-- so many parts were read, each with what is known of a part
pub times-all : {A : Type 0} (part : Part A) (P : A → Type 0) (count at : ℕ) (read : List A × ℕ) →
    ((offset : ℕ) (one : A × ℕ) → part offset ≡ Ok one → P one.0) →
    times count part at ≡ Ok read →
    AreAll P count read.0
unfolding times
times-all {A} part P zero at read each e =
    value_has (λ (r : List A × ℕ). AreAll P zero r.0) ([], at) read e (record { many = refl; each = All-nil P })
times-all {A} part P (suc count) at read each e =
    let first = steps_of (part at) (λ first. times count part first.1 >>= λ others. Ok (first.0 ∷ others.0, others.1)) read e in
    let others = steps_of (times count part first.between.1) (λ others. Ok (first.between.0 ∷ others.0, others.1)) read first.two in
    let rest = times-all part P count first.between.1 others.between each others.one in
    value_has (λ (r : List A × ℕ). AreAll P (suc count) r.0) (first.between.0 ∷ others.between.0, others.between.1) read others.two
    (record { many = ap suc rest.many; each = All-cons P first.between.0 others.between.0 (each at first.between first.one) rest.each })

-- from so many to so many items, each as it should be
pub record AreWithin {A : Type 0} (P : A → Type 0) (allowed : Allowed) (items : List A) : Type 0 where
  pub low : allowed.low ≤ length items
  pub high : length items ≤ allowed.high
  pub each : All P items

-- a counted list was read
pub counted_at-all : {A : Type 0} (bytes : List ℕ) (allowed : Allowed) (part : Part A) (P : A → Type 0) (at : ℕ) (read : List A × ℕ) →
    ((offset : ℕ) (one : A × ℕ) → part offset ≡ Ok one → P one.0) →
    counted_at bytes allowed part at ≡ Ok read →
    AreWithin P allowed read.0
unfolding counted_at
counted_at-all bytes allowed part P at read each e =
    let count = steps_of (number_at bytes allowed at) (λ count. times count.0 part count.1) read e in
    let items = times-all part P count.between.0 count.between.1 read each count.two in
    let within = number_at-within bytes allowed at count.between count.one in
    record { low = omega (arith, within.0, items.many); high = omega (arith, within.1, items.many); each = items.each }

-- each item is what it may be after the one before it
unfoldable pub OnCourse : Course → ℕ → List ℕ → Type 0
OnCourse course before [] = Unit {0}
OnCourse course before (x ∷ xs) =
    ((allowed_after course before).low ≤ x) × (x ≤ (allowed_after course before).high) × OnCourse course x xs

-- quantities were read, each allowed after the one before it
pub record AreQuantities (course : Course) (before count : ℕ) (items : List ℕ) : Type 0 where
  pub many : length items ≡ count
  pub in_order : OnCourse course before items

pub quantities_at-are : (bytes : List ℕ) (course : Course) (count before at : ℕ) (read : List ℕ × ℕ) →
    quantities_at bytes course count before at ≡ Ok read →
    AreQuantities course before count read.0
unfolding quantities_at OnCourse
quantities_at-are bytes course zero before at read e =
    value_has (λ (r : List ℕ × ℕ). AreQuantities course before zero r.0) ([], at) read e (record { many = refl; in_order = tt })
quantities_at-are bytes course (suc count) before at read e =
    let allowed = allowed_after course before in
    let first = steps_of (number_at bytes allowed at) (λ first. quantities_at bytes course count first.0 first.1 >>=
    λ others. Ok (first.0 ∷ others.0, others.1)) read e in
    let others = steps_of (quantities_at bytes course count first.between.0 first.between.1)
    (λ others. Ok (first.between.0 ∷ others.0, others.1)) read first.two in
    let rest = quantities_at-are bytes course count first.between.0 first.between.1 others.between others.one in
    let within = number_at-within bytes allowed at first.between first.one in
    value_has (λ (r : List ℕ × ℕ). AreQuantities course before (suc count) r.0)
    (first.between.0 ∷ others.between.0, others.between.1) read others.two
    (record { many = ap suc rest.many; in_order = (within.0, within.1, rest.in_order) })

-- quantities that fall are below what stands before them
pub falling_below : (before : ℕ) (xs : List ℕ) → OnCourse Falling before xs → All (λ x. x ≤ before) xs
unfolding OnCourse
falling_below before [] on = All-nil (λ x. x ≤ before)
falling_below before (x ∷ xs) on =
    All-cons (λ y. y ≤ before) x xs on.1 (λ k d h. omega (arith, falling_below x xs on.2 k d h, on.1))

pub falling_pairs : (before : ℕ) (xs : List ℕ) → OnCourse Falling before xs → AllPairs (λ x y. y ≤ x) xs
unfolding OnCourse
falling_pairs before [] on = λ i j d h k. absurd (omega arith)
falling_pairs before (x ∷ xs) on = AllPairs-cons (λ x y. y ≤ x) x xs (falling_below x xs on.2) (falling_pairs x xs on.2)

-- quantities that rise are above what stands before them, and within their limit
pub rising_above : (before : ℕ) (xs : List ℕ) → OnCourse Rising before xs → All (λ x. before ≤ x) xs
unfolding OnCourse
rising_above before [] on = All-nil (λ x. before ≤ x)
rising_above before (x ∷ xs) on =
    All-cons (λ y. before ≤ y) x xs on.0 (λ k d h. omega (arith, rising_above x xs on.2 k d h, on.0))

pub rising_within : (before : ℕ) (xs : List ℕ) → OnCourse Rising before xs → All (λ x. x ≤ LARGEST_QUANTITY) xs
unfolding OnCourse
rising_within before [] on = All-nil (λ x. x ≤ LARGEST_QUANTITY)
rising_within before (x ∷ xs) on = All-cons (λ y. y ≤ LARGEST_QUANTITY) x xs on.1 (rising_within x xs on.2)

pub rising_pairs : (before : ℕ) (xs : List ℕ) → OnCourse Rising before xs → AllPairs (λ x y. x ≤ y) xs
unfolding OnCourse
rising_pairs before [] on = λ i j d h k. absurd (omega arith)
rising_pairs before (x ∷ xs) on = AllPairs-cons (λ x y. x ≤ y) x xs (rising_above x xs on.2) (rising_pairs x xs on.2)
