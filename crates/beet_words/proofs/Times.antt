-- Reading parts one after another, as a loop does.
use Rattle.std.proofs.Common.{◌≡◌, ℕ, zero, suc, ◌+◌, ◌-◌, ◌<◌, ◌≤◌, ◌||◌, nat_lt, if◌then◌else◌, Bool, true, false}
use Rattle.std.proofs.Common.{List, [], ◌∷◌, ◌++◌, length, Ok, Err, IfOk, refl, sym, ap, ◌∙◌, append_assoc, arith}
use Rattle.std.proofs.lemmas.List.{append-nil}
use Rattle.beet_forms.specs.declared.faults.ReadFault.{ReadFault}
use Rattle.beet_forms.specs.declared.faults.ReadFault.TheVariants.{Bad, OutOfMemory}
use Rattle.beet_forms.specs.Faults.{Reading, Answers}
use Rattle.beet_words.specs.declared.fields.Allowed.{Allowed}
use Rattle.beet_words.specs.Fields.{◌>>=◌, Part, at_offset, eight_bytes_at, number_at, times}

-- what was read before, and what is still read
abbrev pub onto : {A : Type 0} → List A → Reading (List A × ℕ) → Reading (List A × ℕ)
onto front reading = reading >>= λ read. Ok (front ++ read.0, read.1)

onto-cons : {A : Type 0} (front : List A) (value : A) (reading : Reading (List A × ℕ)) →
    onto front (reading >>= λ read. Ok (value ∷ read.0, read.1)) ≡ onto (front ++ value ∷ []) reading
onto-cons front value (Ok read) = ap (λ values. Ok (values, read.1)) (simp append_assoc)
onto-cons front value (Err fault) = refl

-- a fault of the first of two steps is told of both
pub first-fault : {A B T U : Type 0} (first : Reading A) (next : A → Reading B) (seen : T → A) (view : U → B) (fault : ReadFault) →
    Answers seen first (Err fault) → Answers view (first >>= next) (Err fault)
first-fault first next seen view (Bad place reason) is = rw is refl
first-fault first next seen view OutOfMemory is = tt

-- one more part is read
pub onto-next : {A : Type 0} (part : Part A) (front : List A) (count i at after : ℕ) (value : A) (whole : Reading (List A × ℕ)) →
    i < count →
    part at ≡ Ok (value, after) →
    onto front (times (count - i) part at) ≡ whole →
    onto (front ++ value ∷ []) (times (count - (i + 1)) part after) ≡ whole
unfolding times
onto-next part front count i at after value whole lt here so_far =
    let more : count - i ≡ suc (count - (i + 1)) = omega arith in
    let one : onto front (times (count - i) part at) ≡ onto (front ++ value ∷ []) (times (count - (i + 1)) part after) =
    rw (more, here) (onto-cons front value (times (count - (i + 1)) part after)) in
    sym one ∙ so_far

-- a part with a fault ends it
pub onto-fault : {A T U : Type 0} (part : Part A) (front : List A) (count i at : ℕ) (whole : Reading (List A × ℕ))
    (seen : T → A × ℕ) (view : U → List A × ℕ) (fault : ReadFault) →
    i < count →
    Answers seen (part at) (Err fault) →
    onto front (times (count - i) part at) ≡ whole →
    Answers view whole (Err fault)
unfolding times
onto-fault part front count i at whole seen view (Bad place reason) lt here so_far =
    let more : count - i ≡ suc (count - (i + 1)) = omega arith in
    let one : onto front (times (count - i) part at) ≡ Err (record { place = place; reason = reason }) = rw (more, here) refl in
    sym so_far ∙ one
onto-fault part front count i at whole seen view OutOfMemory lt here so_far = tt

-- all parts are read
pub onto-end : {A : Type 0} (part : Part A) (front : List A) (count i at : ℕ) (whole : Reading (List A × ℕ)) →
    count ≤ i →
    onto front (times (count - i) part at) ≡ whole →
    whole ≡ Ok (front, at)
unfolding times
onto-end part front count i at whole le so_far =
    let none : count - i ≡ 0 = omega arith in
    let one : onto front (times (count - i) part at) ≡ Ok (front, at) = rw none (ap (λ values. Ok (values, at)) (append-nil front)) in
    sym so_far ∙ one

-- as many values as parts are read
pub length-times : {A : Type 0} (part : Part A) (count at : ℕ) → IfOk (times count part at) (λ read. length read.0 ≡ count)
unfolding times
length-times part zero at = refl
length-times {A} part (suc n) at = first (part at) (length-times part n) where
  others : (value : A) (reading : Reading (List A × ℕ)) → IfOk reading (λ read. length read.0 ≡ n) →
      IfOk {T = List A × ℕ} (reading >>= λ read. Ok (value ∷ read.0, read.1)) (λ read. length read.0 ≡ suc n)
  others value (Ok read) e = ap suc e
  others value (Err fault) e = tt

  first : (reading : Reading (A × ℕ)) → ((from : ℕ) → IfOk (times n part from) (λ read. length read.0 ≡ n)) →
      IfOk {T = List A × ℕ} (reading >>= λ one. times n part one.1 >>= λ read. Ok (one.0 ∷ read.0, read.1)) (λ read. length read.0 ≡ suc n)
  first (Ok one) e = others one.0 (times n part one.1) (e one.1)
  first (Err fault) e = tt

-- a number takes eight bytes
pub number_at-after : (bytes : List ℕ) (allowed : Allowed) (at : ℕ) (read : ℕ × ℕ) → number_at bytes allowed at ≡ Ok read → read.1 ≡ at + 8
number_at-after bytes allowed at read e =
    by (nat_lt (length bytes) (at + 8))
    (nat_lt (eight_bytes_at bytes at) allowed.low || nat_lt allowed.high (eight_bytes_at bytes at)) e where
      by : (a b : Bool) → (if a then Err (at_offset at allowed.truncated) else if b then
          Err (at_offset at allowed.outside) else Ok (eight_bytes_at bytes at, at + 8)) ≡ Ok read →
          read.1 ≡ at + 8
      by true b e = cc e
      by false true e = cc e
      by false false e = let same : (eight_bytes_at bytes at, at + 8) ≡ read = cc e in sym (ap (λ (r : ℕ × ℕ). r.1) same)
