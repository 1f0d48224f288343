-- Reading quantities one after another, as a loop does.
use Rattle.std.proofs.Common.{◌≡◌, ℕ, suc, ◌+◌, ◌-◌, ◌<◌, ◌≤◌, List, [], ◌∷◌, ◌++◌, Ok, Err, refl, sym, ap, ◌∙◌, append_assoc, arith}
use Rattle.std.proofs.lemmas.List.{append-nil}
use Rattle.beet_forms.specs.declared.faults.ReadFault.{ReadFault}
use Rattle.beet_forms.specs.declared.faults.ReadFault.TheVariants.{Bad, OutOfMemory}
use Rattle.beet_forms.specs.Faults.{Reading, Answers}
use Rattle.beet_words.specs.declared.fields.Allowed.{Allowed}
use Rattle.beet_words.specs.Fields.{◌>>=◌, number_at}
use Rattle.beet_words.proofs.Times.{onto}
use Rattle.beet_view.specs.declared.quantities.Course.{Course}
use Rattle.beet_view.specs.Transcripts.{allowed_after, quantities_at}

onto-cons : (front : List ℕ) (value : ℕ) (reading : Reading (List ℕ × ℕ)) →
    onto front (reading >>= λ read. Ok (value ∷ read.0, read.1)) ≡ onto (front ++ value ∷ []) reading
onto-cons front value (Ok read) = ap (λ values. Ok (values, read.1)) (simp append_assoc)
onto-cons front value (Err fault) = refl

-- one more quantity is read
pub turn-next : (bytes : List ℕ) (course : Course) (before : ℕ) (allowed : Allowed) (front : List ℕ)
    (count i at after value : ℕ) (whole : Reading (List ℕ × ℕ)) →
    i < count →
    allowed ≡ allowed_after course before →
    number_at bytes allowed at ≡ Ok (value, after) →
    onto front (quantities_at bytes course (count - i) before at) ≡ whole →
    onto (front ++ value ∷ []) (quantities_at bytes course (count - (i + 1)) value after) ≡ whole
unfolding quantities_at
turn-next bytes course before allowed front count i at after value whole lt is here so_far =
    let more : count - i ≡ suc (count - (i + 1)) = omega arith in
    let one : onto front (quantities_at bytes course (count - i) before at)
    ≡ onto (front ++ value ∷ []) (quantities_at bytes course (count - (i + 1)) value after) =
    rw (more, ← is, here) (onto-cons front value (quantities_at bytes course (count - (i + 1)) value after)) in
    sym one ∙ so_far

-- a quantity with a fault ends it
pub turn-fault : {T U : Type 0} (bytes : List ℕ) (course : Course) (before : ℕ) (allowed : Allowed) (front : List ℕ)
    (count i at : ℕ) (whole : Reading (List ℕ × ℕ)) (seen : T → ℕ × ℕ) (view : U → List ℕ × ℕ) (fault : ReadFault) →
    i < count →
    allowed ≡ allowed_after course before →
    Answers seen (number_at bytes allowed at) (Err fault) →
    onto front (quantities_at bytes course (count - i) before at) ≡ whole →
    Answers view whole (Err fault)
unfolding quantities_at
turn-fault bytes course before allowed front count i at whole seen view (Bad place reason) lt is here so_far =
    let more : count - i ≡ suc (count - (i + 1)) = omega arith in
    let one : onto front (quantities_at bytes course (count - i) before at)
    ≡ Err (record { place = place; reason = reason }) = rw (more, ← is, here) refl in
    sym so_far ∙ one
turn-fault bytes course before allowed front count i at whole seen view OutOfMemory lt is here so_far = tt

-- all quantities are read
pub turn-end : (bytes : List ℕ) (course : Course) (before : ℕ) (front : List ℕ) (count i at : ℕ) (whole : Reading (List ℕ × ℕ)) →
    count ≤ i →
    onto front (quantities_at bytes course (count - i) before at) ≡ whole →
    whole ≡ Ok (front, at)
unfolding quantities_at
turn-end bytes course before front count i at whole le so_far =
    let none : count - i ≡ 0 = omega arith in
    let one : onto front (quantities_at bytes course (count - i) before at) ≡ Ok (front, at) =
    rw none (ap (λ values. Ok (values, at)) (append-nil front)) in
    sym so_far ∙ one
