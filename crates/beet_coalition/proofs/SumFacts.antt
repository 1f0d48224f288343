-- Sums of shared numbers, and the lists of five servers.
use Rattle.std.proofs.Common.{◌≡◌, ◌*◌, ◌+◌, ◌%◌, inl, inr, ℕ, List, [], ◌∷◌, ◌++◌, length, map, slice_index, slice_index_or, refl}
use Rattle.std.proofs.Common.{sym, ap, ◌∙◌, arith}
use Rattle.std.specs.Prelude.{sum_by}
use Rattle.std.proofs.lemmas.List.Sums.{sum_by-cons}
use Rattle.beet_field.specs.Field.{p}
use Rattle.beet_linear_sharing.specs.Sharings.{Sharing, joined}
use Rattle.std.specs.Int.{bit_at}
use Rattle.beet_gates.specs.Each.{each}
use Rattle.beet_mask.specs.Mask.{bits_of}
use Rattle.beet_linear_sharing.specs.Runs.{deals_among}
use Rattle.beet_linear_sharing.specs.Polynomials.{IsShared}
use Rattle.beet_linear_sharing.specs.Schemes.{five_servers}
use Rattle.beet_coalition.specs.Lists.{at_server}
use Rattle.beet_coalition.specs.Words.{SameWords}
use Rattle.beet_linear_sharing.proofs.Laws.{SharingLaws}

-- sums of points are points of the sum
pub sum-shared : {A : Type 0} (q : Sharing) → SharingLaws q → (value : A → ℕ) (numbers : A → ℕ → ℕ) (xs : List A) →
    IsShared q (sum_by value xs % p) (λ i. sum_by (λ x. q.share (value x) (numbers x) i) xs % p)
sum-shared q laws value numbers [] = record { numbers = λ m. 0; points = λ i at. sym (laws.nothing i at) }
sum-shared q laws value numbers (x ∷ xs) =
    let rest = sum-shared q laws value numbers xs in
    let others : ℕ = sum_by value xs % p in
    record {
      numbers = λ m. (1 * numbers x m + rest.numbers m) % p;
      points = λ i at.
          let points = sum_by-cons (λ y. q.share (value y) (numbers y) i) x xs in
          let values = sum_by-cons value x xs in
          let more = rest.points i at in
          let here : sum_by (λ y. q.share (value y) (numbers y) i) (x ∷ xs) % p
          ≡ (1 * q.share (value x) (numbers x) i + q.share others rest.numbers i) % p = omega (arith, points, more) in
          let there : (1 * value x + others) % p ≡ sum_by value (x ∷ xs) % p = omega (arith, values) in
          here ∙ sym (laws.multiple 1 (value x) others i (numbers x) rest.numbers at)
          ∙ (λ j. q.share (there j) (λ m. (1 * numbers x m + rest.numbers m) % p) i);
    }

-- a list of five
five-items : (d : List (List ℕ)) → length d ≡ 5 →
    d ≡ slice_index_or d 0 [] ∷ slice_index_or d 1 [] ∷ slice_index_or d 2 [] ∷ slice_index_or d 3 [] ∷ slice_index_or d 4 [] ∷ []
five-items [] k = absurd (omega arith)
five-items (a ∷ []) k = absurd (omega arith)
five-items (a ∷ b ∷ []) k = absurd (omega arith)
five-items (a ∷ b ∷ c ∷ []) k = absurd (omega arith)
five-items (a ∷ b ∷ c ∷ f ∷ []) k = absurd (omega arith)
five-items (a ∷ b ∷ c ∷ f ∷ g ∷ []) k = refl
five-items (a ∷ b ∷ c ∷ f ∷ g ∷ h ∷ t) k = absurd (omega arith)

-- five lists that are the same at each server are the same
pub five-lists : (d e : List (List ℕ)) → length d ≡ 5 → length e ≡ 5 → SameWords five_servers (at_server e) (at_server d) → e ≡ d
five-lists d e k k' same =
    let one = same 1 (inl refl) in
    let two = same 2 (inr (inl refl)) in
    let three = same 3 (inr (inr (inl refl))) in
    let four = same 4 (inr (inr (inr (inl refl)))) in
    let five = same 5 (inr (inr (inr (inr (inl refl))))) in
    five-items e k' ∙ (λ i. one i ∷ two i ∷ three i ∷ four i ∷ five i ∷ []) ∙ sym (five-items d k)

-- what a deal appends in the run on plain values is the bits of the words that are dealt
bits-joined : (f : ℕ → ℕ) (js : List ℕ) → joined (λ j. each (bit_at (f j)) 61) js ≡ bits_of (map f js)
bits-joined f [] = refl
bits-joined f (j ∷ []) = refl
bits-joined f (j ∷ k ∷ js) = ap (λ l. each (bit_at (f j)) 61 ++ l) (bits-joined f (k ∷ js))

pub five-deals : (words : List (List ℕ)) → length words ≡ 5 → (n : ℕ) → deals_among five_servers (at_server words) n
    ≡ bits_of (map (λ list. slice_index list n) words)
five-deals words five n =
    bits-joined (λ j. slice_index (at_server words j) n) five_servers.servers
    ∙ sym (ap (λ l. bits_of (map (λ (list : List ℕ). slice_index list n) l)) (five-items words five))
