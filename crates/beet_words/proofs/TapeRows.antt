-- Judging the lines of a tape file one after another.
use Rattle.std.proofs.Common.{◌≡◌, ℕ, zero, suc, ◌+◌, ◌-◌, ◌<◌, List, [], ◌∷◌, ◌++◌, map, take, Option, Some, None, refl, ap, arith}
use Rattle.std.proofs.lemmas.List.{map_push}
use Rattle.std.proofs.lemmas.List.FromFn.{map-range_with_len_more}
use Rattle.std.specs.List.{range_with_len}
use Rattle.beet_forms.specs.Faults.{at_row, first_fault}
use Rattle.beet_words.specs.TapeFiles.{line_at, word_in, reason_against}

-- the reasons against n lines from the k-th on
abbrev pub rows_from : List ℕ → ℕ → ℕ → List (Option ℕ)
rows_from bytes k n = map reason_against (map (line_at bytes) (range_with_len k n))

-- a line with no reason against it is passed
pub first_fault-good : (bytes : List ℕ) (k count : ℕ) →
    k < count → reason_against (line_at bytes k) ≡ None →
    first_fault (k + 1) (rows_from bytes k (count - k)) ≡ first_fault (k + 1 + 1) (rows_from bytes (k + 1) (count - (k + 1)))
first_fault-good bytes k count lt good =
    let more : count - k ≡ suc (count - (k + 1)) = omega arith in
    rw (more, good) refl

-- a line with a reason against it is the first
pub first_fault-bad : (bytes : List ℕ) (k count reason : ℕ) →
    k < count → reason_against (line_at bytes k) ≡ Some reason →
    first_fault (k + 1) (rows_from bytes k (count - k)) ≡ Some (at_row (k + 1) reason)
first_fault-bad bytes k count reason lt bad =
    let more : count - k ≡ suc (count - (k + 1)) = omega arith in
    rw (more, bad) refl

-- an item after the first n of a list counts only where there are fewer
pub take_push : (n : ℕ) (xs : List ℕ) (y : ℕ) → take n (take n xs ++ y ∷ []) ≡ take n (xs ++ y ∷ [])
take_push zero xs y = refl
take_push (suc n) [] y = refl
take_push (suc n) (x ∷ xs) y = ap (λ ys. x ∷ ys) (take_push n xs y)

-- the word of one more line is kept where there is room
pub kept_more : (bytes words : List ℕ) (keep k : ℕ) →
    words ≡ take keep (map word_in (map (line_at bytes) (range_with_len 0 k))) →
    take keep (words ++ word_in (line_at bytes k) ∷ []) ≡ take keep (map word_in (map (line_at bytes) (range_with_len 0 (k + 1))))
kept_more bytes words keep k e =
    rw (
      e,
      map-range_with_len_more (line_at bytes) 0 k k (omega arith),
      map_push word_in (map (line_at bytes) (range_with_len 0 k)) (line_at bytes k),
    ) (
    take_push keep (map word_in (map (line_at bytes) (range_with_len 0 k))) (word_in (line_at bytes k))
    )
