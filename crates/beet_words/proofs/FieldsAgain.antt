-- Fields that stand in a file are read.
use Rattle.std.proofs.Common.{◌≡◌, ℕ, ◌+◌, ◌*◌, ◌^◌, ◌<◌, ◌≤◌, false, ltb, List, [], ◌∷◌, ◌++◌, length, take, drop, All, Ok}
use Rattle.std.proofs.Common.{refl, sym, ap, ◌∙◌, append_assoc, arith}
use Rattle.std.specs.List.{flat_map}
use Rattle.std.specs.Int.{w64, from_be_bytes}
use Rattle.std.proofs.lemmas.Bool.{le-ltb}
use Rattle.std.proofs.lemmas.List.{length-append, take_at, drop_at}
use Rattle.std.proofs.lemmas.List.Elements.{All-head, All-tail}
use Rattle.std.proofs.lemmas.Nat.{from_be_bytes-to_be_bytes_8}
use Rattle.beet_words.specs.declared.fields.Allowed.{Allowed}
use Rattle.beet_words.specs.Fields.{Part, number_bytes, eight_bytes_at, number_at, times}

-- a number takes 8 bytes
pub length-numbers : (numbers : List ℕ) → length (flat_map number_bytes numbers) ≡ 8 * length numbers
length-numbers [] = refl
length-numbers (number ∷ numbers) =
    omega (arith, length-append (number_bytes number) (flat_map number_bytes numbers), length-numbers numbers)

-- the text stands in the bytes from the offset on
pub record StandsAt (bytes : List ℕ) (at : ℕ) (text : List ℕ) : Type 0 where
  pub front : List ℕ
  pub rest : List ℕ
  pub whole : bytes ≡ front ++ (text ++ rest)
  pub place : length front ≡ at

-- the first of two texts stands where both do
pub StandsAt-left : (bytes : List ℕ) (at : ℕ) (a b : List ℕ) → StandsAt bytes at (a ++ b) → StandsAt bytes at a
StandsAt-left bytes at a b s = record {
  front = s.front;
  rest = b ++ s.rest;
  whole = s.whole ∙ ap (λ text. s.front ++ text) (append_assoc a b s.rest);
  place = s.place;
}

-- the second of two texts stands after the first
pub StandsAt-right : (bytes : List ℕ) (at : ℕ) (a b : List ℕ) → StandsAt bytes at (a ++ b) → StandsAt bytes (at + length a) b
StandsAt-right bytes at a b s = record {
  front = s.front ++ a;
  rest = s.rest;
  whole = s.whole ∙ ap (λ text. s.front ++ text) (append_assoc a b s.rest) ∙ sym (append_assoc s.front a (b ++ s.rest));
  place = length-append s.front a ∙ ap (λ n. n + length a) s.place;
}

pub StandsAt-within : (bytes : List ℕ) (at : ℕ) (text : List ℕ) → StandsAt bytes at text → at + length text ≤ length bytes
StandsAt-within bytes at text s =
    omega (arith, ap length s.whole, length-append s.front (text ++ s.rest), length-append text s.rest, s.place)

-- the text is what is taken there
pub StandsAt-taken : (bytes : List ℕ) (at n : ℕ) (text : List ℕ) → length text ≡ n → StandsAt bytes at text → take n (drop at bytes) ≡ text
StandsAt-taken bytes at n text e s =
    ap (λ all. take n (drop at all)) s.whole ∙
    ap (take n) (drop_at s.front (text ++ s.rest) at s.place) ∙
    take_at text s.rest n e

-- the bytes of a number are that number
pub eight_bytes_at-number : (bytes : List ℕ) (at n : ℕ) → n < 2 ^ 64 → StandsAt bytes at (number_bytes n) → eight_bytes_at bytes at ≡ n
eight_bytes_at-number bytes at n fits s =
    ap (from_be_bytes w64) (StandsAt-taken bytes at 8 (number_bytes n) refl s) ∙ from_be_bytes-to_be_bytes_8 n fits

-- a number that is allowed is read
pub number_at-number : (bytes : List ℕ) (allowed : Allowed) (at n : ℕ) →
    allowed.low ≤ n →
    n ≤ allowed.high →
    n < 2 ^ 64 →
    StandsAt bytes at (number_bytes n) →
    number_at bytes allowed at ≡ Ok (n, at + 8)
number_at-number bytes allowed at n low high fits s =
    let is = eight_bytes_at-number bytes at n fits s in
    let long : ltb (length bytes) (at + 8) ≡ false = le-ltb (length bytes) (at + 8) (StandsAt-within bytes at (number_bytes n) s) in
    rw (long, is, le-ltb n allowed.low low, le-ltb allowed.high n high) refl

-- what stands one after another is read part by part
pub times-parts : {A : Type 0} (bytes : List ℕ) (part : Part A) (text : A → List ℕ) (Fits : A → Type 0) (xs : List A) (at : ℕ) →
    ((x : A) (offset : ℕ) → Fits x → StandsAt bytes offset (text x) → part offset ≡ Ok (x, offset + length (text x))) →
    All Fits xs →
    StandsAt bytes at (flat_map text xs) →
    times (length xs) part at ≡ Ok (xs, at + length (flat_map text xs))
unfolding times
times-parts bytes part text Fits [] at each all s =
    let place : at ≡ at + 0 = omega arith in
    ap (λ n. Ok ([], n)) place
times-parts bytes part text Fits (x ∷ xs) at each all s =
    let first = each x at (All-head Fits x xs all) (StandsAt-left bytes at (text x) (flat_map text xs) s) in
    let others = times-parts bytes part text Fits xs (at + length (text x)) each (All-tail Fits x xs all)
    (StandsAt-right bytes at (text x) (flat_map text xs) s) in
    let place : at + length (text x) + length (flat_map text xs) ≡ at + length (text x ++ flat_map text xs) =
    omega (arith, length-append (text x) (flat_map text xs)) in
    rw (first, others) (ap (λ n. Ok (x ∷ xs, n)) place)
