-- A tape file that was written is read again.
use Rattle.std.proofs.Common.{◌≡◌, ℕ, zero, suc, ◌+◌, ◌*◌, ◌/◌, ◌%◌, ◌^◌, ◌<◌, ◌≤◌, ◌++◌, List, [], ◌∷◌, length, map}
use Rattle.std.proofs.Common.{get_or, Some, None, Ok, refl, ap, ◌∙◌, append_assoc, arith}
use Rattle.std.specs.List.{range_with_len}
use Rattle.std.specs.Int.{w64, byte_at, bytes_high_first, to_be_bytes, from_be_bytes}
use Rattle.std.proofs.lemmas.List.{length-append, take_at, drop_at, take_all, get_or_push}
use Rattle.std.proofs.lemmas.Bool.{lt-ltb}
use Rattle.std.proofs.lemmas.Nat.{from_be_bytes-to_be_bytes_8}
use Rattle.hex.specs.Hex.{encode_lower, lower_digits}
use Rattle.hex.proofs.HexLemmas.{length-encode_with, decode_of-encode_lower}
use Rattle.beet_words.specs.Words.{IsWord}
use Rattle.beet_words.specs.TapeFiles.{line_at, lines_of, number_in, word_in, reason_against, tape_of, word_line, tape_bytes}
use Rattle.beet_forms.specs.Faults.{first_fault}

-- a rest by 256 is a byte
rest_below : (n : ℕ) → n % 256 < 256
rest_below n = omega arith

-- so is each byte of a number
byte_at-below : (k n : ℕ) → byte_at k n < 256
byte_at-below zero n = rest_below n
byte_at-below (suc k) n = rest_below (n / 256 ^ suc k)

-- the bytes of a number are bytes
bytes_high_first-below : (k n i : ℕ) → get_or (bytes_high_first k n) i 0 < 256
bytes_high_first-below zero n i = omega arith
bytes_high_first-below (suc k) n zero = byte_at-below k n
bytes_high_first-below (suc k) n (suc i) = bytes_high_first-below k n i

-- a line has 17 bytes
length-word_line : (word : ℕ) → length (word_line word) ≡ 17
length-word_line word =
    length-append (encode_lower (to_be_bytes w64 word)) (10 ∷ []) ∙
    ap (λ n. n + 1) (length-encode_with lower_digits (to_be_bytes w64 word))

-- the digits of eight bytes and a newline byte have the number of the bytes
number_in-digits : (bytes : List ℕ) →
    length bytes ≡ 8 →
    ((i : ℕ) → get_or bytes i 0 < 256) →
    number_in (encode_lower bytes ++ 10 ∷ []) ≡ Some (from_be_bytes w64 bytes)
number_in-digits bytes eight fits =
    let long : length (encode_lower bytes) ≡ 16 = length-encode_with lower_digits bytes ∙ ap (λ n. 2 * n) eight in
    let whole : length (encode_lower bytes ++ 10 ∷ []) ≡ 17 = length-append (encode_lower bytes) (10 ∷ []) ∙ ap (λ n. n + 1) long in
    let digits = take_at (encode_lower bytes) (10 ∷ []) 16 long in
    let newline = get_or_push (encode_lower bytes) 10 0 16 long in
    rw (whole, newline, digits, decode_of-encode_lower bytes fits, long) refl

-- the line of a word has its number
number_in-word_line : (word : ℕ) → IsWord word → number_in (word_line word) ≡ Some word
number_in-word_line word below =
    number_in-digits (to_be_bytes w64 word) refl (bytes_high_first-below 8 word) ∙
    ap (λ n. Some n) (from_be_bytes-to_be_bytes_8 word (omega arith))

-- lines one after another stand at their places
lines_at : (front words : List ℕ) (k : ℕ) →
    length front ≡ 17 * k →
    map (line_at (front ++ tape_bytes words)) (range_with_len k (length words)) ≡ map word_line words
lines_at front [] k e = refl
lines_at front (word ∷ words) k e =
    let here : line_at (front ++ (word_line word ++ tape_bytes words)) k ≡ word_line word =
    rw (drop_at front (word_line word ++ tape_bytes words) (17 * k) e)
    (take_at (word_line word) (tape_bytes words) 17 (length-word_line word)) in
    let further : length (front ++ word_line word) ≡ 17 * (k + 1) =
    omega (arith, length-append front (word_line word), length-word_line word) in
    let rest = lines_at (front ++ word_line word) words (k + 1) further in
    let whole = append_assoc front (word_line word) (tape_bytes words) in
    let later : map (line_at (front ++ (word_line word ++ tape_bytes words))) (range_with_len (k + 1) (length words))
    ≡ map word_line words = rw whole at rest in
    ap (λ line. line ∷ map (line_at (front ++ (word_line word ++ tape_bytes words))) (range_with_len (k + 1) (length words))) here ∙
    ap (λ lines. word_line word ∷ lines) later

-- the bytes of a tape file are its lines
length-tape_bytes : (words : List ℕ) → length (tape_bytes words) ≡ 17 * length words
length-tape_bytes [] = refl
length-tape_bytes (word ∷ words) =
    omega (arith, length-append (word_line word) (tape_bytes words), length-word_line word, length-tape_bytes words)

-- its lines are those of its words
lines_of-tape_bytes : (words : List ℕ) → lines_of (tape_bytes words) ≡ map word_line words
lines_of-tape_bytes words =
    let count : (length (tape_bytes words) + 16) / 17 ≡ length words = omega (arith, length-tape_bytes words) in
    rw count (lines_at [] words 0 refl)

-- no line of a word has a reason against it
first_fault-words : (words : List ℕ) (n : ℕ) →
    ((k : ℕ) → k < length words → IsWord (get_or words k 0)) →
    first_fault n (map reason_against (map word_line words)) ≡ None
first_fault-words [] n below = refl
first_fault-words (word ∷ words) n below =
    let good : reason_against (word_line word) ≡ None =
    rw (number_in-word_line word (below 0 (omega arith)), lt-ltb word (2 ^ 61) (below 0 (omega arith))) refl in
    rw good (first_fault-words words (n + 1) (λ k h. below (suc k) (omega arith)))

-- the words of the lines are the words
words_in-lines : (words : List ℕ) →
    ((k : ℕ) → k < length words → IsWord (get_or words k 0)) →
    map word_in (map word_line words) ≡ words
words_in-lines [] below = refl
words_in-lines (word ∷ words) below =
    rw (number_in-word_line word (below 0 (omega arith)), words_in-lines words (λ k h. below (suc k) (omega arith))) refl

-- a tape file of words is read as these words
pub tape_of-tape_bytes : (words : List ℕ) (keep : ℕ) →
    ((k : ℕ) → k < length words → IsWord (get_or words k 0)) →
    length words ≤ keep →
    tape_of (tape_bytes words) keep ≡ Ok words
tape_of-tape_bytes words keep below long =
    rw (lines_of-tape_bytes words, first_fault-words words 1 below, words_in-lines words below)
    (ap (λ kept. Ok kept) (take_all keep words long))
