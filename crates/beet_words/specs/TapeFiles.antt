-- A tape file: lines of 17 bytes, each the 16 hexadecimal digits of a word and a newline byte.
use Rattle.std.specs.Prelude.{ℕ, ◌++◌, ◌+◌, ◌-◌, ◌*◌, ◌/◌, ◌^◌, ◌==◌, ◌&&◌, nat_lt, if◌then◌else◌, List, [], ◌∷◌}
use Rattle.std.specs.Prelude.{length, map, take, drop, slice_index, Option, Some, None, unwrap_or, option_map}
use Rattle.std.specs.List.{range_with_len, flat_map}
use Rattle.std.specs.Int.{w64, from_be_bytes, to_be_bytes}
use Rattle.hex.specs.Hex.{decode_of, encode_lower}
use Rattle.beet_forms.specs.Faults.{Reading, first_fault, reading_of}
use Rattle.beet_words.specs.declared.digits.TheConstants.{DIGITS}
use Rattle.beet_words.specs.declared.tape_file.TheConstants.{BAD_LINE, LINE, WORD_TOO_LARGE}
use Rattle.beet_words.specs.Seeds.{bytes_in}

-- the k-th line, from 0; the last may be shorter
abbrev pub line_at : List ℕ → ℕ → List ℕ
line_at bytes k = take LINE (drop (LINE * k) bytes)

abbrev pub lines_of : List ℕ → List (List ℕ)
lines_of bytes = map (line_at bytes) (range_with_len 0 ((length bytes + (LINE - 1)) / LINE))

-- the number that 16 hexadecimal digits write, the highest first, or none
abbrev pub digits_of : List ℕ → Option ℕ
digits_of text = if length text == DIGITS then option_map (from_be_bytes w64) (bytes_in (decode_of text)) else None

-- the number of a line, or none if the line is not whole, has another last byte, or other bytes than digits
abbrev pub number_in : List ℕ → Option ℕ
number_in line = if (length line == LINE) && (slice_index line DIGITS == 10) then digits_of (take DIGITS line) else None

-- the word of a line that has one
abbrev pub word_in : List ℕ → ℕ
word_in line = unwrap_or (number_in line) 0

-- the reason against the number of a line, if there is one
abbrev pub reason_of_number : Option ℕ → Option ℕ
reason_of_number None = Some BAD_LINE
reason_of_number (Some n) = if nat_lt n (2 ^ 61) then None else Some WORD_TOO_LARGE

-- the reason against a line
abbrev pub reason_against : List ℕ → Option ℕ
reason_against line = reason_of_number (number_in line)

-- what a tape file reads as: its first `keep` words, or the fault of the first line that is none
abbrev pub tape_of : List ℕ → ℕ → Reading (List ℕ)
tape_of bytes keep =
    reading_of (first_fault 1 (map reason_against (lines_of bytes))) (take keep (map word_in (lines_of bytes)))

-- the line of a word, in lower-case digits
abbrev pub word_line : ℕ → List ℕ
word_line word = encode_lower (to_be_bytes w64 word) ++ 10 ∷ []

-- the bytes of a tape file of some words
abbrev pub tape_bytes : List ℕ → List ℕ
tape_bytes words = flat_map word_line words
