-- Seeds of 32 bytes, and their words: pairs of the 32-bit words of ChaCha20 with the seed as key, from place 0 on.
use Rattle.std.specs.Prelude.{ℕ, ◌+◌, ◌*◌, ◌%◌, ◌^◌, ◌==◌, if◌then◌else◌, List, map, length, Option, Some, None, Result}
use Rattle.std.specs.Prelude.{Ok, Err}
use Rattle.std.specs.List.{range_with_len}
use Rattle.rand_chacha.specs.ChaCha.{word_at, key_of}
use Rattle.hex.specs.declared.error.FromHexError.{FromHexError}
use Rattle.hex.specs.Hex.{decode_of}

-- word k: the low 61 bits of two words, the low half first
abbrev pub seed_word : List ℕ → ℕ → ℕ → ℕ
seed_word seed stream k =
    (word_at 10 (key_of seed) stream (2 * k) + 2 ^ 32 * word_at 10 (key_of seed) stream (2 * k + 1)) % 2 ^ 61

-- the first n words
abbrev pub seed_words : List ℕ → ℕ → ℕ → List ℕ
seed_words seed stream n = map (seed_word seed stream) (range_with_len 0 n)

-- the bytes that a text of hexadecimal digits of either case writes, or none
abbrev pub bytes_in : Result (List ℕ) FromHexError → Option (List ℕ)
bytes_in (Ok bytes) = Some bytes
bytes_in (Err _) = None

-- the seed that 64 hexadecimal digits write, or none
abbrev pub seed_of : List ℕ → Option (List ℕ)
seed_of text = if length text == 64 then bytes_in (decode_of text) else None
