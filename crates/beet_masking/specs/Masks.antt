-- The masks of a run, and what they decide.
use Rattle.std.specs.Prelude.{◌+◌, ◌==◌, ℕ, zero, suc, List, length, filter, map, slice_index, nat_le, if◌then◌else◌}
use Rattle.std.specs.Prelude.{All, Bool, true, false}
use Rattle.std.specs.List.{range_with_len}
use Rattle.beet_field.specs.Field.{p}
use Rattle.beet_field.specs.declared.trio.Trio.{Trio}
use Rattle.beet_words.specs.Words.{IsWord}
use Rattle.beet_mask.specs.Mask.{bits_of, mask_of, xor_of}
use Rattle.beet_masking.specs.declared.TheConstants.{SPARE_MASKS, SPARE_WORDS}

-- each server's mask words are words
pub record AreMasks (words : Trio (List ℕ)) : Type 0 where
  pub one : All IsWord words.one
  pub two : All IsWord words.two
  pub three : All IsWord words.three

-- the i-th mask: the exclusive or of the i-th words of the three servers
abbrev pub mask_at : Trio (List ℕ) → ℕ → ℕ
mask_at words i = mask_of (slice_index words.one i) (slice_index words.two i) (slice_index words.three i)

-- the i-th word of each of several servers, what the i-th deal appends, and the i-th mask: their exclusive or
abbrev pub words_at : List (List ℕ) → ℕ → List ℕ
words_at words i = map (λ list. slice_index list i) words

abbrev pub dealt_at : List (List ℕ) → ℕ → List ℕ
dealt_at words i = bits_of (words_at words i)

abbrev pub mask_among : List (List ℕ) → ℕ → ℕ
mask_among words i = xor_of (words_at words i)

-- a mask is accepted if it is not all ones
abbrev pub is_accepted : ℕ → Bool
is_accepted mask = if mask == p then false else true

-- which of the first n masks are rejected, and which are accepted
abbrev pub rejected_among : (ℕ → ℕ) → ℕ → List ℕ
rejected_among masks n = filter (λ i. masks i == p) (range_with_len 0 n)

abbrev pub accepted_among : (ℕ → ℕ) → ℕ → List ℕ
accepted_among masks n = filter (λ i. is_accepted (masks i)) (range_with_len 0 n)

-- whether a run that makes c comparisons, if it can, is spent: more of its masks are rejected than may be
abbrev pub is_spent : (ℕ → ℕ) → ℕ → Bool
is_spent masks c = nat_le (SPARE_MASKS + 1) (length (rejected_among masks (c + SPARE_MASKS)))

-- how many masks are dealt if it is spent: up to the first that is one too many
abbrev pub dealt_until_spent : (ℕ → ℕ) → ℕ → ℕ
dealt_until_spent masks c = slice_index (rejected_among masks (c + SPARE_MASKS)) SPARE_MASKS + 1

-- how many masks are dealt if it is not: up to the c-th accepted one
abbrev pub dealt_for : (ℕ → ℕ) → ℕ → ℕ
dealt_for masks zero = 0
dealt_for masks (suc k) = slice_index (accepted_among masks (suc k + SPARE_MASKS)) k + 1

-- how many masks a run with so many comparisons may want
abbrev pub masks_for : ℕ → ℕ
masks_for comparisons = comparisons + SPARE_MASKS

-- how many words are read if so many numbers are wanted, of which a few may be passed over
abbrev pub with_spare : ℕ → ℕ
with_spare wanted = wanted + SPARE_WORDS
