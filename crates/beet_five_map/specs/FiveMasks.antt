-- The mask words of two worlds among five servers in which the comparisons open the same numbers.
use Rattle.std.specs.Prelude.{◌≡◌, ◌≢◌, ◌<◌, ◌-◌, ◌==◌, ℕ, List, [], length, slice_index, slice_index_or, Option}
use Rattle.std.specs.Prelude.{if◌then◌else◌}
use Rattle.beet_masking.specs.Compared.{item_compared}
use Rattle.beet_masking.specs.Masks.{mask_among}
use Rattle.beet_turned.specs.MappedMasks.{word_mapped}

-- by how much the number under the i-th mask is more in the first world than in the second, if it is compared
abbrev pub loss_among : List ℕ → List (List ℕ) → ℕ → Option ℕ
loss_among losses words i = item_compared losses (mask_among words) i

-- the words of one list turn each mask that is compared, and all other words are the same
pub record MasksMapped (l : ℕ) (losses : List ℕ) (words words' : List (List ℕ)) : Type 0 where
  pub count : length words' ≡ length words
  pub as_long : length (slice_index_or words' l []) ≡ length (slice_index_or words l [])
  pub turns : (i : ℕ) → i < length (slice_index_or words l []) →
      slice_index (slice_index_or words' l []) i
      ≡ word_mapped (mask_among words i) (slice_index (slice_index_or words l []) i) (loss_among losses words i)
  pub others : (k : ℕ) → k ≢ l → slice_index_or words' k [] ≡ slice_index_or words k []

-- the lowest server that is neither a nor b, if a is below b
abbrev pub lowest_other : ℕ → ℕ → ℕ
lowest_other a b = if a == 1 then (if b == 2 then 3 else 2) else 1

-- the mask words of two worlds, mapped for servers a and b
abbrev pub MasksMappedFor : ℕ → ℕ → List ℕ → List (List ℕ) → List (List ℕ) → Type 0
MasksMappedFor a b losses words words' = MasksMapped (lowest_other a b - 1) losses words words'
