-- The mask words of two worlds in which the comparisons open the same numbers.
use Rattle.std.specs.Prelude.{◌≡◌, ◌≢◌, ◌<◌, ℕ, List, length, slice_index, Option, Some, None, bit_xor}
use Rattle.beet_field.specs.Trio.{member}
use Rattle.beet_field.specs.declared.point.Point.{Point}
use Rattle.beet_field.specs.declared.trio.Trio.{Trio}
use Rattle.beet_masking.specs.Compared.{item_compared}
use Rattle.beet_masking.specs.Masks.{mask_at}
use Rattle.beet_round.specs.Sides.{peer}
use Rattle.beet_round.specs.declared.sides.Side.TheVariants.{Low}
use Rattle.beet_turned.specs.Turn.{turned}

-- a mask in the second world: turned if it is compared, by what the number under it has lost, modulo p
abbrev pub mask_mapped : ℕ → Option ℕ → ℕ
mask_mapped mask None = mask
mask_mapped mask (Some loss) = turned mask loss

-- the word of one server that makes it so: with the mask taken out and the turned one put in
abbrev pub word_mapped : ℕ → ℕ → Option ℕ → ℕ
word_mapped mask word None = word
word_mapped mask word (Some loss) = bit_xor (bit_xor word mask) (turned mask loss)

-- by how much the number under the i-th mask is more in the first world than in the second, if it is compared
abbrev pub loss_in : List ℕ → Trio (List ℕ) → ℕ → Option ℕ
loss_in losses words i = item_compared losses (mask_at words) i

-- the mask words of two worlds in which the numbers that are compared, one after another, lose so much, mapped for
-- server s: the lower other server's words turn each mask that is compared, and all other words are the same
pub record MasksMapped (s : Point) (losses : List ℕ) (words words' : Trio (List ℕ)) : Type 0 where
  pub lengths : (j : Point) → length (member words' j) ≡ length (member words j)
  pub turns : (i : ℕ) → i < length (member words (peer s Low)) →
      slice_index (member words' (peer s Low)) i
      ≡ word_mapped (mask_at words i) (slice_index (member words (peer s Low)) i) (loss_in losses words i)
  pub others : (j : Point) → j ≢ peer s Low → member words' j ≡ member words j
