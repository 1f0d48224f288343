-- The block of a mask: three words are dealt, their exclusive or is formed bit by bit, and the product of its bits is
-- opened.
use Rattle.std.specs.Prelude.{◌≡◌, ◌<◌, ◌+◌, ◌-◌, ◌*◌, ◌/◌, ◌==◌, ℕ, zero, suc, List, [], ◌∷◌, ◌++◌, length}
use Rattle.std.specs.Prelude.{slice_index, bit_xor, nat_lt, if◌then◌else◌}
use Rattle.std.specs.Int.{bit_at}
use Rattle.beet_field.specs.Field.{p}
use Rattle.beet_gates.specs.declared.TheConstants.{WIRES_BEFORE_BITS}
use Rattle.beet_gates.specs.declared.Batch.{Batch}
use Rattle.beet_gates.specs.declared.Gates.{Gates}
use Rattle.beet_gates.specs.declared.Gates.TheVariants.{Chain, Tree}
use Rattle.beet_gates.specs.declared.Linear.{Linear}
use Rattle.beet_mask.specs.declared.TheConstants.{CHAIN_ROUNDS, TREE_ROUNDS}
use Rattle.beet_gates.specs.Batches.{deal_batch, mul_batch, reveal_batch}
use Rattle.beet_gates.specs.Clear.{Values}
use Rattle.beet_gates.specs.Each.{each}
use Rattle.beet_gates.specs.Levels.{each_pair, next_length, next_item}
use Rattle.beet_gates.specs.Linears.{three_terms}

-- how many rounds a block takes: the deal, a product with each word but the first, and the product of the bits
abbrev pub mask_rounds_of : Gates → ℕ → ℕ
mask_rounds_of Chain words = words + CHAIN_ROUNDS
mask_rounds_of Tree words = words + TREE_ROUNDS

-- how many wires it appends: the bits of the words, for each word but the first the products with it and their
-- exclusive or, and the products of the bits of the mask
abbrev pub mask_wires_of : ℕ → ℕ
mask_wires_of words = 61 * words + 122 * (words - 1) + 60

-- how many numbers hide secrets of each server in it: one for each bit that it deals, and for each product
abbrev pub mask_draws_of : ℕ → ℕ
mask_draws_of words = 61 + 61 * (words - 1) + 60

-- the wire of the first bit of the mask whose block begins at a wire
abbrev pub bits_wire_of : ℕ → ℕ → ℕ
bits_wire_of words first = first + 183 * (words - 1)

-- the wire of bit k of a mask of three words whose block begins at a wire
abbrev pub bit_wire_of : ℕ → ℕ → ℕ
bit_wire_of first k = first + WIRES_BEFORE_BITS + k

-- the wire of an item of a list that has so many results from a wire on, and past them the last bit of the mask, whose
-- bits begin at a wire
abbrev pub level_wire : ℕ → ℕ → ℕ → ℕ → ℕ
level_wire bits start results k = if nat_lt k results then start + k else bits + 60

-- The wires of a block, from its first one: the 61 bits of each word, in order; for each word but the first the
-- products of its bits and those of the exclusive or of the words before it, and then the exclusive or with it, of
-- which the last has the bits of the mask; and the products of the first bits, or of a tree's levels.

-- x + y - 2u, where u is the product of x and y
abbrev pub xor_let : ℕ → ℕ → ℕ → Linear
xor_let x y product = three_terms 0 (1, x) (1, y) (p - 2, product)

-- the exclusive or of two words, bit by bit, from the products of their bits
abbrev pub word_lets : ℕ → ℕ → ℕ → List Linear
word_lets left right product = each (λ k. xor_let (left + k) (right + k) (product + k)) 61

-- the product of the bits from a wire on, which the lets form, is opened, a bit after another
abbrev pub chain_batches : List Linear → ℕ → List Batch
chain_batches lets bits =
    mul_batch lets ((bits, bits + 1) ∷ [])
    ∷ (each (λ j. mul_batch [] ((bits + 61 + j, bits + 2 + j) ∷ [])) 59 ++ reveal_batch [] ((bits + 120) ∷ []) ∷ [])

-- the product of a list of n wires, by so many levels, is opened: after the lets the items are multiplied in pairs,
-- whose products begin at the first free wire
abbrev pub tree_batches : ℕ → List Linear → ℕ → (ℕ → ℕ) → ℕ → List Batch
tree_batches zero lets n item free = reveal_batch lets (item 0 ∷ []) ∷ []
tree_batches (suc levels) lets n item free =
    mul_batch lets (each_pair (λ left right. (left, right)) item n)
    ∷ tree_batches levels [] (next_length n) (next_item n item (λ i. free + i)) (free + n / 2)

-- the batches of the product of bits, for each kind of gates; a tree's lists have 61, 31, 16, 8, 4, 2 and 1 items
abbrev pub product_batches : Gates → List Linear → ℕ → List Batch
product_batches Chain lets bits = chain_batches lets bits
product_batches Tree lets bits = tree_batches 6 lets 61 (λ k. bits + k) (bits + 61)

-- the batches if n words are left, of which the first has its bits from `right` on: the exclusive or of those before
-- it, which the lets form, has its bits from `left` on, and the products begin at the first free wire
abbrev pub xor_batches : Gates → ℕ → List Linear → ℕ → ℕ → ℕ → List Batch
xor_batches gates zero lets left right free = product_batches gates lets left
xor_batches gates (suc n) lets left right free =
    mul_batch lets (each (λ k. (left + k, right + k)) 61)
    ∷ xor_batches gates n (word_lets left right free) (free + 61) (right + 61) (free + 122)

-- where the exclusive or of the words so far has its bits after n products with a word, and the lets that form it
abbrev pub left_after : ℕ → ℕ → ℕ → ℕ
left_after left free zero = left
left_after left free (suc n) = free + 122 * n + 61

abbrev pub lets_after : List Linear → ℕ → ℕ → ℕ → ℕ → List Linear
lets_after lets left right free zero = lets
lets_after lets left right free (suc n) = word_lets (left_after left free n) (right + 61 * n) (free + 122 * n)

-- the batches of a block, in order
abbrev pub mask_batches : Gates → ℕ → ℕ → List Batch
mask_batches gates words first = deal_batch ∷ xor_batches gates (words - 1) [] first (first + 61) (first + 61 * words)

-- the bits of words that are dealt, each from the lowest up
abbrev pub bits_of : List ℕ → List ℕ
bits_of [] = []
bits_of (w ∷ []) = each (bit_at w) 61
bits_of (w ∷ x ∷ ws) = each (bit_at w) 61 ++ bits_of (x ∷ ws)

-- the exclusive or of a word and more words, and of words
abbrev pub xor_with : ℕ → List ℕ → ℕ
xor_with w [] = w
xor_with w (x ∷ xs) = xor_with (bit_xor w x) xs

abbrev pub xor_of : List ℕ → ℕ
xor_of [] = 0
xor_of (w ∷ ws) = xor_with w ws

-- the mask of three words
abbrev pub mask_of : ℕ → ℕ → ℕ → ℕ
mask_of a b c = xor_of (a ∷ b ∷ c ∷ [])

-- what a block of so many words leaves on plain values, where r is the mask: the wires before it stand, the bits of r
-- have their place, one number is opened, which is 1 if all 61 bits are 1 and else 0, and one word of each server is
-- dealt
pub record AfterMask (words first r : ℕ) (before after : Values) : Type 0 where
  pub more : List ℕ
  pub wires : after.wires ≡ before.wires ++ more
  pub len : length after.wires ≡ first + mask_wires_of words
  pub bits : (k : ℕ) → k < 61 → slice_index after.wires (bits_wire_of words first + k) ≡ bit_at r k
  pub opened : after.opened ≡ before.opened ++ (if r == p then 1 else 0) ∷ []
  pub dealt : after.dealt ≡ before.dealt + 1
