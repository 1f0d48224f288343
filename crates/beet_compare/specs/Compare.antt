-- The block of a comparison: the masked difference c is opened, and then 1 if supply reaches demand, else 0.
use Rattle.std.specs.Prelude.{◌≡◌, ◌<◌, ◌≤◌, ◌+◌, ◌-◌, ◌*◌, ◌/◌, ◌%◌, ◌==◌, ℕ, zero, suc, List, [], ◌∷◌, ◌++◌, length}
use Rattle.std.specs.Prelude.{slice_index, Bool, if◌then◌else◌}
use Rattle.std.specs.Int.{bit_at}
use Rattle.beet_field.specs.Field.{p, IsElement, add_of, mul_of, sub_of}
use Rattle.beet_gates.specs.declared.TheConstants.{MASK_WIRES, WIRES_BEFORE_BITS}
use Rattle.beet_gates.specs.declared.Batch.{Batch}
use Rattle.beet_gates.specs.declared.Gates.{Gates}
use Rattle.beet_gates.specs.declared.Gates.TheVariants.{Chain, Tree}
use Rattle.beet_gates.specs.declared.Linear.{Linear}
use Rattle.beet_compare.specs.declared.TheConstants.{CHAIN_ROUNDS, CHAIN_WIRES, TREE_ROUNDS, TREE_WIRES}
use Rattle.beet_gates.specs.Batches.{mul_batch, reveal_batch}
use Rattle.beet_gates.specs.Clear.{Values}
use Rattle.beet_gates.specs.Each.{each, by_turns}
use Rattle.beet_gates.specs.Levels.{next_length, next_item}
use Rattle.beet_gates.specs.declared.levels.LevelItems.{LevelItems}
use Rattle.beet_gates.specs.Linears.{three_terms, two_terms, one_term}

-- how many rounds a block takes
abbrev pub compare_rounds_of : Gates → ℕ
compare_rounds_of Chain = CHAIN_ROUNDS
compare_rounds_of Tree = TREE_ROUNDS

-- how many wires a block appends
abbrev pub compare_wires_of : Gates → ℕ
compare_wires_of Chain = CHAIN_WIRES
compare_wires_of Tree = TREE_WIRES

-- how many numbers each server draws in it: one for each product
abbrev pub compare_draws_of : Gates → ℕ
compare_draws_of Chain = 60 + 1
compare_draws_of Tree = 2 * 60 + 1

-- The wires of a block, from its first one: the sums s of the mask's high bits from place 59 down to 0 (0) and the
-- masked difference (60). Of a chain then follow, for k from 1 to 60, the borrow g below k, whether c and r have the
-- same bit k, and the product of both (61 and on, three each); of a tree for each bit the borrow g of it and whether c
-- and r have it the same (61 and on, two each), and then for each level the products and the borrows (183 and on). At
-- the end stand the whole borrow, the low bit of the difference, their product and the answer. Bit k of the mask r is
-- the wire `mask + WIRES_BEFORE_BITS + k`.

-- step 0: s_59 := 2 r_60 + r_59, s_k := 2 s_(k+1) + r_k down to k = 0, e := 2 supply - 2 demand + s_0, and e is opened
abbrev pub masked_batch : ℕ → ℕ → ℕ → ℕ → Batch
masked_batch first mask supply demand =
    reveal_batch
    (two_terms 0 (2, mask + (WIRES_BEFORE_BITS + 60)) (1, mask + (WIRES_BEFORE_BITS + 59))
    ∷ (each (λ k. two_terms 0 (2, first + k) (1, mask + WIRES_BEFORE_BITS + (58 - k))) 59
    ++ three_terms 0 (2, supply) (p - 2, demand) (1, first + 59) ∷ []))
    ((first + 60) ∷ [])

-- the wire if the bit is 1, and 1 less the wire if it is 0
abbrev pub same_let : ℕ → ℕ → Linear
same_let bit wire = if bit == 1 then one_term 0 (1, wire) else one_term 1 (p - 1, wire)

-- step 1: g_0 := (1 - c_0) r_0, q_1 := same_1, and their product
abbrev pub lowest_batch : ℕ → ℕ → ℕ → Batch
lowest_batch first mask c =
    mul_batch
    (one_term 0 (1 - bit_at c 0, mask + WIRES_BEFORE_BITS)
    ∷ same_let (bit_at c 1) (mask + (WIRES_BEFORE_BITS + 1)) ∷ [])
    ((first + 62, first + 61) ∷ [])

-- steps 2 to 60, for j = 0 to 58: g_(j+1) := (1 - c_(j+1)) r_(j+1) + the product before, q_(j+2) := same_(j+2), and
-- their product
abbrev pub bit_batch : ℕ → ℕ → ℕ → ℕ → Batch
bit_batch first mask c j =
    mul_batch
    (two_terms 0 (1 - bit_at c (j + 1), mask + WIRES_BEFORE_BITS + (j + 1)) (1, first + 63 + 3 * j)
    ∷ same_let (bit_at c (j + 2)) (mask + WIRES_BEFORE_BITS + (j + 2)) ∷ [])
    ((first + 65 + 3 * j, first + 64 + 3 * j) ∷ [])

-- the last two batches: after the lets, b := r_0 if c_0 = 0, else 1 - r_0, is the wire `low`, and its product with
-- the whole borrow, which is the wire `borrow`, is f; then o := 1 - b - g + 2 f is opened
abbrev pub low_bit_batch : List Linear → ℕ → ℕ → ℕ → ℕ → Batch
low_bit_batch lets borrow low mask c =
    mul_batch (lets ++ same_let (1 - bit_at c 0) (mask + WIRES_BEFORE_BITS) ∷ []) ((low, borrow) ∷ [])

abbrev pub answer_batch : ℕ → ℕ → Batch
answer_batch borrow low = reveal_batch (three_terms 1 (p - 1, low) (p - 1, borrow) (2, low + 1) ∷ []) ((low + 2) ∷ [])

abbrev pub last_batches : List Linear → ℕ → ℕ → ℕ → ℕ → List Batch
last_batches lets borrow low mask c = low_bit_batch lets borrow low mask c ∷ answer_batch borrow low ∷ []

-- of a chain: step 61 has g_60 := (1 - c_60) r_60 + the product before
abbrev pub last_let : ℕ → ℕ → ℕ → Linear
last_let first mask c = two_terms 0 (1 - bit_at c 60, mask + (WIRES_BEFORE_BITS + 60)) (1, first + 240)

abbrev pub chain_batches : ℕ → ℕ → ℕ → List Batch
chain_batches first mask c =
    lowest_batch first mask c
    ∷ (each (bit_batch first mask c) 59 ++ last_batches (last_let first mask c ∷ []) (first + 241) (first + 242) mask c)

-- of a tree: step 1 has for each bit g_k := (1 - c_k) r_k and q_k := same_k
abbrev pub borrow_lets : ℕ → ℕ → List Linear
borrow_lets mask c =
    each (by_turns (λ k. one_term 0 (1 - bit_at c k, mask + WIRES_BEFORE_BITS + k))
    (λ k. same_let (bit_at c k) (mask + WIRES_BEFORE_BITS + k))) (2 * 61)

-- the products of so many pairs of wires g and q: of each pair that of the high q and the low g, and that of the high
-- and the low q
abbrev pub level_products : ℕ → (ℕ → ℕ) → (ℕ → ℕ) → List (ℕ × ℕ)
level_products pairs g q =
    each (by_turns (λ i. (q (2 * i + 1), g (2 * i))) (λ i. (q (2 * i + 1), q (2 * i)))) (2 * pairs)

-- the lets that the next batch begins with, if the products begin at the first free wire: of each pair g := the high
-- g + the high q times the low g
abbrev pub level_lets : ℕ → (ℕ → ℕ) → ℕ → List Linear
level_lets pairs g free = each (λ i. two_terms 0 (1, g (2 * i + 1)) (1, free + 2 * i)) pairs

-- the wires g and q of the next list
abbrev pub next_less : ℕ → (ℕ → ℕ) → ℕ → ℕ → ℕ
next_less n g free = next_item n g (λ i. free + 2 * (n / 2) + i)

abbrev pub next_same : ℕ → (ℕ → ℕ) → ℕ → ℕ → ℕ
next_same n q free = next_item n q (λ i. free + 1 + 2 * i)

-- the wires g and q of a tree's bits, and of the list after a level with so many results whose products begin at a
-- wire; what is carried is the last bit
abbrev pub bits_less : ℕ → LevelItems
bits_less first = record { start = first + 61; step = 2; results = 61; carried = first + 61 + 2 * 60 }

abbrev pub bits_same : ℕ → LevelItems
bits_same first = record { start = first + 62; step = 2; results = 61; carried = first + 62 + 2 * 60 }

abbrev pub level_less : ℕ → ℕ → ℕ → LevelItems
level_less first products results =
    record { start = products + 2 * results; step = 1; results = results; carried = first + 61 + 2 * 60 }

abbrev pub level_same : ℕ → ℕ → ℕ → LevelItems
level_same first products results =
    record { start = products + 1; step = 2; results = results; carried = first + 62 + 2 * 60 }

-- so many levels and the last two batches, from the lets of the first batch, the list, and the first free wire after
-- these lets
abbrev pub tree_batches : ℕ → ℕ → ℕ → List Linear → ℕ → (ℕ → ℕ) → (ℕ → ℕ) → ℕ → List Batch
tree_batches zero mask c lets n g q free = last_batches lets (g 0) free mask c
tree_batches (suc levels) mask c lets n g q free =
    mul_batch lets (level_products (n / 2) g q)
    ∷ tree_batches levels mask c (level_lets (n / 2) g free) (next_length n) (next_less n g free) (next_same n q free)
    (free + 2 * (n / 2) + n / 2)

-- the batches after c was opened, in order; the lists of a tree have 61, 31, 16, 8, 4, 2 and 1 items
abbrev pub borrow_batches : Gates → ℕ → ℕ → ℕ → List Batch
borrow_batches Chain first mask c = chain_batches first mask c
borrow_batches Tree first mask c =
    tree_batches 6 mask c (borrow_lets mask c) 61 (λ k. first + 61 + 2 * k) (λ k. first + 62 + 2 * k) (first + 183)

-- the batches of a block, in order
abbrev pub compare_batches : Gates → ℕ → ℕ → ℕ → ℕ → ℕ → List Batch
compare_batches gates first mask supply demand c =
    masked_batch first mask supply demand ∷ borrow_batches gates first mask c

-- twice the difference, modulo p
abbrev pub doubled : ℕ → ℕ → ℕ
doubled supply demand = mul_of 2 (sub_of supply demand)

-- whether twice the difference is even, which it is if supply reaches demand
abbrev pub is_doubled_even : ℕ → ℕ → Bool
is_doubled_even supply demand = doubled supply demand % 2 == 0

-- where a comparison may stand on plain values: at its first wire, after the two sums that it compares and an accepted
-- mask r with its bits in their place
pub record BeforeCompare (first mask supply demand r s d : ℕ) (before : Values) : Type 0 where
  pub len : length before.wires ≡ first
  pub accepted : IsElement r
  pub room : mask + MASK_WIRES ≤ first
  pub bits : (k : ℕ) → k < 61 → slice_index before.wires (mask + WIRES_BEFORE_BITS + k) ≡ bit_at r k
  pub supply_before : supply < first
  pub demand_before : demand < first
  pub supply_is : slice_index before.wires supply ≡ s
  pub demand_is : slice_index before.wires demand ≡ d
  pub supply_element : IsElement s
  pub demand_element : IsElement d

-- what it leaves: the wires before it stand, the masked difference and the answer are opened, and no word is dealt; the
-- answer is 1 if twice the difference is even, else 0
pub record AfterCompare (gates : Gates) (first r s d : ℕ) (before after : Values) : Type 0 where
  pub more : List ℕ
  pub wires : after.wires ≡ before.wires ++ more
  pub len : length after.wires ≡ first + compare_wires_of gates
  pub opened : after.opened ≡ before.opened ++ add_of (doubled s d) r ∷ (if is_doubled_even s d then 1 else 0) ∷ []
  pub dealt : after.dealt ≡ before.dealt
