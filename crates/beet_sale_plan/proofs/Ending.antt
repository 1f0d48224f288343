-- The last batch of a comparison opens its last wire, and what else is asked of blocks of which selections are made.
use Rattle.std.proofs.Common.{◌≡◌, ℕ, zero, suc, ◌+◌, ◌-◌, ◌*◌, ◌/◌, ◌<◌, ◌≤◌, List, [], ◌∷◌, ◌++◌, length, refl, ap, sym, arith}
use Rattle.std.proofs.Common.{append_assoc, length-append}
use Rattle.beet_field.specs.Field.{p}
use Rattle.beet_gates.specs.declared.Batch.{Batch}
use Rattle.beet_gates.specs.declared.Linear.{Linear}
use Rattle.beet_gates.specs.declared.Gates.{Gates}
use Rattle.beet_gates.specs.declared.Gates.TheVariants.{Chain, Tree}
use Rattle.beet_gates.specs.declared.TheConstants.{WIRES_BEFORE_BITS}
use Rattle.beet_gates.specs.Batches.{mul_batch, reveal_batch}
use Rattle.beet_gates.specs.Each.{each}
use Rattle.beet_gates.specs.Levels.{next_length}
use Rattle.beet_gates.specs.Linears.{two_terms, three_terms}
use Rattle.beet_gates.proofs.EachFacts.{length-each}
use Rattle.beet_compare.specs.Compare.{lowest_batch, bit_batch, low_bit_batch, answer_batch, last_let, tree_batches}
use Rattle.beet_compare.specs.Compare.{level_products, level_lets, next_less, next_same, borrow_lets}
use Rattle.beet_masking.specs.Blocks.{Blocks, blocks_of, after_mask}
use Rattle.beet_masking.proofs.BlockLaws.{AreBlocks, are-blocks}
use Rattle.beet_sale_plan.specs.Selections.{result_wire}

-- the last batch opens this wire after some lets
pub record EndsShown (bs : List Batch) (wire : ℕ) : Type 0 where
  pub init : List Batch
  pub lets : List Linear
  pub is : bs ≡ init ++ reveal_batch lets (wire ∷ []) ∷ []
  pub few : length lets ≤ 1

-- blocks of which selections may be made: a comparison opens its last wire at last, few lets stand before a masked
-- difference, and the bits of a mask are wires of its block
pub record MaySelect (g : Blocks) : Type 0 where
  pub are : AreBlocks g
  pub ends : (first mask c : ℕ) → EndsShown (g.answer first mask c) (result_wire g first)
  pub few_lets : (first mask left right : ℕ) → length (g.masked first mask left right).lets.items ≤ 64
  pub within : (first k : ℕ) → k < 61 → g.bit first k < after_mask g first
  pub some : 1 ≤ g.compare_wires

-- the wire that a tree's last batch opens
abbrev tree_end : ℕ → ℕ → ℕ → ℕ
tree_end zero n free = free + 2
tree_end (suc levels) n free = tree_end levels (next_length n) (free + 2 * (n / 2) + n / 2)

tree-ends : (mask c levels : ℕ) (lets : List Linear) (n : ℕ) (g q : ℕ → ℕ) (free : ℕ) →
    EndsShown (tree_batches levels mask c lets n g q free) (tree_end levels n free)
tree-ends mask c zero lets n g q free =
    record { init = low_bit_batch lets (g 0) free mask c ∷ []; lets = _; is = refl; few = omega arith }
tree-ends mask c (suc levels) lets n g q free =
    let b = mul_batch lets (level_products (n / 2) g q) in
    let rest = tree-ends mask c levels (level_lets (n / 2) g free) (next_length n) (next_less n g free) (next_same n q free)
    (free + 2 * (n / 2) + n / 2) in
    record { init = b ∷ rest.init; lets = rest.lets; is = ap (λ (l : List Batch). b ∷ l) rest.is; few = rest.few }

answers-end : (gates : Gates) (first mask c : ℕ) →
    EndsShown ((blocks_of gates).answer first mask c) (result_wire (blocks_of gates) first)
answers-end Chain first mask c =
    let bits = each (bit_batch first mask c) 59 in
    let low = low_bit_batch (last_let first mask c ∷ []) (first + 241) (first + 242) mask c in
    let e : first + 242 + 2 ≡ first + (245 - 1) = omega arith in
    rw (← e) (record {
      init = lowest_batch first mask c ∷ (bits ++ low ∷ []);
      lets = _;
      is = ap (λ (l : List Batch). lowest_batch first mask c ∷ l)
          (sym (append_assoc bits (low ∷ []) (answer_batch (first + 241) (first + 242) ∷ [])));
      few = omega arith;
    })
answers-end Tree first mask c =
    let e : tree_end 6 61 (first + 183) ≡ first + (366 - 1) = omega arith in
    rw (← e) (tree-ends mask c 6 (borrow_lets mask c) 61 (λ k. first + 61 + 2 * k) (λ k. first + 62 + 2 * k) (first + 183))

few-lets : (gates : Gates) (first mask left right : ℕ) →
    length ((blocks_of gates).masked first mask left right).lets.items ≤ 64
few-lets gates first mask left right =
    let rule : ℕ → Linear = λ k. two_terms 0 (2, first + k) (1, mask + WIRES_BEFORE_BITS + (58 - k)) in
    omega (
      arith,
      length-append (each rule 59) (three_terms 0 (2, left) (p - 2, right) (1, first + 59) ∷ []),
      length-each rule 59,
    )

some-wires : (gates : Gates) → 1 ≤ (blocks_of gates).compare_wires
some-wires Chain = omega arith
some-wires Tree = omega arith

pub may-select : (gates : Gates) → MaySelect (blocks_of gates)
may-select gates = record {
  are = are-blocks gates;
  ends = answers-end gates;
  few_lets = few-lets gates;
  within = λ first k h. omega arith;
  some = some-wires gates;
}
