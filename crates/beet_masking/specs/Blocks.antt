-- The blocks of masks and comparisons, as one value for each kind of gates.
use Rattle.std.specs.Prelude.{◌+◌, ℕ, List}
use Rattle.beet_gates.specs.declared.Batch.{Batch}
use Rattle.beet_gates.specs.declared.Gates.{Gates}
use Rattle.beet_gates.specs.declared.Gates.TheVariants.{Chain}
use Rattle.beet_mask.specs.Mask.{bit_wire_of, mask_batches, mask_draws_of, mask_rounds_of, mask_wires_of}
use Rattle.beet_compare.specs.Compare.{borrow_batches, compare_draws_of, compare_rounds_of, compare_wires_of}
use Rattle.beet_compare.specs.Compare.{masked_batch}

-- How many words a mask has, one of each server. The batches of a mask, from its first wire on, and the wire of bit k
-- of the mask whose block begins at a wire; the batch that opens a masked difference, from its first wire, the first
-- wire of the mask and the two wires that are compared, and the batches after it, which open the answer, from the same
-- first wires and the opened number. Then the rounds and wires of each block, and the numbers that each server draws in
-- it.
pub record Blocks : Type 0 where
  pub words : ℕ
  pub mask : ℕ → List Batch
  pub bit : ℕ → ℕ → ℕ
  pub masked : ℕ → ℕ → ℕ → ℕ → Batch
  pub answer : ℕ → ℕ → ℕ → List Batch
  pub mask_rounds : ℕ
  pub mask_wires : ℕ
  pub mask_draws : ℕ
  pub compare_rounds : ℕ
  pub compare_wires : ℕ
  pub compare_draws : ℕ

-- the blocks of a kind of gates
abbrev pub blocks_of : Gates → Blocks
blocks_of gates = record {
  words = 3;
  mask = mask_batches gates 3;
  bit = bit_wire_of;
  masked = masked_batch;
  answer = borrow_batches gates;
  mask_rounds = mask_rounds_of gates 3;
  mask_wires = mask_wires_of 3;
  mask_draws = mask_draws_of 3;
  compare_rounds = compare_rounds_of gates;
  compare_wires = compare_wires_of gates;
  compare_draws = compare_draws_of gates;
}

-- the blocks of five servers, with chain gates: a mask's bits stand as much later as in a block of three words that
-- begins 366 wires on
abbrev pub five_blocks : Blocks
five_blocks = record {
  words = 5;
  mask = mask_batches Chain 5;
  bit = λ first. bit_wire_of (first + 366);
  masked = λ first mask. masked_batch first (mask + 366);
  answer = λ first mask. borrow_batches Chain first (mask + 366);
  mask_rounds = mask_rounds_of Chain 5;
  mask_wires = mask_wires_of 5;
  mask_draws = mask_draws_of 5;
  compare_rounds = compare_rounds_of Chain;
  compare_wires = compare_wires_of Chain;
  compare_draws = compare_draws_of Chain;
}

-- the first free wire after a mask that begins at a wire, and after a comparison that follows it
abbrev pub after_mask : Blocks → ℕ → ℕ
after_mask blocks first = first + blocks.mask_wires

abbrev pub after_both : Blocks → ℕ → ℕ
after_both blocks first = first + (blocks.mask_wires + blocks.compare_wires)
