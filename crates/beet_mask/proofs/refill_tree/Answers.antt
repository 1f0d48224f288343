use Rattle.std.proofs.Common.{◌≡◌, ℕ, ◌+◌, ◌*◌, ◌<◌, [], ap, ◌∙◌, true, refl, arith}
use Rattle.std.specs.Prelude.{nat_lt}
use Rattle.std.proofs.lemmas.Bool.Decides.{nat_tests}
use Rattle.beet_gates.specs.Batches.{mul_batch}
use Rattle.beet_gates.specs.Levels.{next_item}
use Rattle.beet_gates.proofs.LevelRuns.{pairs-same}
use Rattle.beet_mask.specs.Mask.{level_wire}
use Rattle.beet_mask.proofs.MaskTable.{level-plain}
use Rattle.beet_mask.proofs.refill_tree.Goals as goal

-- the lists after the first, second and third level
abbrev list_one : ℕ → ℕ → ℕ
list_one bits = next_item 61 (λ k. bits + k) (λ i. bits + 61 + i)

abbrev list_two : ℕ → ℕ → ℕ
list_two bits = next_item 31 (list_one bits) (λ i. bits + 61 + 30 + i)

abbrev list_three : ℕ → ℕ → ℕ
list_three bits = next_item 16 (list_two bits) (λ i. bits + 61 + 30 + 15 + i)

pub returns-in-0 : goal.returns-in-0
returns-in-0 c =
    let bits = c.args.bits in
    let wire = level_wire bits bits 61 in
    let bit : (k : ℕ) → k < 2 * 30 → wire k ≡ bits + k = λ k l. let t : nat_lt k 61 ≡ true = grind (arith, nat_tests) in rw t refl in
    let pair : ℕ → ℕ → ℕ × ℕ = λ left right. (left, right) in
    rw c.in-0.is (c.set_level.ensures ∙ ap (mul_batch c.args.batch.now.lets.items) (pairs-same pair wire (λ k. bits + k) 30 bit))

pub returns-in-2 : goal.returns-in-2
returns-in-2 c = let e : c.args.bits + 91 ≡ c.args.bits + 61 + 30 = omega arith in
    rw (c.in-2.is, c.set_level-in-2.ensures, c.requires.none (omega arith), e) refl

pub returns-in-3 : goal.returns-in-3
returns-in-3 c =
    let bits = c.args.bits in
    let free = bits + 61 + 30 + 15 in
    let e : bits + 106 ≡ free = omega arith in
    rw (c.in-3.is, c.set_level-in-3.ensures, c.requires.none (omega arith))
    (ap (mul_batch []) (level-plain bits (bits + 106) 8 16 free (list_two bits) 4 (omega arith) (omega arith) e))

pub returns-in-4 : goal.returns-in-4
returns-in-4 c =
    let bits = c.args.bits in
    let free = bits + 61 + 30 + 15 + 8 in
    let e : bits + 114 ≡ free = omega arith in
    rw (c.in-4.is, c.set_level-in-4.ensures, c.requires.none (omega arith))
    (ap (mul_batch []) (level-plain bits (bits + 114) 4 8 free (list_three bits) 2 (omega arith) (omega arith) e))

pub returns-in-5 : goal.returns-in-5
returns-in-5 c =
    let bits = c.args.bits in
    let free = bits + 61 + 30 + 15 + 8 + 4 in
    let e : bits + 118 ≡ free = omega arith in
    rw (
      c.in-5.is,
      c.set_level-in-5.ensures,
      c.requires.none (omega arith),
    ) (ap (mul_batch []) (level-plain bits (bits + 118) 2 4 free
    (next_item 8 (list_three bits) (λ i. bits + 61 + 30 + 15 + 8 + i)) 1 (omega arith) (omega arith) e))

pub returns-in-6 : goal.returns-in-6
returns-in-6 c = let e : c.args.bits + 120 ≡ c.args.bits + 61 + 30 + 15 + 8 + 4 + 2 + 0 = omega arith in
    rw (c.in-6.is, c.set_opening.ensures, c.requires.none (omega arith), e) refl
