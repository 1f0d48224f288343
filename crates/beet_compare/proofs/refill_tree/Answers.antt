use Rattle.std.proofs.Common.{◌≡◌, ℕ, ◌+◌, ◌*◌, ◌<◌, List, true, refl, ap, ◌∙◌, arith}
use Rattle.std.specs.Prelude.{nat_lt}
use Rattle.std.proofs.lemmas.Bool.Decides.{nat_tests}
use Rattle.beet_gates.specs.Batches.{mul_batch}
use Rattle.beet_gates.specs.declared.Linear.{Linear}
use Rattle.beet_gates.specs.Levels.{wire_of}
use Rattle.beet_compare.specs.Compare.{answer_batch, borrow_lets, bits_less, bits_same, level_less, level_lets, level_same, low_bit_batch}
use Rattle.beet_compare.proofs.TreeTable as table
use Rattle.beet_compare.proofs.refill_tree.Goals as goal

-- the items of the bits
bit-less : (first k : ℕ) → k < 61 → wire_of (bits_less first) k ≡ first + 61 + 2 * k
bit-less first k l = let t : nat_lt k 61 ≡ true = grind (arith, nat_tests) in rw t refl

bit-same : (first k : ℕ) → k < 61 → wire_of (bits_same first) k ≡ first + 62 + 2 * k
bit-same first k l = let t : nat_lt k 61 ≡ true = grind (arith, nat_tests) in rw t refl

pub returns-in-0 : goal.returns-in-0
returns-in-0 c =
    let first = c.args.first in
    rw c.in-0.is (c.set_bits.ensures ∙ ap (mul_batch (borrow_lets c.args.mask c.args.c))
    (table.products-told 30 (wire_of (bits_less first)) (wire_of (bits_same first)) (λ k. first + 61 + 2 * k) (λ k. first + 62 + 2 * k)
    (λ k l. bit-less first k (omega (arith, l))) (λ k l. bit-same first k (omega (arith, l)))))

pub returns-in-1 : goal.returns-in-1
returns-in-1 c =
    let first = c.args.first in
    rw c.in-1.is (c.set_level.ensures ∙ rw c.bits_less.ensures
    (table.level-after first 61 (first + 183) (first + 183) refl 15 (wire_of (bits_less first))
    (λ k. first + 61 + 2 * k) (λ k. first + 62 + 2 * k) (omega arith) (λ k l. bit-less first k (omega (arith, l)))))

pub returns-in-2 : goal.returns-in-2
returns-in-2 c =
    let first = c.args.first in
    let before = first + 183 in
    let free = before + 60 + 30 in
    let e : first + 273 ≡ free = omega arith in
    rw c.in-2.is (c.set_level-in-2.ensures ∙ rw c.level_less.ensures
    (table.level-told 15 8 (wire_of (level_less first before 30)) (table.less_one first) (table.less_two first) (table.same_two first)
    (wire_of (level_less first (first + 273) 15)) (wire_of (level_same first (first + 273) 15)) (first + 273) free e
    (λ k l. table.less-told first 61 before before refl (λ i. first + 61 + 2 * i) k l)
    (λ k l. table.less-all first 31 (first + 273) free e (table.less_one first) refl k)
    (λ k l. table.same-all first 31 (first + 273) free e (table.same_one first) refl k)))

pub returns-in-3 : goal.returns-in-3
returns-in-3 c =
    let first = c.args.first in
    let before = first + 183 + 60 + 30 in
    let d : first + 273 ≡ before = omega arith in
    rw c.in-3.is (c.set_level-in-3.ensures ∙ rw c.level_less-in-3.ensures
    (table.level-after first 16 (first + 318) (before + 30 + 15) (omega arith) 4 (wire_of (level_less first (first + 273) 15))
    (table.less_two first) (table.same_two first) (omega arith)
    (λ k l. table.less-all first 31 (first + 273) before d (table.less_one first) refl k)))

pub returns-in-4 : goal.returns-in-4
returns-in-4 c =
    let first = c.args.first in
    let before = first + 183 + 60 + 30 + 30 + 15 in
    rw c.in-4.is (c.set_level-in-4.ensures ∙ rw c.level_less-in-4.ensures
    (table.level-later first 16 (first + 318) before (first + 342) (before + 16 + 8) 2 (table.less_two first) (table.same_two first)
    (omega arith) (omega arith) (omega arith)))

pub returns-in-5 : goal.returns-in-5
returns-in-5 c =
    let first = c.args.first in
    let before = first + 183 + 60 + 30 + 30 + 15 + 16 + 8 in
    rw c.in-5.is (c.set_level-in-5.ensures ∙ rw c.level_less-in-5.ensures
    (table.level-later first 8 (first + 342) before (first + 354) (before + 8 + 4) 1 (table.less_three first) (table.same_three first)
    (omega arith) (omega arith) (omega arith)))

pub returns-in-6 : goal.returns-in-6
returns-in-6 c =
    let first = c.args.first in
    let mask = c.args.mask in
    let opened = c.args.c in
    let before = first + 183 + 60 + 30 + 30 + 15 + 16 + 8 + 8 + 4 in
    let free = before + 4 + 2 in
    let d : first + 354 ≡ before = omega arith in
    let e : first + 360 ≡ free = omega arith in
    let borrow : first + 362 ≡ free + 2 + 0 = omega arith in
    let low : first + 363 ≡ free + 2 + 1 = omega arith in
    let lets = table.lets-told 1 (wire_of (level_less first (first + 354) 2)) (table.less_five first) (first + 360) free e
    (λ k l. table.less-told first 4 (first + 354) before d (table.less_four first) k l) in
    rw c.in-6.is (c.set_last_level.ensures
    ∙ ap (λ (l : List Linear). low_bit_batch l (first + 362) (first + 363) mask opened) lets
    ∙ ap (λ (n : ℕ). low_bit_batch (level_lets 1 (table.less_five first) free) n (first + 363) mask opened) borrow
    ∙ ap (λ (n : ℕ). low_bit_batch (level_lets 1 (table.less_five first) free) (free + 2 + 0) n mask opened) low)

pub returns-in-7 : goal.returns-in-7
returns-in-7 c =
    let first = c.args.first in
    let free = first + 183 + 60 + 30 + 30 + 15 + 16 + 8 + 8 + 4 + 4 + 2 in
    let borrow : first + 362 ≡ free + 2 + 0 = omega arith in
    let low : first + 363 ≡ free + 2 + 1 = omega arith in
    rw c.in-7.is (c.set_answer.ensures ∙ ap (λ (n : ℕ). answer_batch n (first + 363)) borrow ∙ ap (answer_batch (free + 2 + 0)) low)
