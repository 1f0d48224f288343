-- What the block of a comparison does in a clear run.
use Rattle.std.proofs.Common.{◌≡◌, ℕ, length, ◌+◌, ◌-◌, ◌%◌, List, [], ◌∷◌, ◌++◌, ap, ◌∙◌, arith, append_assoc}
use Rattle.std.specs.Prelude.{if◌then◌else◌}
use Rattle.std.specs.Int.{bit_at}
use Rattle.beet_field.specs.Field.{add_of}
use Rattle.beet_gates.specs.declared.Gates.{Gates}
use Rattle.beet_gates.specs.declared.Gates.TheVariants.{Chain, Tree}
use Rattle.beet_gates.specs.Clear.{Values, batch_on, batches_on}
use Rattle.beet_gates.proofs.Segments.{Holds, holds-append}
use Rattle.beet_compare.specs.Compare.{masked_batch, borrow_batches, compare_batches, doubled, is_doubled_even, BeforeCompare, AfterCompare}
use Rattle.beet_compare.proofs.Borrow.{borrow, same}
use Rattle.beet_compare.proofs.MaskedRun.{masked-run}
use Rattle.beet_compare.proofs.BorrowRun.{AfterBorrow, chain-run}
use Rattle.beet_compare.proofs.TreeRun.{tree-run}
use Rattle.beet_compare.proofs.Parity.{answer-parity, answer-even}

-- the batches after the opened c
borrow-run : (deals : ℕ → List ℕ) (gates : Gates) (first mask c r : ℕ) (v : Values) → length v.wires ≡ first + 61 →
    Holds v.wires (mask + 366) 61 (bit_at r) →
    AfterBorrow gates first c r v (batches_on deals (borrow_batches gates first mask c) v)
borrow-run deals Chain first mask c r v len bits = chain-run deals first mask c r v len bits
borrow-run deals Tree first mask c r v len bits = tree-run deals mask c r first v len bits

pub compare-run : (deals : ℕ → List ℕ) (gates : Gates) (first mask supply demand r s d : ℕ) (before : Values) →
    BeforeCompare first mask supply demand r s d before →
    AfterCompare gates first r s d before
    (batches_on deals (compare_batches gates first mask supply demand (add_of (doubled s d) r)) before)
compare-run deals gates first mask supply demand r s d before h =
    let bits : Holds before.wires (mask + 366) 61 (bit_at r) = record { room = omega (arith, h.len, h.room); at = h.bits } in
    let c = add_of (doubled s d) r in
    let middle = batch_on deals (masked_batch first mask supply demand) before in
    let m = masked-run deals first mask supply demand r s d before h.len h.accepted h.supply_element h.demand_element bits
    h.supply_before h.demand_before h.supply_is h.demand_is in
    let bits_then : Holds middle.wires (mask + 366) 61 (bit_at r) = rw m.wires (holds-append before.wires m.more (mask + 366) 61 _ bits) in
    let after = batches_on deals (borrow_batches gates first mask c) middle in
    let b = borrow-run deals gates first mask c r middle m.len bits_then in
    let o = (1 + same (1 - bit_at c 0) (bit_at r 0) + borrow c r 61) % 2 in
    let even : (1 + same (1 - bit_at c 0) (bit_at r 0) + borrow c r 61) % 2 ≡ (if is_doubled_even s d then 1 else 0) =
    answer-parity (doubled s d) r (omega arith) h.accepted ∙ answer-even s d in
    record {
      more = m.more ++ b.more;
      wires = b.wires ∙ ap (λ (l : List ℕ). l ++ b.more) m.wires ∙ append_assoc before.wires m.more b.more;
      len = b.len;
      opened =
          b.opened ∙ ap (λ (l : List ℕ). l ++ o ∷ []) m.opened ∙ append_assoc before.opened (c ∷ []) (o ∷ [])
          ∙ ap (λ (n : ℕ). before.opened ++ c ∷ n ∷ []) even;
      dealt = b.dealt ∙ m.dealt;
    }
