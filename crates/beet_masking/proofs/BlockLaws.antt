-- What is asked of the blocks of a kind of gates, and that both kinds keep it.
use Rattle.std.proofs.Common.{◌≡◌, ℕ, ◌+◌, ◌^◌, ◌<◌, ◌≤◌, List, [], ◌∷◌, ◌++◌, length, slice_index, refl, sym, ap}
use Rattle.std.proofs.Common.{subst, ◌∙◌, arith, append_assoc}
use Rattle.std.specs.Prelude.{if◌then◌else◌, ◌==◌}
use Rattle.std.specs.Int.{bit_at}
use Rattle.beet_field.specs.Field.{p, IsElement, add_of}
use Rattle.beet_gates.specs.Clear.{Values, batches_on}
use Rattle.beet_gates.proofs.PlanRuns.{BlockStands, after_all}
use Rattle.beet_gates.specs.Scripts.{Standing}
use Rattle.beet_gates.specs.declared.Gates.{Gates}
use Rattle.beet_gates.specs.declared.TheConstants.{MASK_WIRES}
use Rattle.beet_gates.specs.declared.Gates.TheVariants.{Chain, Tree}
use Rattle.beet_gates.proofs.Segments.{Holds}
use Rattle.beet_gates.proofs.Standings.{Moved}
use Rattle.beet_mask.specs.Mask.{AfterMask, bit_wire_of, bits_of, mask_batches, mask_draws_of, xor_of}
use Rattle.beet_mask.proofs.MaskRun.{mask-run}
use Rattle.beet_mask.proofs.MaskStands.{mask-stands}
use Rattle.beet_mask.proofs.MaskTable.{length-mask_batches}
use Rattle.beet_compare.specs.Compare.{BeforeCompare, borrow_batches, masked_batch, compare_draws_of, compare_wires_of}
use Rattle.beet_compare.specs.Compare.{doubled, is_doubled_even}
use Rattle.beet_compare.proofs.CompareRun.{compare-run}
use Rattle.beet_compare.proofs.CompareStands.{masked-stands, borrow-stands}
use Rattle.beet_compare.proofs.CompareTable.{length-compare_batches}
use Rattle.beet_compare.proofs.MaskedRun.{masked-run}
use Rattle.beet_masking.specs.Blocks.{Blocks, blocks_of, five_blocks}
use Rattle.beet_masking.specs.declared.TheConstants.{MASK_COEFFICIENTS}

-- what a mask leaves on plain values: the bits of the mask r have their wires, and the opened number is 1 where all 61 are 1, else 0
pub record MaskLeft (g : Blocks) (first r : ℕ) (before after : Values) : Type 0 where
  pub more : List ℕ
  pub wires : after.wires ≡ before.wires ++ more
  pub len : length after.wires ≡ first + g.mask_wires
  pub bits : (k : ℕ) → k < 61 → slice_index after.wires (g.bit first k) ≡ bit_at r k
  pub opened : after.opened ≡ before.opened ++ (if r == p then 1 else 0) ∷ []
  pub dealt : after.dealt ≡ before.dealt + 1

-- words below 2^61
abbrev pub AreSmall : List ℕ → Type 0
AreSmall words = (k : ℕ) → slice_index words k < 2 ^ 61

pub record MaskLaw (g : Blocks) : Type 0 where
  pub rounds : (first : ℕ) → length (g.mask first) ≡ g.mask_rounds
  pub stands : (s : Standing) → s.dealers ≡ g.words → BlockStands s (g.mask s.wires)
  pub moves : (s : Standing) → s.dealers ≡ g.words → Moved s (after_all s (g.mask s.wires)) g.mask_wires 1 g.mask_draws
  pub runs : (deals : ℕ → List ℕ) (first : ℕ) (words : List ℕ) (before : Values) → length words ≡ g.words → AreSmall words →
      length before.wires ≡ first → deals before.dealt ≡ bits_of words →
      MaskLeft g first (xor_of words) before (batches_on deals (g.mask first) before)

-- where two sums s and d may be compared: after an accepted mask r whose bits have their wires
pub record MayCompare (g : Blocks) (first mask supply demand r s d : ℕ) (before : Values) : Type 0 where
  pub len : length before.wires ≡ first
  pub accepted : IsElement r
  pub room : mask + g.mask_wires ≤ first
  pub bits : (k : ℕ) → k < 61 → slice_index before.wires (g.bit mask k) ≡ bit_at r k
  pub supply_before : supply < first
  pub demand_before : demand < first
  pub supply_is : slice_index before.wires supply ≡ s
  pub demand_is : slice_index before.wires demand ≡ d
  pub supply_element : IsElement s
  pub demand_element : IsElement d

-- what a comparison leaves: twice the difference with the mask added was opened, and then 1 where twice the difference is even, else 0
pub record CompareLeft (g : Blocks) (first r s d : ℕ) (before middle after : Values) : Type 0 where
  pub more : List ℕ
  pub wires : after.wires ≡ before.wires ++ more
  pub len : length after.wires ≡ first + g.compare_wires
  pub masked : middle.opened ≡ before.opened ++ add_of (doubled s d) r ∷ []
  pub opened : after.opened ≡ middle.opened ++ (if is_doubled_even s d then 1 else 0) ∷ []
  pub dealt : after.dealt ≡ before.dealt

-- the law of comparisons
pub record CompareLaw (g : Blocks) : Type 0 where
  pub rounds : (first mask c : ℕ) → 1 + length (g.answer first mask c) ≡ g.compare_rounds
  pub masked_stands : (mask supply demand : ℕ) (s : Standing) → mask + g.mask_wires ≤ s.wires → supply < s.wires → demand < s.wires →
      BlockStands s (g.masked s.wires mask supply demand ∷ [])
  pub answer_stands : (mask supply demand c : ℕ) (s : Standing) → mask + g.mask_wires ≤ s.wires → supply < s.wires → demand < s.wires →
      BlockStands (after_all s (g.masked s.wires mask supply demand ∷ [])) (g.answer s.wires mask c)
  pub moves : (mask supply demand c : ℕ) (s : Standing) → mask + g.mask_wires ≤ s.wires → supply < s.wires → demand < s.wires →
      Moved s (after_all (after_all s (g.masked s.wires mask supply demand ∷ [])) (g.answer s.wires mask c))
      g.compare_wires 0 g.compare_draws
  pub runs : (deals : ℕ → List ℕ) (first mask supply demand r s d : ℕ) (before : Values) →
      MayCompare g first mask supply demand r s d before →
      (let middle = batches_on deals (g.masked first mask supply demand ∷ []) before in
      CompareLeft g first r s d before middle (batches_on deals (g.answer first mask (add_of (doubled s d) r)) middle))

-- blocks of which a script may be made
pub record AreBlocks (g : Blocks) : Type 0 where
  pub masks : MaskLaw g
  pub comparisons : CompareLaw g
  pub few_wires : g.compare_wires ≤ compare_wires_of Tree
  pub few_draws : g.mask_draws + g.compare_draws ≤ MASK_COEFFICIENTS

-- what a block of so many words does
runs-words : (gates : Gates) (n : ℕ) (deals : ℕ → List ℕ) (first : ℕ) (words : List ℕ) (before : Values) → 2 ≤ n →
    length words ≡ n → AreSmall words →
    length before.wires ≡ first → deals before.dealt ≡ bits_of words →
    AfterMask n first (xor_of words) before (batches_on deals (mask_batches gates n first) before)
runs-words gates n deals first [] before some count small len dealt = absurd (omega arith)
runs-words gates n deals first (a ∷ []) before some count small len dealt = absurd (omega arith)
runs-words gates n deals first (a ∷ b ∷ ws) before some count small len dealt =
    let e : 2 + length ws ≡ n = omega arith in
    subst (λ m. AfterMask m first (xor_of (a ∷ b ∷ ws)) before (batches_on deals (mask_batches gates m first) before)) e
    (mask-run deals gates first a b ws before small len dealt)

mask-laws : (gates : Gates) → MaskLaw (blocks_of gates)
mask-laws gates = record {
  rounds = λ first. length-mask_batches gates 3 first (omega arith);
  stands = λ s dealers. (mask-stands gates 3 s.wires s (omega arith) refl dealers).0;
  moves = λ s dealers. (mask-stands gates 3 s.wires s (omega arith) refl dealers).1;
  runs = λ deals first words before count small len dealt.
      let a = runs-words gates 3 deals first words before (omega arith) count small len dealt in
      record { more = a.more; wires = a.wires; len = a.len; bits = a.bits; opened = a.opened; dealt = a.dealt };
}

five-masks : MaskLaw five_blocks
five-masks = record {
  rounds = λ first. length-mask_batches Chain 5 first (omega arith);
  stands = λ s dealers. (mask-stands Chain 5 s.wires s (omega arith) refl dealers).0;
  moves = λ s dealers. (mask-stands Chain 5 s.wires s (omega arith) refl dealers).1;
  runs = λ deals first words before count small len dealt.
      let a = runs-words Chain 5 deals first words before (omega arith) count small len dealt in
      record {
        more = a.more;
        wires = a.wires;
        len = a.len;
        bits = λ k l. let e : first + 366 + 366 + k ≡ first + 732 + k = omega arith in
            ap (slice_index (batches_on deals (mask_batches Chain 5 first) before).wires) e ∙ a.bits k l;
        opened = a.opened;
        dealt = a.dealt;
      };
}

-- the wires of a comparison after the opened number are the others
wires-enough : (gates : Gates) → 61 ≤ compare_wires_of gates
wires-enough Chain = omega arith
wires-enough Tree = omega arith

-- where a comparison may stand, with a mask whose bits have the wires of a block that begins at another wire
before-compare : (g : Blocks) (first mask at supply demand r s d : ℕ) (before : Values) →
    MayCompare g first mask supply demand r s d before →
    at + MASK_WIRES ≤ first → g.bit mask ≡ bit_wire_of at → BeforeCompare first at supply demand r s d before
before-compare g first mask at supply demand r s d before h room same = record {
  len = h.len;
  accepted = h.accepted;
  room = room;
  bits = λ k l. ap (λ (wire : ℕ → ℕ). slice_index before.wires (wire k)) (sym same) ∙ h.bits k l;
  supply_before = h.supply_before;
  demand_before = h.demand_before;
  supply_is = h.supply_is;
  demand_is = h.demand_is;
  supply_element = h.supply_element;
  demand_element = h.demand_element;
}

-- what it does there, with the masked difference and the answer told apart
compared : (gates : Gates) (deals : ℕ → List ℕ) (first mask supply demand r s d : ℕ) (before : Values) →
    BeforeCompare first mask supply demand r s d before →
    (let middle = batches_on deals (masked_batch first mask supply demand ∷ []) before in
    CompareLeft (blocks_of gates) first r s d before middle
    (batches_on deals (borrow_batches gates first mask (add_of (doubled s d) r)) middle))
compared gates deals first mask supply demand r s d before h =
    let bits : Holds before.wires (mask + 366) 61 (bit_at r) = record { room = omega (arith, h.len, h.room); at = h.bits } in
    let m = masked-run deals first mask supply demand r s d before h.len h.accepted h.supply_element h.demand_element bits
    h.supply_before h.demand_before h.supply_is h.demand_is in
    let w = compare-run deals gates first mask supply demand r s d before h in
    let answer = if is_doubled_even s d then 1 else 0 in
    record {
      more = w.more;
      wires = w.wires;
      len = w.len;
      masked = m.opened;
      opened = w.opened ∙ sym (ap (λ (l : List ℕ). l ++ answer ∷ []) m.opened
          ∙ append_assoc before.opened (add_of (doubled s d) r ∷ []) (answer ∷ []));
      dealt = w.dealt;
    }

compare-laws : (gates : Gates) → CompareLaw (blocks_of gates)
compare-laws gates = record {
  rounds = λ first mask c. omega (arith, length-compare_batches first mask 0 0 c gates);
  masked_stands = λ mask supply demand s h hs hd. (masked-stands s.wires mask supply demand s refl h hs hd).0;
  answer_stands = λ mask supply demand c s h hs hd.
      let a = masked-stands s.wires mask supply demand s refl h hs hd in
      (borrow-stands gates s.wires mask c (after_all s (masked_batch s.wires mask supply demand ∷ [])) a.1.more_wires h).0;
  moves = λ mask supply demand c s h hs hd.
      let a = masked-stands s.wires mask supply demand s refl h hs hd in
      let b = borrow-stands gates s.wires mask c (after_all s (masked_batch s.wires mask supply demand ∷ [])) a.1.more_wires h in
      record {
        more_wires = omega (arith, a.1.more_wires, b.1.more_wires, wires-enough gates);
        more_masks = omega (arith, a.1.more_masks, b.1.more_masks);
        more_coefficients = omega (arith, a.1.more_coefficients, b.1.more_coefficients);
        dealers = b.1.dealers ∙ a.1.dealers;
      };
  runs = λ deals first mask supply demand r s d before h.
      compared gates deals first mask supply demand r s d before
      (before-compare (blocks_of gates) first mask mask supply demand r s d before h h.room refl);
}

-- a mask of five words is compared as one of three that begins 366 wires on
five-comparisons : CompareLaw five_blocks
five-comparisons =
    let law = compare-laws Chain in
    record {
      rounds = λ first mask c. law.rounds first (mask + 366) c;
      masked_stands = λ mask supply demand s h hs hd. law.masked_stands (mask + 366) supply demand s (omega arith) hs hd;
      answer_stands = λ mask supply demand c s h hs hd. law.answer_stands (mask + 366) supply demand c s (omega arith) hs hd;
      moves = λ mask supply demand c s h hs hd. law.moves (mask + 366) supply demand c s (omega arith) hs hd;
      runs = λ deals first mask supply demand r s d before h.
          let w = compared Chain deals first (mask + 366) supply demand r s d before
          (before-compare five_blocks first mask (mask + 366) supply demand r s d before h (omega (arith, h.room)) refl) in
          record { more = w.more; wires = w.wires; len = w.len; masked = w.masked; opened = w.opened; dealt = w.dealt };
    }

pub are-five_blocks : AreBlocks five_blocks
are-five_blocks = record { masks = five-masks; comparisons = five-comparisons; few_wires = omega arith; few_draws = omega arith }

few-wires : (gates : Gates) → compare_wires_of gates ≤ compare_wires_of Tree
few-wires Chain = omega arith
few-wires Tree = omega arith

few-draws : (gates : Gates) → mask_draws_of 3 + compare_draws_of gates ≤ MASK_COEFFICIENTS
few-draws Chain = omega arith
few-draws Tree = omega arith

pub are-blocks : (gates : Gates) → AreBlocks (blocks_of gates)
are-blocks gates = record {
  masks = mask-laws gates;
  comparisons = compare-laws gates;
  few_wires = few-wires gates;
  few_draws = few-draws gates;
}
