-- What the batches of a chain after the opened c do in a clear run: the borrow goes from bit to bit, and the answer is opened.
use Rattle.std.proofs.Common.{◌≡◌, ℕ, zero, suc, ◌+◌, ◌-◌, ◌*◌, ◌%◌, ◌<◌, inl, inr, List, [], ◌∷◌, ◌++◌, length}
use Rattle.std.proofs.Common.{slice_index, refl, ap, sym, ◌∙◌, arith, length-append, append_assoc, add-zero, add_assoc}
use Rattle.std.specs.Int.{bit_at}
use Rattle.std.proofs.lemmas.List.{get_or-append-add}
use Rattle.std.proofs.lemmas.Nat.Bits.{bit_at-lt}
use Rattle.std.proofs.lemmas.Bool.Decides.{nat_tests}
use Rattle.beet_gates.specs.declared.Linear.{Linear}
use Rattle.beet_gates.specs.Batches.{mul_batch}
use Rattle.beet_gates.specs.Clear.{Values, let_of, batch_on, batches_on}
use Rattle.beet_gates.specs.Each.{each}
use Rattle.beet_gates.specs.declared.Gates.{Gates}
use Rattle.beet_gates.specs.declared.Gates.TheVariants.{Chain}
use Rattle.beet_gates.specs.Linears.{two_terms, one_term}
use Rattle.beet_gates.proofs.Between.{less-bit}
use Rattle.beet_gates.proofs.Bits.{bit_cases, mul_of-bits}
use Rattle.beet_gates.proofs.EachFacts.{each-zero, each-suc}
use Rattle.beet_gates.proofs.Segments.{Holds, holds-append, index-append, index-new, batches_on-append}
use Rattle.beet_gates.proofs.Sums.{value-three_terms}
use Rattle.beet_compare.specs.Compare.{chain_batches, compare_wires_of, same_let, lowest_batch, bit_batch, last_batches, last_let}
use Rattle.beet_compare.proofs.Borrow.{borrow, same, same-lt, borrow-suc, borrow-value, first-value}
use Rattle.beet_compare.proofs.AnswerRun.{same_let-value, last-run}

product-lt : (x y : ℕ) → x < 2 → y < 2 → x * y < 2
product-lt x y hx hy = elim (bit_cases x hx) [ inl e ↦ rw e (omega arith) | inr e ↦ rw e (omega arith) ]

no_product : (c x b : ℕ) → c ≡ 0 → x ≡ 1 → same c x * b ≡ 0
no_product c x b e f = rw (e, f) (omega arith)

borrow_let-value : (wires : List ℕ) (i m c r k : ℕ) → slice_index wires i ≡ bit_at r k →
    slice_index wires m ≡ same (bit_at c k) (bit_at r k) * borrow c r k →
    let_of wires (two_terms 0 (1 - bit_at c k, i) (1, m)) ≡ borrow c r (suc k)
borrow_let-value wires i m c r k e f =
    value-three_terms wires 0 (1 - bit_at c k, i) (1, m) (0, 0)
    ∙ rw (e, f) (borrow-value (bit_at c k) (bit_at r k) (same (bit_at c k) (bit_at r k) * borrow c r k)
    (slice_index wires 0) (bit_at-lt c k) (bit_at-lt r k)
    (product-lt (same (bit_at c k) (bit_at r k)) (borrow c r k)
    (same-lt (bit_at c k) (bit_at r k) (bit_at-lt c k) (bit_at-lt r k)) (less-bit c r 0 k))
    (no_product (bit_at c k) (bit_at r k) (borrow c r k)))
    ∙ sym (borrow-suc c r k)

-- a batch of one bit: the borrow, the equality and their product
bit-run : (deals : ℕ → List ℕ) (v : Values) (start g q : ℕ) (lg lq : Linear) → length v.wires ≡ start → g < 2 → q < 2 →
    let_of v.wires lg ≡ g → let_of (v.wires ++ g ∷ []) lq ≡ q →
    batch_on deals (mul_batch (lg ∷ lq ∷ []) ((start + 1, start) ∷ [])) v ≡ record v { wires = v.wires ++ g ∷ q ∷ q * g ∷ [] }
bit-run deals v start g q lg lq len hg hq eg eq =
    let one = v.wires ++ g ∷ [] in
    let two = one ++ q ∷ [] in
    let len_one : length one ≡ start + 1 = omega (arith, length-append v.wires (g ∷ [])) in
    let at_g : slice_index two start ≡ g = index-append one (q ∷ []) start (omega arith) ∙ index-new v.wires g start len in
    let at_q : slice_index two (start + 1) ≡ q = index-new one q (start + 1) len_one in
    rw (eg, eq, at_q, at_g, mul_of-bits q g hq hg)
    (ap (λ (l : List ℕ). record v { wires = l })
    (append_assoc one (q ∷ []) (q * g ∷ []) ∙ append_assoc v.wires (g ∷ []) (q ∷ q * g ∷ [])))

-- the state after the batch of bit j + 1
pub record AtBit (first c r j : ℕ) (v now : Values) : Type 0 where
  pub more : List ℕ
  pub wires : now.wires ≡ v.wires ++ more
  pub len : length now.wires ≡ first + 64 + 3 * j
  pub product : slice_index now.wires (first + 63 + 3 * j) ≡ same (bit_at c (suc j)) (bit_at r (suc j)) * borrow c r (suc j)
  pub opened : now.opened ≡ v.opened
  pub dealt : now.dealt ≡ v.dealt

third : (wires : List ℕ) (g q x place : ℕ) → place ≡ length wires + 2 → slice_index (wires ++ g ∷ q ∷ x ∷ []) place ≡ x
third wires g q x place e = rw e (get_or-append-add wires (g ∷ q ∷ x ∷ []) 2 0)

-- the batch of bit 1
first-bit : (deals : ℕ → List ℕ) (first mask c r : ℕ) (v : Values) → length v.wires ≡ first + 61 →
    Holds v.wires (mask + 366) 61 (bit_at r) →
    AtBit first c r 0 v (batch_on deals (lowest_batch first mask c) v)
first-bit deals first mask c r v len bits =
    let g = borrow c r 1 in
    let q = same (bit_at c 1) (bit_at r 1) in
    let hq : q < 2 = same-lt (bit_at c 1) (bit_at r 1) (bit_at-lt c 1) (bit_at-lt r 1) in
    let at0 : slice_index v.wires (mask + 366) ≡ bit_at r 0 = rw add-zero at (bits.at 0 (omega arith)) in
    let at1 : slice_index v.wires (mask + 367) ≡ bit_at r 1 = rw add_assoc at (bits.at 1 (omega arith)) in
    let none : borrow c r 0 ≡ 0 = grind (arith, nat_tests) in
    let only : g ≡ (1 - bit_at c 0) * bit_at r 0 = borrow-suc c r 0 ∙ rw none (omega arith) in
    let eg : let_of v.wires (one_term 0 (1 - bit_at c 0, mask + 366)) ≡ g =
    value-three_terms v.wires 0 (1 - bit_at c 0, mask + 366) (0, 0) (0, 0)
    ∙ rw at0 (first-value (bit_at c 0) (bit_at r 0) (slice_index v.wires 0) (bit_at-lt c 0) (bit_at-lt r 0))
    ∙ sym only in
    let eq : let_of (v.wires ++ g ∷ []) (same_let (bit_at c 1) (mask + 367)) ≡ q =
    same_let-value (v.wires ++ g ∷ []) (mask + 367) (bit_at c 1) (bit_at r 1) (bit_at-lt c 1) (bit_at-lt r 1)
    (index-append v.wires (g ∷ []) (mask + 367) (omega (arith, bits.room)) ∙ at1) in
    let e : first + 61 + 1 ≡ first + 62 = omega arith in
    let run = rw e at (bit-run deals v (first + 61) g q (one_term 0 (1 - bit_at c 0, mask + 366))
    (same_let (bit_at c 1) (mask + 367)) len (less-bit c r 0 1) hq eg eq) in
    rw run (record {
      more = g ∷ q ∷ q * g ∷ [];
      wires = refl;
      len = omega (arith, length-append v.wires (g ∷ q ∷ q * g ∷ []));
      product = third v.wires g q (q * g) (first + 63 + 3 * 0) (omega arith);
      opened = refl;
      dealt = refl;
    })

-- the batch of one bit more
next-bit : (deals : ℕ → List ℕ) (first mask c r j : ℕ) (v now : Values) → Holds v.wires (mask + 366) 61 (bit_at r) → j < 59 →
    AtBit first c r j v now → AtBit first c r (suc j) v (batch_on deals (bit_batch first mask c j) now)
next-bit deals first mask c r j v now bits h at =
    let g = borrow c r (suc (suc j)) in
    let q = same (bit_at c (suc (suc j))) (bit_at r (suc (suc j))) in
    let hq : q < 2 = same-lt (bit_at c (suc (suc j))) (bit_at r (suc (suc j))) (bit_at-lt c (suc (suc j))) (bit_at-lt r (suc (suc j))) in
    let bits_now : Holds now.wires (mask + 366) 61 (bit_at r) = rw at.wires (holds-append v.wires at.more (mask + 366) 61 _ bits) in
    let one : j + 1 ≡ suc j = omega arith in
    let two : j + 2 ≡ suc (suc j) = omega arith in
    let start : first + 65 + 3 * j ≡ first + 64 + 3 * j + 1 = omega arith in
    let eg : let_of now.wires (two_terms 0 (1 - bit_at c (suc j), mask + 366 + suc j) (1, first + 63 + 3 * j)) ≡ g =
    borrow_let-value now.wires (mask + 366 + suc j) (first + 63 + 3 * j) c r (suc j) (bits_now.at (suc j) (omega arith)) at.product in
    let eq : let_of (now.wires ++ g ∷ []) (same_let (bit_at c (suc (suc j))) (mask + 366 + suc (suc j))) ≡ q =
    same_let-value (now.wires ++ g ∷ []) (mask + 366 + suc (suc j)) (bit_at c (suc (suc j))) (bit_at r (suc (suc j)))
    (bit_at-lt c (suc (suc j))) (bit_at-lt r (suc (suc j)))
    ((holds-append now.wires (g ∷ []) (mask + 366) 61 _ bits_now).at (suc (suc j)) (omega arith)) in
    let run = bit-run deals now (first + 64 + 3 * j) g q
    (two_terms 0 (1 - bit_at c (suc j), mask + 366 + suc j) (1, first + 63 + 3 * j))
    (same_let (bit_at c (suc (suc j))) (mask + 366 + suc (suc j))) at.len (less-bit c r 0 (suc (suc j))) hq eg eq in
    rw (one, two, start, run) (record {
      more = at.more ++ g ∷ q ∷ q * g ∷ [];
      wires = rw at.wires (append_assoc v.wires at.more (g ∷ q ∷ q * g ∷ []));
      len = omega (arith, length-append now.wires (g ∷ q ∷ q * g ∷ []), at.len);
      product = third now.wires g q (q * g) (first + 63 + 3 * suc j) (omega (arith, at.len));
      opened = at.opened;
      dealt = at.dealt;
    })

-- all bits
bits-run : (deals : ℕ → List ℕ) (first mask c r : ℕ) (v now : Values) → Holds v.wires (mask + 366) 61 (bit_at r) → AtBit first c r 0 v now →
    (j : ℕ) → j < 60 → AtBit first c r j v (batches_on deals (each (bit_batch first mask c) j) now)
bits-run deals first mask c r v now bits at zero h = rw (each-zero (bit_batch first mask c)) at
bits-run deals first mask c r v now bits at (suc j) h =
    rw (each-suc (bit_batch first mask c) j, batches_on-append deals (each (bit_batch first mask c) j) (bit_batch first mask c j ∷ []) now)
    (next-bit deals first mask c r j v (batches_on deals (each (bit_batch first mask c) j) now) bits (omega arith)
    (bits-run deals first mask c r v now bits at j (omega arith)))

-- what the batches after the opened c leave
pub record AfterBorrow (gates : Gates) (first c r : ℕ) (v after : Values) : Type 0 where
  pub more : List ℕ
  pub wires : after.wires ≡ v.wires ++ more
  pub len : length after.wires ≡ first + compare_wires_of gates
  pub opened : after.opened ≡ v.opened ++ (1 + same (1 - bit_at c 0) (bit_at r 0) + borrow c r 61) % 2 ∷ []
  pub dealt : after.dealt ≡ v.dealt

pub chain-run : (deals : ℕ → List ℕ) (first mask c r : ℕ) (v : Values) → length v.wires ≡ first + 61 →
    Holds v.wires (mask + 366) 61 (bit_at r) →
    AfterBorrow Chain first c r v (batches_on deals (chain_batches first mask c) v)
chain-run deals first mask c r v len bits =
    let rule = bit_batch first mask c in
    let begun = batch_on deals (lowest_batch first mask c) v in
    let now = batches_on deals (each rule 59) begun in
    let at = bits-run deals first mask c r v begun bits (first-bit deals first mask c r v len bits) 59 (omega arith) in
    let g = borrow c r 61 in
    let bits_now : Holds now.wires (mask + 366) 61 (bit_at r) = rw at.wires (holds-append v.wires at.more (mask + 366) 61 _ bits) in
    let len_now : length now.wires ≡ first + 241 = omega (arith, at.len) in
    let m : slice_index now.wires (first + 240) ≡ same (bit_at c 60) (bit_at r 60) * borrow c r 60 =
    let e : first + 63 + 3 * 59 ≡ first + 240 = omega arith in rw e at at.product in
    let r60 : slice_index now.wires (mask + 426) ≡ bit_at r 60 = rw add_assoc at (bits_now.at 60 (omega arith)) in
    let eg : let_of now.wires (last_let first mask c) ≡ g = borrow_let-value now.wires (mask + 426) (first + 240) c r 60 r60 m in
    let wires = now.wires ++ g ∷ [] in
    let made : now.wires ++ let_of now.wires (last_let first mask c) ∷ [] ≡ wires = ap (λ (n : ℕ). now.wires ++ n ∷ []) eg in
    let len_wires : length wires ≡ first + 242 = omega (arith, len_now, length-append now.wires (g ∷ [])) in
    let w = last-run deals (last_let first mask c ∷ []) (first + 241) (first + 242) mask r c g wires now made len_wires
    (holds-append now.wires (g ∷ []) (mask + 366) 61 _ bits_now) (omega arith)
    (index-new now.wires g (first + 241) len_now) (less-bit c r 0 61) in
    let e = batches_on-append deals (each rule 59) (last_batches (last_let first mask c ∷ []) (first + 241) (first + 242) mask c) begun in
    rw e (record {
      more = at.more ++ (g ∷ w.more);
      wires = w.wires_are ∙ append_assoc now.wires (g ∷ []) w.more ∙ ap (λ (l : List ℕ). l ++ (g ∷ w.more)) at.wires
          ∙ append_assoc v.wires at.more (g ∷ w.more);
      len = rw w.wires_are (omega (arith, length-append wires w.more, len_wires, w.three));
      opened = w.opened ∙ ap (λ (l : List ℕ). l ++ (1 + same (1 - bit_at c 0) (bit_at r 0) + g) % 2 ∷ []) at.opened;
      dealt = w.dealt ∙ at.dealt;
    })
