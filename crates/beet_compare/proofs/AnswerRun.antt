-- What the last two batches of a comparison do in a clear run: the answer is opened.
use Rattle.std.proofs.Common.{◌≡◌, ℕ, ◌+◌, ◌-◌, ◌*◌, ◌%◌, ◌<◌, inl, inr, List, [], ◌∷◌, ◌++◌, length, slice_index, refl}
use Rattle.std.proofs.Common.{ap, ◌∙◌, arith, length-append, append_assoc, add-zero}
use Rattle.std.specs.Int.{bit_at}
use Rattle.std.proofs.lemmas.Nat.Bits.{bit_at-lt}
use Rattle.beet_gates.specs.declared.Linear.{Linear}
use Rattle.beet_gates.specs.Clear.{Values, with_lets, let_of, product_of, batch_on, batches_on}
use Rattle.beet_gates.specs.Linears.{three_terms}
use Rattle.beet_gates.proofs.Bits.{bit_cases, mul_of-bits}
use Rattle.beet_gates.proofs.Segments.{Holds, index-append, index-new, with_lets-append}
use Rattle.beet_gates.proofs.Sums.{value-three_terms}
use Rattle.beet_compare.specs.Compare.{same_let, low_bit_batch, answer_batch, last_batches}
use Rattle.beet_compare.proofs.Borrow.{same, same-lt, same-value, other-value, answer-value}

-- whether a wire has the bit
pub same_let-value : (wires : List ℕ) (i bit x : ℕ) → bit < 2 → x < 2 → slice_index wires i ≡ x → let_of wires (same_let bit i) ≡ same bit x
same_let-value wires i bit x hb hx e = elim (bit_cases bit hb) [
  | inl f ↦ rw f (value-three_terms wires 1 (2305843009213693950, i) (0, 0) (0, 0) ∙ rw e (other-value x (slice_index wires 0) hx))
  | inr f ↦ rw f (value-three_terms wires 0 (1, i) (0, 0) (0, 0) ∙ rw e (same-value 1 x (slice_index wires 0) (omega arith) hx))
]

-- what they leave, after wires of which `at` are there: three wires more, and the answer
pub record AfterLast (r c g : ℕ) (wires : List ℕ) (v after : Values) : Type 0 where
  pub more : List ℕ
  pub wires_are : after.wires ≡ wires ++ more
  pub three : length more ≡ 3
  pub opened : after.opened ≡ v.opened ++ (1 + same (1 - bit_at c 0) (bit_at r 0) + g) % 2 ∷ []
  pub dealt : after.dealt ≡ v.dealt

pub last-run : (deals : ℕ → List ℕ) (lets : List Linear) (place low mask r c g : ℕ) (wires : List ℕ) (v : Values) →
    with_lets v.wires lets ≡ wires → length wires ≡ low →
    Holds wires (mask + 366) 61 (bit_at r) → place < low → slice_index wires place ≡ g → g < 2 →
    AfterLast r c g wires v (batches_on deals (last_batches lets place low mask c) v)
last-run deals lets place low mask r c g wires v made len bits below at_g hg =
    let b = same (1 - bit_at c 0) (bit_at r 0) in
    let flip_lt : 1 - bit_at c 0 < 2 = omega arith in
    let hb : b < 2 = same-lt (1 - bit_at c 0) (bit_at r 0) flip_lt (bit_at-lt r 0) in
    let r0 : slice_index wires (mask + 366) ≡ bit_at r 0 = rw add-zero at (bits.at 0 (omega arith)) in
    let eb : let_of wires (same_let (1 - bit_at c 0) (mask + 366)) ≡ b =
    same_let-value wires (mask + 366) (1 - bit_at c 0) (bit_at r 0) flip_lt (bit_at-lt r 0) r0 in
    let with_b = wires ++ b ∷ [] in
    let all : with_lets v.wires (lets ++ same_let (1 - bit_at c 0) (mask + 366) ∷ []) ≡ with_b =
    with_lets-append v.wires lets (same_let (1 - bit_at c 0) (mask + 366) ∷ [])
    ∙ ap (λ (l : List ℕ). l ++ let_of l (same_let (1 - bit_at c 0) (mask + 366)) ∷ []) made
    ∙ ap (λ (n : ℕ). wires ++ n ∷ []) eb in
    let b_there : slice_index with_b low ≡ b = index-new wires b low len in
    let g_there : slice_index with_b place ≡ g = index-append wires (b ∷ []) place (omega (arith, below, len)) ∙ at_g in
    let product : product_of with_b (low, place) ≡ b * g = rw (b_there, g_there) (mul_of-bits b g hb hg) in
    let full = with_b ++ b * g ∷ [] in
    let multiplied : batch_on deals (low_bit_batch lets place low mask c) v ≡ record v { wires = full } = rw (all, product) refl in
    let len_b : length with_b ≡ low + 1 = omega (arith, len, length-append wires (b ∷ [])) in
    let len_full : length full ≡ low + 2 = omega (arith, len_b, length-append with_b (b * g ∷ [])) in
    let o = (1 + b + g) % 2 in
    let b_then : slice_index full low ≡ b = index-append with_b (b * g ∷ []) low (omega (arith, len_b)) ∙ b_there in
    let g_then : slice_index full place ≡ g = index-append with_b (b * g ∷ []) place (omega (arith, below, len_b)) ∙ g_there in
    let f_then : slice_index full (low + 1) ≡ b * g = index-new with_b (b * g) (low + 1) len_b in
    let eo : let_of full (three_terms 1 (2305843009213693950, low) (2305843009213693950, place) (2, low + 1)) ≡ o =
    value-three_terms full 1 (2305843009213693950, low) (2305843009213693950, place) (2, low + 1)
    ∙ rw (b_then, g_then, f_then) (answer-value b g hb hg) in
    let shown : slice_index (full ++ o ∷ []) (low + 2) ≡ o = index-new full o (low + 2) len_full in
    let answered : batch_on deals (answer_batch place low) (record v { wires = full })
    ≡ record v { wires = full ++ o ∷ []; opened = v.opened ++ o ∷ [] } =
    rw (eo, shown) refl in
    let e : batches_on deals (last_batches lets place low mask c) v ≡ record v { wires = full ++ o ∷ []; opened = v.opened ++ o ∷ [] } =
    ap (λ (s : Values). batch_on deals (answer_batch place low) s) multiplied ∙ answered in
    rw e (record {
      more = b ∷ b * g ∷ o ∷ [];
      wires_are = append_assoc with_b (b * g ∷ []) (o ∷ []) ∙ append_assoc wires (b ∷ []) (b * g ∷ o ∷ []);
      three = refl;
      opened = refl;
      dealt = refl;
    })
