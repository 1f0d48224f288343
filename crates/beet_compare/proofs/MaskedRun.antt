-- What the first batch of a comparison does in a clear run: it opens the doubled difference and the mask, added modulo p.
use Rattle.std.proofs.Common.{◌≡◌, ℕ, zero, suc, ◌+◌, ◌-◌, ◌*◌, ◌/◌, ◌%◌, ◌^◌, ◌<◌, List, [], ◌∷◌, ◌++◌, length}
use Rattle.std.proofs.Common.{slice_index, refl, ap, sym, ◌∙◌, arith, length-append, append_assoc, add_assoc}
use Rattle.std.specs.Int.{bit_at}
use Rattle.std.proofs.lemmas.Nat.{shr_le}
use Rattle.beet_gates.specs.declared.Linear.{Linear}
use Rattle.beet_gates.specs.Clear.{Values, with_lets, let_of, batch_on}
use Rattle.beet_gates.specs.Each.{each}
use Rattle.beet_gates.specs.Linears.{three_terms, two_terms}
use Rattle.beet_gates.proofs.EachFacts.{length-each, each-cons}
use Rattle.beet_gates.proofs.Segments.{Holds, holds-append, holds-new, index-append, index-new, with_lets-each, with_lets-append}
use Rattle.beet_gates.proofs.Sums.{value-three_terms}
use Rattle.beet_compare.specs.Compare.{masked_batch, doubled}
use Rattle.beet_compare.proofs.Borrow.{high-bits}

double-value : (x y w : ℕ) → 2 * x + y < 2305843009213693951 → (0 + 2 * x + 1 * y + 0 * w) % 2305843009213693951 ≡ 2 * x + y
double-value x y w h = omega arith

-- twice one wire and another
double-let : (wires : List ℕ) (i j x y : ℕ) → 2 * x + y < 2305843009213693951 → slice_index wires i ≡ x → slice_index wires j ≡ y →
    let_of wires (two_terms 0 (2, i) (1, j)) ≡ 2 * x + y
double-let wires i j x y h ex ey = value-three_terms wires 0 (2, i) (1, j) (0, 0) ∙ (rw (ex, ey) (double-value x y (slice_index wires 0) h))

-- the lets of the mask's high bits
sum_let : ℕ → ℕ → ℕ → Linear
sum_let first mask zero = two_terms 0 (2, mask + 426) (1, mask + 425)
sum_let first mask (suc k) = two_terms 0 (2, first + k) (1, mask + 366 + (58 - k))

high : ℕ → ℕ → ℕ
high r k = r / 2 ^ (59 - k)

sum_let-value : (first mask r : ℕ) (wires : List ℕ) → r < 2305843009213693951 → length wires ≡ first →
    Holds wires (mask + 366) 61 (bit_at r) →
    (k : ℕ) → k < 60 → let_of (wires ++ each (high r) k) (sum_let first mask k) ≡ high r k
unfolding high sum_let
sum_let-value first mask r wires hr len bits zero h =
    let now = wires ++ each (high r) 0 in
    let there = holds-append wires (each (high r) 0) (mask + 366) 61 _ bits in
    let a : slice_index now (mask + 426) ≡ bit_at r 60 = rw add_assoc at (there.at 60 (omega arith)) in
    let b : slice_index now (mask + 425) ≡ bit_at r 59 = rw add_assoc at (there.at 59 (omega arith)) in
    let top : bit_at r 60 ≡ r / 2 ^ 60 = omega arith in
    let e : r / 2 ^ 59 ≡ 2 * bit_at r 60 + bit_at r 59 = high-bits r 59 ∙ ap (λ n. 2 * n + bit_at r 59) (sym top) in
    double-let now (mask + 426) (mask + 425) (bit_at r 60) (bit_at r 59) (omega (arith, e, shr_le r 59)) a b ∙ sym e
sum_let-value first mask r wires hr len bits (suc k) h =
    let now = wires ++ each (high r) (suc k) in
    let a : slice_index now (first + k) ≡ r / 2 ^ (59 - k) = (holds-new wires first (suc k) (high r) len).at k (omega arith) in
    let b : slice_index now (mask + 366 + (58 - k)) ≡ bit_at r (58 - k) =
    (holds-append wires (each (high r) (suc k)) (mask + 366) 61 _ bits).at (58 - k) (omega arith) in
    let m : 59 - suc k ≡ 58 - k = omega arith in
    let n : 58 - k + 1 ≡ 59 - k = omega arith in
    let e : r / 2 ^ (59 - suc k) ≡ 2 * (r / 2 ^ (59 - k)) + bit_at r (58 - k) = rw m (rw n at (high-bits r (58 - k))) in
    double-let now (first + k) (mask + 366 + (58 - k)) (r / 2 ^ (59 - k)) (bit_at r (58 - k))
    (omega (arith, e, shr_le r (59 - suc k))) a b ∙ sym e

-- what the batch leaves
pub record AfterMasked (first c : ℕ) (v after : Values) : Type 0 where
  pub more : List ℕ
  pub wires : after.wires ≡ v.wires ++ more
  pub len : length after.wires ≡ first + 61
  pub opened : after.opened ≡ v.opened ++ c ∷ []
  pub dealt : after.dealt ≡ v.dealt

masked-value : (s d r : ℕ) → s < 2305843009213693951 → d < 2305843009213693951 →
    (0 + 2 * s + 2305843009213693949 * d + 1 * r) % 2305843009213693951 ≡ (doubled s d + r) % 2305843009213693951
masked-value s d r hs hd = omega arith

pub masked-run : (deals : ℕ → List ℕ) (first mask supply demand r s d : ℕ) (v : Values) → length v.wires ≡ first →
    r < 2305843009213693951 → s < 2305843009213693951 → d < 2305843009213693951 →
    Holds v.wires (mask + 366) 61 (bit_at r) → supply < first → demand < first →
    slice_index v.wires supply ≡ s → slice_index v.wires demand ≡ d →
    AfterMasked first ((doubled s d + r) % 2305843009213693951) v (batch_on deals (masked_batch first mask supply demand) v)
unfolding high sum_let
masked-run deals first mask supply demand r s d v len hr hs hd bits below below' es ed =
    let rule = sum_let first mask in
    let tail = three_terms 0 (2, supply) (2305843009213693949, demand) (1, first + 59) in
    let sums = v.wires ++ each (high r) 60 in
    let whole : with_lets v.wires (each rule 60) ≡ sums =
    with_lets-each v.wires rule (high r) 60 (sum_let-value first mask r v.wires hr len bits) in
    let lets : with_lets v.wires (each rule 60 ++ tail ∷ []) ≡ sums ++ let_of sums tail ∷ [] =
    with_lets-append v.wires (each rule 60) (tail ∷ []) ∙ ap (λ (l : List ℕ). with_lets l (tail ∷ [])) whole in
    let a : slice_index sums supply ≡ s = index-append v.wires (each (high r) 60) supply (omega (arith, len)) ∙ es in
    let b : slice_index sums demand ≡ d = index-append v.wires (each (high r) 60) demand (omega (arith, len)) ∙ ed in
    let z : r / 2 ^ 0 ≡ r = omega arith in
    let low : slice_index sums (first + 59) ≡ r = (holds-new v.wires first 60 (high r) len).at 59 (omega arith) ∙ z in
    let e : let_of sums tail ≡ (doubled s d + r) % 2305843009213693951 =
    value-three_terms sums 0 (2, supply) (2305843009213693949, demand) (1, first + 59) ∙ rw (a, b, low) (masked-value s d r hs hd) in
    let len_sums : length sums ≡ first + 60 = omega (arith, length-append v.wires (each (high r) 60), length-each (high r) 60) in
    let c = (doubled s d + r) % 2305843009213693951 in
    let now = sums ++ c ∷ [] in
    let all : with_lets v.wires (two_terms 0 (2, mask + 426) (1, mask + 425)
    ∷ (each (λ (k : ℕ). two_terms 0 (2, first + k) (1, mask + 366 + (58 - k))) 59 ++ tail ∷ [])) ≡ now =
    ap (λ (l : List Linear). with_lets v.wires (l ++ tail ∷ [])) (sym (each-cons rule 59)) ∙ lets ∙ ap (λ (n : ℕ). sums ++ n ∷ []) e in
    let shown : slice_index now (first + 60) ≡ c = index-new sums c (first + 60) len_sums in
    let done : batch_on deals (masked_batch first mask supply demand) v ≡ record v { wires = now; opened = v.opened ++ c ∷ [] } =
    rw (all, shown) refl in
    rw done (record {
      more = each (high r) 60 ++ c ∷ [];
      wires = append_assoc v.wires (each (high r) 60) (c ∷ []);
      len = omega (arith, length-append sums (c ∷ []));
      opened = refl;
      dealt = refl;
    })
