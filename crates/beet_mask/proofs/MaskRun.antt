-- What the block of a mask does in a clear run.
use Rattle.std.proofs.Common.{◌≡◌, ℕ, zero, suc, ◌+◌, ◌-◌, ◌*◌, ◌%◌, ◌^◌, ◌<◌, List, [], ◌∷◌, ◌++◌, map, length}
use Rattle.std.proofs.Common.{slice_index, refl, ap, sym, ◌∙◌, arith, length-append, append_assoc}
use Rattle.std.specs.Prelude.{bit_xor, if◌then◌else◌, ◌==◌}
use Rattle.beet_field.specs.Field.{p}
use Rattle.std.specs.Int.{bit_at}
use Rattle.std.proofs.lemmas.Nat.{xor_lt}
use Rattle.std.proofs.lemmas.Nat.Bits.{bit_at-lt, bit_at_xor}
use Rattle.beet_gates.specs.Batches.{deal_batch, mul_batch}
use Rattle.beet_gates.specs.Clear.{Values, with_lets, let_of, product_of, batches_on}
use Rattle.beet_gates.specs.Each.{each}
use Rattle.beet_gates.proofs.EachFacts.{length-each, each-same}
use Rattle.beet_gates.proofs.Segments.{Holds, holds-append, holds-new, with_lets-each, products-each}
use Rattle.beet_gates.proofs.Sums.{value-three_terms}
use Rattle.beet_gates.proofs.Bits.{mul_of-bits, xor_sum}
use Rattle.beet_gates.specs.declared.Gates.{Gates}
use Rattle.beet_gates.specs.declared.Linear.{Linear}
use Rattle.beet_mask.specs.Mask.{AfterMask, bits_of, bits_wire_of, mask_batches, product_batches, word_lets}
use Rattle.beet_mask.specs.Mask.{xor_batches, xor_let, xor_of, xor_with}
use Rattle.beet_mask.proofs.ProductRun.{BeforeBits, product-run}

-- a combination x + y - 2xy of wires that hold bits
xor_let-value : (wires : List ℕ) (i j k x y : ℕ) → x < 2 → y < 2 →
    slice_index wires i ≡ x → slice_index wires j ≡ y → slice_index wires k ≡ x * y →
    let_of wires (xor_let i j k) ≡ (x + y) % 2
xor_let-value wires i j k x y hx hy ex ey ek =
    value-three_terms wires 0 (1, i) (1, j) (2305843009213693949, k) ∙ (rw (ex, ey, ek) (xor_sum x y hx hy))

-- the products of two segments of bits
products-bits : (wires : List ℕ) (i j n : ℕ) (f g : ℕ → ℕ) → ((k : ℕ) → f k < 2) → ((k : ℕ) → g k < 2) →
    Holds wires i n f → Holds wires j n g →
    map (product_of wires) (each (λ k. (i + k, j + k)) n) ≡ each (λ k. f k * g k) n
products-bits wires i j n f g hf hg ef eg =
    products-each wires (λ k. (i + k, j + k)) (λ k. f k * g k) n
    (λ k l. rw (ef.at k l, eg.at k l) (mul_of-bits (f k) (g k) (hf k) (hg k)))

-- the exclusive or of two segments of bits
lets-xor : (wires : List ℕ) (i j m n : ℕ) (f g : ℕ → ℕ) → ((k : ℕ) → f k < 2) → ((k : ℕ) → g k < 2) →
    Holds wires i n f → Holds wires j n g → Holds wires m n (λ k. f k * g k) →
    with_lets wires (each (λ k. xor_let (i + k) (j + k) (m + k)) n) ≡ wires ++ each (λ k. (f k + g k) % 2) n
lets-xor wires i j m n f g hf hg ef eg em =
    with_lets-each wires (λ k. xor_let (i + k) (j + k) (m + k)) (λ k. (f k + g k) % 2) n
    (λ k l.
    let now = wires ++ each (λ k. (f k + g k) % 2) k in
    xor_let-value now (i + k) (j + k) (m + k) (f k) (g k) (hf k) (hg k)
    ((holds-append wires _ i n f ef).at k l)
    ((holds-append wires _ j n g eg).at k l)
    ((holds-append wires _ m n _ em).at k l))

-- one segment more
len-segment : (wires : List ℕ) (f : ℕ → ℕ) (start n : ℕ) → length wires ≡ start → length (wires ++ each f n) ≡ start + n
len-segment wires f start n e = omega (arith, length-append wires (each f n), length-each f n)

-- the exclusive or of bits is the bit of the exclusive or
xor-bit : (a b k : ℕ) → (bit_at a k + bit_at b k) % 2 ≡ bit_at (bit_xor a b) k
xor-bit a b k = sym (bit_at_xor a b k)

-- the words from a wire on, each 61 bits
abbrev HoldsWords : List ℕ → ℕ → List ℕ → Type 0
HoldsWords wires start ws = (i : ℕ) → i < length ws → Holds wires (start + 61 * i) 61 (bit_at (slice_index ws i))

words-append : (wires new : List ℕ) (start : ℕ) (ws : List ℕ) → HoldsWords wires start ws → HoldsWords (wires ++ new) start ws
words-append wires new start ws h i l = holds-append wires new (start + 61 * i) 61 (bit_at (slice_index ws i)) (h i l)

words-rest : (wires : List ℕ) (start w : ℕ) (ws : List ℕ) → HoldsWords wires start (w ∷ ws) → HoldsWords wires (start + 61) ws
words-rest wires start w ws h i l =
    let e : start + 61 * suc i ≡ start + 61 + 61 * i = omega arith in rw e at (h (suc i) (omega arith))

words-first : (wires : List ℕ) (start w : ℕ) (ws : List ℕ) → HoldsWords wires start (w ∷ ws) → Holds wires start 61 (bit_at w)
words-first wires start w ws h = let e : start + 61 * 0 ≡ start = omega arith in rw e at (h 0 (omega arith))

pub length-bits_of : (ws : List ℕ) → length (bits_of ws) ≡ 61 * length ws
length-bits_of [] = omega arith
length-bits_of (w ∷ []) = length-each (bit_at w) 61
length-bits_of (w ∷ x ∷ ws) = omega
    (arith, length-append (each (bit_at w) 61) (bits_of (x ∷ ws)), length-each (bit_at w) 61, length-bits_of (x ∷ ws))

-- what a deal appends
pub holds-words : (wires : List ℕ) (start : ℕ) (ws : List ℕ) → length wires ≡ start → HoldsWords (wires ++ bits_of ws) start ws
holds-words wires start [] len i l = absurd (omega arith)
holds-words wires start (w ∷ []) len i l =
    let z : i ≡ 0 = omega arith in
    let e : start + 61 * 0 ≡ start = omega arith in
    rw (z, e) (holds-new wires start 61 (bit_at w) len)
holds-words wires start (w ∷ x ∷ ws) len zero l =
    let e : start + 61 * 0 ≡ start = omega arith in
    rw (e, ← append_assoc wires (each (bit_at w) 61) (bits_of (x ∷ ws)))
    (holds-append (wires ++ each (bit_at w) 61) (bits_of (x ∷ ws)) start 61 (bit_at w) (holds-new wires start 61 (bit_at w) len))
holds-words wires start (w ∷ x ∷ ws) len (suc i) l =
    let e : start + 61 * suc i ≡ start + 61 + 61 * i = omega arith in
    rw (e, ← append_assoc wires (each (bit_at w) 61) (bits_of (x ∷ ws)))
    (holds-words (wires ++ each (bit_at w) 61) (start + 61) (x ∷ ws) (len-segment wires (bit_at w) start 61 len) i (omega arith))

-- what the batches leave where some words are left, and the exclusive or r of those before has its bits from `left` on
pub record AfterXor (left r : ℕ) (ws : List ℕ) (v after : Values) : Type 0 where
  pub more : List ℕ
  pub wires : after.wires ≡ v.wires ++ more
  pub len : length after.wires ≡ left + 122 * length ws + 121
  pub bits : (k : ℕ) → k < 61 → slice_index after.wires (left + 122 * length ws + k) ≡ bit_at (xor_with r ws) k
  pub opened : after.opened ≡ v.opened ++ (if xor_with r ws == p then 1 else 0) ∷ []
  pub dealt : after.dealt ≡ v.dealt

-- the products with a word, and the exclusive or
products-xor : (wires : List ℕ) (left right free r w : ℕ) → Holds wires left 61 (bit_at r) →
    Holds wires right 61 (bit_at w) → length wires ≡ free →
    (let now = wires ++ each (λ k. bit_at r k * bit_at w k) 61 in
    (map (product_of wires) (each (λ k. (left + k, right + k)) 61) ≡ each (λ k. bit_at r k * bit_at w k) 61)
    × (with_lets now (word_lets left right free) ≡ now ++ each (bit_at (bit_xor r w)) 61))
products-xor wires left right free r w one two len =
    let U = λ (k : ℕ). bit_at r k * bit_at w k in
    let now = wires ++ each U 61 in (
      products-bits wires left right 61 (bit_at r) (bit_at w) (bit_at-lt r) (bit_at-lt w) one two,
      lets-xor now left right free 61 (bit_at r) (bit_at w) (bit_at-lt r) (bit_at-lt w)
          (holds-append wires _ left 61 _ one) (holds-append wires _ right 61 _ two) (holds-new wires free 61 U len)
          ∙ ap (λ (l : List ℕ). now ++ l) (each-same (λ k. (bit_at r k + bit_at w k) % 2) (bit_at (bit_xor r w)) 61 (λ k l. xor-bit r w k)),
    )

pub xor-run : (deals : ℕ → List ℕ) (gates : Gates) (ws : List ℕ) (lets : List Linear) (left right free r : ℕ) (v : Values) →
    BeforeBits lets left r v → free ≡ left + 61 → ((i : ℕ) → slice_index ws i < 2 ^ 61) → HoldsWords v.wires right ws →
    AfterXor left r ws v (batches_on deals (xor_batches gates (length ws) lets left right free) v)
xor-run deals gates [] lets left right free r v h place few words =
    let m = product-run deals gates lets left r v h in
    let after = batches_on deals (product_batches gates lets left) v in
    let wires : after.wires ≡ v.wires ++ each (bit_at r) 61 ++ m.more = m.wires ∙ sym (append_assoc v.wires (each (bit_at r) 61) m.more) in
    let zero_more : left + 122 * 0 ≡ left = omega arith in
    record {
      more = each (bit_at r) 61 ++ m.more;
      wires = m.wires;
      len = rw wires (omega (
        arith,
        length-append (v.wires ++ each (bit_at r) 61) m.more,
        len-segment v.wires (bit_at r) left 61 h.len,
        m.len,
      ));
      bits = rw (wires, zero_more) (holds-append (v.wires ++ each (bit_at r) 61) m.more left 61 (bit_at r)
          (holds-new v.wires left 61 (bit_at r) h.len)).at;
      opened = m.opened;
      dealt = m.dealt;
    }
xor-run deals gates (w ∷ ws) lets left right free r v h place few words =
    let U = λ (k : ℕ). bit_at r k * bit_at w k in
    let one = v.wires ++ each (bit_at r) 61 in
    let two = one ++ each U 61 in
    let len_one : length one ≡ free = omega (arith, len-segment v.wires (bit_at r) left 61 h.len, place) in
    let len_two : length two ≡ free + 61 = len-segment one U free 61 len_one in
    let there = words-append v.wires (each (bit_at r) 61) right (w ∷ ws) words in
    let m = products-xor one left right free r w (holds-new v.wires left 61 (bit_at r) h.len) (words-first one right w ws there) len_one in
    let now : Values = record v { wires = two } in
    let begun : batches_on deals (mul_batch lets (each (λ (k : ℕ). (left + k, right + k)) 61) ∷ []) v ≡ now = rw (h.forms, m.0) refl in
    let rest = xor_batches gates (length ws) (word_lets left right free) (free + 61) (right + 61) (free + 122) in
    let n = xor-run deals gates ws (word_lets left right free) (free + 61) (right + 61) (free + 122) (bit_xor r w) now
    (record { len = len_two; forms = m.1; small = xor_lt 61 r w h.small (few 0) }) (omega arith) (λ i. few (suc i))
    (words-rest two right w ws (words-append one (each U 61) right (w ∷ ws) there)) in
    let e : batches_on deals (xor_batches gates (length (w ∷ ws)) lets left right free) v ≡ batches_on deals rest now =
    ap (batches_on deals rest) begun in
    let from : free + 61 + 122 * length ws ≡ left + 122 * length (w ∷ ws) = omega (arith, place) in
    rw e (record {
      more = each (bit_at r) 61 ++ (each U 61 ++ n.more);
      wires = n.wires ∙ joined v.wires (each (bit_at r) 61) (each U 61) n.more;
      len = omega (arith, n.len, place);
      bits = rw from at n.bits;
      opened = n.opened;
      dealt = n.dealt;
    })
  where
    joined : (w a b c : List ℕ) → w ++ a ++ b ++ c ≡ w ++ (a ++ (b ++ c))
    joined w a b c = simp append_assoc

pub mask-run : (deals : ℕ → List ℕ) (gates : Gates) (first a b : ℕ) (ws : List ℕ) (v : Values) →
    ((i : ℕ) → slice_index (a ∷ b ∷ ws) i < 2 ^ 61) → length v.wires ≡ first →
    deals v.dealt ≡ bits_of (a ∷ b ∷ ws) →
    AfterMask (2 + length ws) first (xor_of (a ∷ b ∷ ws)) v (batches_on deals (mask_batches gates (2 + length ws) first) v)
mask-run deals gates first a b ws v few len dealt =
    let words : ℕ = 2 + length ws in
    let free : ℕ = first + 61 * words in
    let all : List ℕ = a ∷ b ∷ ws in
    let U = λ (k : ℕ). bit_at a k * bit_at b k in
    let one = v.wires ++ bits_of all in
    let len_one : length one ≡ free = omega (arith, length-append v.wires (bits_of all), length-bits_of all, len) in
    let there = holds-words v.wires first all len in
    let m = products-xor one first (first + 61) free a b (words-first one first a (b ∷ ws) there)
    (words-first one (first + 61) b ws (words-rest one first a (b ∷ ws) there)) len_one in
    let two = one ++ each U 61 in
    let now : Values = record { wires = two; opened = v.opened; dealt = v.dealt + 1 } in
    let front = deal_batch ∷ mul_batch [] (each (λ (k : ℕ). (first + k, first + 61 + k)) 61) ∷ [] in
    let start : batches_on deals front v ≡ now = rw (dealt, m.0) refl in
    let rest = xor_batches gates (length ws) (word_lets first (first + 61) free) (free + 61) (first + 61 + 61) (free + 122) in
    let n = xor-run deals gates ws (word_lets first (first + 61) free) (free + 61) (first + 61 + 61) (free + 122) (bit_xor a b) now
    (record { len = len-segment one U free 61 len_one; forms = m.1; small = xor_lt 61 a b (few 0) (few 1) })
    (omega arith) (λ i. few (suc (suc i)))
    (words-rest two (first + 61) b ws (words-rest two first a (b ∷ ws) (words-append one (each U 61) first all there))) in
    let count : words - 1 ≡ suc (length ws) = omega arith in
    let e : batches_on deals (mask_batches gates words first) v ≡ batches_on deals rest now =
    rw count (ap (batches_on deals rest) start) in
    let from : free + 61 + 122 * length ws ≡ bits_wire_of words first = omega arith in
    rw e (record {
      more = bits_of all ++ (each U 61 ++ n.more);
      wires = n.wires ∙ joined v.wires (bits_of all) (each U 61) n.more;
      len = omega (arith, n.len);
      bits = rw from at n.bits;
      opened = n.opened;
      dealt = n.dealt;
    })
  where
    joined : (w a b c : List ℕ) → w ++ a ++ b ++ c ≡ w ++ (a ++ (b ++ c))
    joined w a b c = simp append_assoc
