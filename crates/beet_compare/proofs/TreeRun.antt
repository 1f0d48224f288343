-- What the batches of a tree after the opened c do in a clear run: the borrows of segments are combined level by level,
-- and the answer is opened.
use Rattle.std.proofs.Common.{◌≡◌, ℕ, zero, suc, ◌+◌, ◌-◌, ◌*◌, ◌/◌, ◌%◌, ◌^◌, ◌<◌, ◌≤◌, List, [], ◌∷◌, ◌++◌, map}
use Rattle.std.proofs.Common.{length, slice_index, refl, ap, subst, sym, ◌∙◌, arith, length-append, append_assoc}
use Rattle.std.proofs.Common.{pow-suc}
use Rattle.std.specs.Prelude.{min}
use Rattle.std.specs.Int.{bit_at}
use Rattle.std.proofs.lemmas.Nat.Bits.{bit_at-lt}
use Rattle.beet_gates.specs.declared.Gates.TheVariants.{Tree}
use Rattle.beet_gates.specs.declared.Linear.{Linear}
use Rattle.beet_gates.specs.Clear.{Values, with_lets, let_of, product_of, batches_on}
use Rattle.beet_gates.specs.Each.{each, by_turns}
use Rattle.beet_gates.specs.Levels.{next_length, next_item}
use Rattle.beet_gates.specs.Linears.{one_term, two_terms}
use Rattle.beet_gates.proofs.Between.{less_and_same, less-bit, same-bit, combined, both-split}
use Rattle.beet_gates.proofs.Bits.{mul_of-bits}
use Rattle.beet_gates.proofs.EachFacts.{length-each, turn-first, turn-second, turns}
use Rattle.beet_gates.proofs.LevelFacts.{Covers, next-covers, covers-one}
use Rattle.beet_gates.proofs.LevelRuns.{Listed, listed-append, listed-next, listed-as, next_item-of, next_item-result}
use Rattle.beet_gates.proofs.Segments.{Holds, holds-append, holds-new, products-each, with_lets-each}
use Rattle.beet_gates.proofs.Sums.{value-three_terms}
use Rattle.beet_compare.specs.Compare.{borrow_lets, borrow_batches, level_lets, level_products, next_less, next_same}
use Rattle.beet_compare.specs.Compare.{same_let, tree_batches}
use Rattle.beet_compare.proofs.AnswerRun.{same_let-value, last-run}
use Rattle.beet_compare.proofs.Borrow.{borrow, same, less-bit_at, same-bit_at, first-value}
use Rattle.beet_compare.proofs.BorrowRun.{AfterBorrow}

-- a list of borrows and equalities on its wires
pub record Stored (wires : List ℕ) (c r wide n : ℕ) (g q : ℕ → ℕ) (value : ℕ → ℕ × ℕ) : Type 0 where
  pub less : Listed wires n g (λ k. (value k).0)
  pub equal : Listed wires n q (λ k. (value k).1)
  pub covers : Covers (less_and_same c r) 61 wide n value

-- two bits of which at most one is 1
sum-value : (x y w : ℕ) → x + y < 2 → (0 + 1 * x + 1 * y + 0 * w) % 2305843009213693951 ≡ x + y
sum-value x y w h = omega arith

module _ (c r : ℕ) where
  -- they are bits
  stored-bits : (wires : List ℕ) (wide n : ℕ) (g q : ℕ → ℕ) (value : ℕ → ℕ × ℕ) → Stored wires c r wide n g q value →
      (k : ℕ) → k < n → ((value k).0 < 2) × ((value k).1 < 2)
  stored-bits wires wide n g q value s k l = rw (s.covers.at k l) (less-bit c r _ _, same-bit c r _ _)

  -- what a level makes of a pair, and that it is made of bits
  abbrev result_of : (ℕ → ℕ × ℕ) → ℕ → ℕ × ℕ
  result_of value i = combined (value (2 * i)) (value (2 * i + 1))

  next-stored : (wide n : ℕ) (value : ℕ → ℕ × ℕ) → Covers (less_and_same c r) 61 wide n value →
      Covers (less_and_same c r) 61 (2 * wide) (next_length n) (next_item n value (result_of value))
  next-stored wide n value covers =
      next-covers combined (less_and_same c r) (both-split c r) 61 wide n value (result_of value) covers (λ k l. refl)

  result-bit : (wide n : ℕ) (value : ℕ → ℕ × ℕ) → Covers (less_and_same c r) 61 wide n value → (k : ℕ) → k < n / 2 →
      (result_of value k).0 < 2
  result-bit wide n value covers k l =
      let e : result_of value k ≡ less_and_same c r (min (2 * wide * k) 61) (min (2 * wide * (k + 1)) 61) =
      sym (next_item-result n k value (result_of value) l) ∙ (next-stored wide n value covers).at k (omega (arith, l)) in
      subst (λ (x : ℕ × ℕ). x.0 < 2) (sym e) (less-bit c r (min (2 * wide * k) 61) (min (2 * wide * (k + 1)) 61))

  -- the products of a level
  products-run : (wires : List ℕ) (wide n : ℕ) (g q : ℕ → ℕ) (value : ℕ → ℕ × ℕ) → Stored wires c r wide n g q value →
      map (product_of wires) (level_products (n / 2) g q)
      ≡ each (by_turns (λ i. (value (2 * i + 1)).1 * (value (2 * i)).0) (λ i. (value (2 * i + 1)).1 * (value (2 * i)).1)) (2 * (n / 2))
  products-run wires wide n g q value s =
      let half = n / 2 in
      let f : ℕ → ℕ × ℕ = λ i. (q (2 * i + 1), g (2 * i)) in
      let h : ℕ → ℕ × ℕ = λ i. (q (2 * i + 1), q (2 * i)) in
      let F = λ (i : ℕ). (value (2 * i + 1)).1 * (value (2 * i)).0 in
      let G = λ (i : ℕ). (value (2 * i + 1)).1 * (value (2 * i)).1 in
      let bits = stored-bits wires wide n g q value s in
      products-each wires (by_turns f h) (by_turns F G) (2 * half)
      (turns (λ k pair. product_of wires pair ≡ by_turns F G k) f h half
      (λ i l.
      let a : 2 * i < n = omega (arith, l) in
      let b : 2 * i + 1 < n = omega (arith, l) in
      rw (turn-first F G i, s.equal.at (2 * i + 1) b, s.less.at (2 * i) a)
      (mul_of-bits (value (2 * i + 1)).1 (value (2 * i)).0 (bits (2 * i + 1) b).1 (bits (2 * i) a).0))
      (λ i l.
      let a : 2 * i < n = omega (arith, l) in
      let b : 2 * i + 1 < n = omega (arith, l) in
      rw (turn-second F G i, s.equal.at (2 * i + 1) b, s.equal.at (2 * i) a)
      (mul_of-bits (value (2 * i + 1)).1 (value (2 * i)).1 (bits (2 * i + 1) b).1 (bits (2 * i) a).1)))

  -- the lets of a level, after its products
  lets-run : (wires : List ℕ) (wide n : ℕ) (g q : ℕ → ℕ) (value : ℕ → ℕ × ℕ) (free : ℕ) →
      Stored wires c r wide n g q value → length wires ≡ free →
      (let now = wires ++ each (by_turns (λ i. (value (2 * i + 1)).1 * (value (2 * i)).0)
      (λ i. (value (2 * i + 1)).1 * (value (2 * i)).1)) (2 * (n / 2)) in
      with_lets now (level_lets (n / 2) g free) ≡ now ++ each (λ i. (combined (value (2 * i)) (value (2 * i + 1))).0) (n / 2))
  lets-run wires wide n g q value free s len =
      let half = n / 2 in
      let F = λ (i : ℕ). (value (2 * i + 1)).1 * (value (2 * i)).0 in
      let G = λ (i : ℕ). (value (2 * i + 1)).1 * (value (2 * i)).1 in
      let products = each (by_turns F G) (2 * half) in
      let now = wires ++ products in
      let sum = λ (i : ℕ). (result_of value i).0 in
      let rule = λ (i : ℕ). two_terms 0 (1, g (2 * i + 1)) (1, free + 2 * i) in
      with_lets-each now rule sum half
      (λ k l.
      let new = each sum k in
      let high : slice_index (now ++ new) (g (2 * k + 1)) ≡ (value (2 * k + 1)).0 =
      (listed-append now new n g _ (listed-append wires products n g _ s.less)).at (2 * k + 1) (omega (arith, l)) in
      let low : slice_index (now ++ new) (free + 2 * k) ≡ F k =
      (holds-append now new free (2 * half) _ (holds-new wires free (2 * half) (by_turns F G) len)).at (2 * k)
      (omega (arith, l)) ∙ turn-first F G k in
      value-three_terms (now ++ new) 0 (1, g (2 * k + 1)) (1, free + 2 * k) (0, 0)
      ∙ rw (high, low) (sum-value (value (2 * k + 1)).0 (F k) (slice_index (now ++ new) 0) (result-bit wide n value s.covers k l)))

-- what the levels and the last two batches leave
pub record AfterTree (n c r : ℕ) (wires : List ℕ) (v after : Values) : Type 0 where
  pub more : List ℕ
  pub wires_are : after.wires ≡ wires ++ more
  pub len : length more ≡ 3 * n
  pub opened : after.opened ≡ v.opened ++ (1 + same (1 - bit_at c 0) (bit_at r 0) + borrow c r 61) % 2 ∷ []
  pub dealt : after.dealt ≡ v.dealt

module _ (deals : ℕ → List ℕ) (mask c r : ℕ) where
  levels-run : (levels wide n : ℕ) (lets : List Linear) (g q : ℕ → ℕ) (value : ℕ → ℕ × ℕ) (free : ℕ) (wires : List ℕ)
      (v : Values) → with_lets v.wires lets ≡ wires →
      length wires ≡ free → 1 ≤ n → n ≤ 2 ^ levels → Holds wires (mask + 366) 61 (bit_at r) → Stored wires c r wide n g q value →
      AfterTree n c r wires v (batches_on deals (tree_batches levels mask c lets n g q free) v)
  levels-run zero wide n lets g q value free wires v made len some few bits s =
      let one : n ≡ 1 = omega (arith, some, few) in
      let whole : value 0 ≡ less_and_same c r 0 61 = covers-one (less_and_same c r) 61 wide value (rw one at s.covers) in
      let less : (value 0).0 ≡ borrow c r 61 = ap (λ (x : ℕ × ℕ). x.0) whole in
      let below : g 0 < free = omega (arith, s.less.below 0 some, len) in
      let w = last-run deals lets (g 0) free mask r c (borrow c r 61) wires v made len bits below
      (s.less.at 0 some ∙ less) (less-bit c r 0 61) in
      record { more = w.more; wires_are = w.wires_are; len = omega (arith, w.three, one); opened = w.opened; dealt = w.dealt }
  levels-run (suc levels) wide n lets g q value free wires v made len some few bits s =
      let half = n / 2 in
      let power : 2 ^ suc levels ≡ 2 ^ levels * 2 = pow-suc 2 levels in
      let F = λ (i : ℕ). (value (2 * i + 1)).1 * (value (2 * i)).0 in
      let G = λ (i : ℕ). (value (2 * i + 1)).1 * (value (2 * i)).1 in
      let products = each (by_turns F G) (2 * half) in
      let after = wires ++ products in
      let sum = λ (i : ℕ). (result_of c r value i).0 in
      let now = after ++ each sum half in
      let then_free = free + 2 * half + half in
      let rest = tree_batches levels mask c (level_lets (n / 2) g free) (next_length n) (next_less n g free)
      (next_same n q free) then_free in
      let len_after : length after ≡ free + 2 * half =
      omega (arith, len, length-append wires products, length-each (by_turns F G) (2 * half)) in
      let len_now : length now ≡ then_free = omega (arith, len_after, length-append after (each sum half), length-each sum half) in
      let e : batches_on deals (tree_batches (suc levels) mask c lets n g q free) v ≡ batches_on deals rest (record v { wires = after }) =
      ap (λ (w : List ℕ). batches_on deals rest (record v { wires = w ++ map (product_of w) (level_products (n / 2) g q) })) made
      ∙ ap (λ (l : List ℕ). batches_on deals rest (record v { wires = wires ++ l })) (products-run c r wires wide n g q value s) in
      let new = holds-new after (free + 2 * half) half sum len_after in
      let both = holds-append after (each sum half) free (2 * half) _ (holds-new wires free (2 * half) (by_turns F G) len) in
      let less_new : Listed now half (λ i. free + 2 * half + i) sum = record { below = λ k l. omega (arith, len_now, l); at = new.at } in
      let same_new : Listed now half (λ i. free + 1 + 2 * i) G = record {
        below = λ k l. omega (arith, len_now, l);
        at = λ k l. let place : free + 1 + 2 * k ≡ free + (2 * k + 1) = omega arith in
            rw place (both.at (2 * k + 1) (omega (arith, l)) ∙ turn-second F G k);
      } in
      let kept_less = listed-append after (each sum half) n g _ (listed-append wires products n g _ s.less) in
      let kept_same = listed-append after (each sum half) n q _ (listed-append wires products n q _ s.equal) in
      let stored : Stored now c r (2 * wide) (next_length n) (next_less n g free) (next_same n q free)
      (next_item n value (result_of c r value)) = record {
        less = listed-as now (next_length n) _ _ _ (listed-next now n g _ (λ i. free + 2 * half + i) sum kept_less less_new)
            (λ k l. sym (next_item-of (λ (x : ℕ × ℕ). x.0) n k value (result_of c r value)));
        equal = listed-as now (next_length n) _ _ _ (listed-next now n q _ (λ i. free + 1 + 2 * i) G kept_same same_new)
            (λ k l. sym (next_item-of (λ (x : ℕ × ℕ). x.1) n k value (result_of c r value)));
        covers = next-stored c r wide n value s.covers;
      } in
      let m = levels-run levels (2 * wide) (next_length n) (level_lets (n / 2) g free) (next_less n g free) (next_same n q free)
      (next_item n value (result_of c r value)) then_free now (record v { wires = after }) (lets-run c r wires wide n g q value free s len)
      len_now (omega (arith, some)) (omega (arith, some, few, power))
      (holds-append after (each sum half) (mask + 366) 61 _ (holds-append wires products (mask + 366) 61 _ bits)) stored in
      rw e (record {
        more = products ++ (each sum half ++ m.more);
        wires_are = m.wires_are ∙ append_assoc after (each sum half) m.more ∙ append_assoc wires products (each sum half ++ m.more);
        len = omega (
          arith,
          m.len,
          length-append products (each sum half ++ m.more),
          length-append (each sum half) m.more,
          length-each (by_turns F G) (2 * half),
          length-each sum half,
        );
        opened = m.opened;
        dealt = m.dealt;
      })

  -- the lets of all bits
  bits-made : (wires : List ℕ) → Holds wires (mask + 366) 61 (bit_at r) →
      with_lets wires (borrow_lets mask c)
      ≡ wires ++ each (by_turns (λ k. (less_and_same c r k (k + 1)).0) (λ k. (less_and_same c r k (k + 1)).1)) (2 * 61)
  bits-made wires bits =
      let less = λ (k : ℕ). (less_and_same c r k (k + 1)).0 in
      let equal = λ (k : ℕ). (less_and_same c r k (k + 1)).1 in
      let value = by_turns less equal in
      let first = λ (k : ℕ). one_term 0 (1 - bit_at c k, mask + 366 + k) in
      let second = λ (k : ℕ). same_let (bit_at c k) (mask + 366 + k) in
      with_lets-each wires (by_turns first second) value (2 * 61)
      (turns (λ k rule. let_of (wires ++ each value k) rule ≡ value k) first second 61
      (λ i l.
      let now = wires ++ each value (2 * i) in
      let bit : slice_index now (mask + 366 + i) ≡ bit_at r i = (holds-append wires (each value (2 * i)) (mask + 366) 61 _ bits).at i l in
      rw (turn-first less equal i)
      (value-three_terms now 0 (1 - bit_at c i, mask + 366 + i) (0, 0) (0, 0)
      ∙ rw bit (first-value (bit_at c i) (bit_at r i) (slice_index now 0) (bit_at-lt c i) (bit_at-lt r i)) ∙ sym (less-bit_at c r i)))
      (λ i l.
      let now = wires ++ each value (2 * i + 1) in
      let bit : slice_index now (mask + 366 + i) ≡ bit_at r i =
      (holds-append wires (each value (2 * i + 1)) (mask + 366) 61 _ bits).at i l in
      rw (turn-second less equal i)
      (same_let-value now (mask + 366 + i) (bit_at c i) (bit_at r i) (bit_at-lt c i) (bit_at-lt r i) bit ∙ sym (same-bit_at c r i))))

  pub tree-run : (first : ℕ) (v : Values) → length v.wires ≡ first + 61 → Holds v.wires (mask + 366) 61 (bit_at r) →
      AfterBorrow Tree first c r v (batches_on deals (borrow_batches Tree first mask c) v)
  tree-run first v len bits =
      let value : ℕ → ℕ × ℕ = λ k. less_and_same c r k (k + 1) in
      let less = λ (k : ℕ). (value k).0 in
      let equal = λ (k : ℕ). (value k).1 in
      let leaves = each (by_turns less equal) (2 * 61) in
      let wires = v.wires ++ leaves in
      let new = holds-new v.wires (first + 61) (2 * 61) (by_turns less equal) len in
      let len_wires : length wires ≡ first + 183 =
      omega (arith, len, length-append v.wires leaves, length-each (by_turns less equal) (2 * 61)) in
      let stored : Stored wires c r 1 61 (λ k. first + 61 + 2 * k) (λ k. first + 62 + 2 * k) value = record {
        less = record {
          below = λ k l. omega (arith, len_wires, l);
          at = λ k l. new.at (2 * k) (omega (arith, l)) ∙ turn-first less equal k;
        };
        equal = record {
          below = λ k l. omega (arith, len_wires, l);
          at = λ k l. let place : first + 62 + 2 * k ≡ first + 61 + (2 * k + 1) = omega arith in
              rw place (new.at (2 * k + 1) (omega (arith, l)) ∙ turn-second less equal k);
        };
        covers = record {
          whole = omega arith;
          at = λ k l.
              let start : min (1 * k) 61 ≡ k = omega (arith, l) in
              let stop : min (1 * (k + 1)) 61 ≡ k + 1 = omega (arith, l) in
              rw (start, stop) refl;
        };
      } in
      let m = levels-run 6 1 61 (borrow_lets mask c) (λ k. first + 61 + 2 * k) (λ k. first + 62 + 2 * k) value
      (first + 183) wires v (bits-made v.wires bits) len_wires
      (omega arith) (omega arith) (holds-append v.wires leaves (mask + 366) 61 _ bits) stored in
      record {
        more = leaves ++ m.more;
        wires = m.wires_are ∙ append_assoc v.wires leaves m.more;
        len = rw m.wires_are (omega (arith, length-append wires m.more, len_wires, m.len));
        opened = m.opened;
        dealt = m.dealt;
      }
