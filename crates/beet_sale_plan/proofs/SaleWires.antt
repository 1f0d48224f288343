-- The wires that the two selections of a bid append.
use Rattle.std.proofs.Common.{◌≡◌, ℕ, ◌+◌, ◌-◌, ◌^◌, ◌<◌, ◌≤◌, List, [], ◌∷◌, ◌++◌, map, length, slice_index, Option, Some}
use Rattle.std.proofs.Common.{refl, ap, sym, ◌∙◌, arith, append_assoc, length-append}
use Rattle.std.specs.Prelude.{min, max}
use Rattle.std.proofs.lemmas.List.{get_or-append-add}
use Rattle.beet_field.specs.Field.{mul_of}
use Rattle.beet_gates.specs.declared.Linear.{Linear}
use Rattle.beet_gates.specs.Clear.{Values, with_lets, let_of, product_of}
use Rattle.beet_gates.specs.Linears.{one_term}
use Rattle.beet_gates.proofs.ClearFacts.{length-with_lets}
use Rattle.beet_gates.proofs.Segments.{index-append, index-new}
use Rattle.beet_gates.proofs.Sums.{value-three_terms}
use Rattle.beet_masking.specs.Blocks.{Blocks}
use Rattle.beet_sale_plan.specs.Sale.{best_lets, best_wire, difference_let, sum_let, rest_let, less_let, first_selection}
use Rattle.beet_sale_plan.specs.Sale.{second_selection}
use Rattle.beet_sale_plan.specs.Selections.{result_wire}
use Rattle.beet_sale_plan.specs.Kept.{Kept, kept_after}
use Rattle.beet_sale_plan.proofs.Moves.{with_lets-grow}
use Rattle.beet_sale_plan.proofs.Numbers.{bit_of, difference, sum, rest, less, more, selected-greater, selected-who}
use Rattle.beet_sale_plan.proofs.Numbers.{rest-lesser, kept-best, kept-who, kept-next, kept-small}
use Rattle.beet_sale_plan.proofs.Selected.{Selected, Operands}

-- an appended wire
pub index-at : (wires new : List ℕ) (start k j : ℕ) → length wires ≡ start → k ≡ start + j →
    slice_index (wires ++ new) k ≡ slice_index new j
index-at wires new start k j e h =
    let s : k ≡ length wires + j = omega (arith, e, h) in
    rw s (get_or-append-add wires new j 0)

-- the lets and products after the first comparison
first-wires : (w0 tail : List ℕ) (o bid best : ℕ) (who : Linear) (bit a b w : ℕ) → length (w0 ++ tail) ≡ o + 1 →
    slice_index (w0 ++ tail) o ≡ bit → best < length w0 → bid < length w0 → slice_index w0 best ≡ a →
    slice_index w0 bid ≡ b → let_of (w0 ++ tail) who ≡ w →
    (let y = w0 ++ tail in
    let z = with_lets y (who ∷ difference_let best bid ∷ less_let (o + 1) (bid + 1) ∷ []) in
    let e = slice_index (y ++ w ∷ []) 0 in
    let d = difference a b e in
    let h = slice_index ((y ++ w ∷ []) ++ d ∷ []) 0 in
    z ++ map (product_of z) ((o, o + 2) ∷ (o, o + 3) ∷ [])
    ≡ y ++ w ∷ d ∷ less (bid + 1) w h h ∷ mul_of bit d ∷ mul_of bit (less (bid + 1) w h h) ∷ [])
first-wires w0 tail o bid best who bit a b w len at_o best_below bid_below at_best at_bid is_who =
    let y = w0 ++ tail in
    let grown = length-append w0 tail in
    let y1 = y ++ w ∷ [] in
    let len1 : length y1 ≡ o + 2 = omega (arith, len, length-append y (w ∷ [])) in
    let d = difference a b (slice_index y1 0) in
    let best1 : slice_index y1 best ≡ a =
    index-append y (w ∷ []) best (omega (arith, grown)) ∙ index-append w0 tail best best_below ∙ at_best in
    let bid1 : slice_index y1 bid ≡ b =
    index-append y (w ∷ []) bid (omega (arith, grown)) ∙ index-append w0 tail bid bid_below ∙ at_bid in
    let ed : let_of y1 (difference_let best bid) ≡ d =
    value-three_terms y1 0 (1, best) (2305843009213693950, bid) (0, 0) ∙ rw (best1, bid1) refl in
    let y2 = y1 ++ d ∷ [] in
    let len2 : length y2 ≡ o + 3 = omega (arith, len1, length-append y1 (d ∷ [])) in
    let who2 : slice_index y2 (o + 1) ≡ w = index-append y1 (d ∷ []) (o + 1) (omega (arith, len1)) ∙ index-new y w (o + 1) len in
    let h = slice_index y2 0 in
    let l = less (bid + 1) w h h in
    let el : let_of y2 (less_let (o + 1) (bid + 1)) ≡ l =
    value-three_terms y2 (2305843009213693951 - (bid + 1)) (1, o + 1) (0, 0) (0, 0) ∙ rw who2 refl in
    let y3 = y2 ++ l ∷ [] in
    let lets : with_lets y (who ∷ difference_let best bid ∷ less_let (o + 1) (bid + 1) ∷ []) ≡ y3 =
    ap (λ x. with_lets (y ++ x ∷ []) (difference_let best bid ∷ less_let (o + 1) (bid + 1) ∷ [])) is_who
    ∙ ap (λ x. with_lets (y1 ++ x ∷ []) (less_let (o + 1) (bid + 1) ∷ [])) ed
    ∙ ap (λ x. y2 ++ x ∷ []) el in
    let o3 : slice_index y3 o ≡ bit =
    index-append y2 (l ∷ []) o (omega (arith, len2)) ∙ index-append y1 (d ∷ []) o (omega (arith, len1))
    ∙ index-append y (w ∷ []) o (omega (arith, len)) ∙ at_o in
    let d3 : slice_index y3 (o + 2) ≡ d = index-append y2 (l ∷ []) (o + 2) (omega (arith, len2)) ∙ index-new y1 d (o + 2) len1 in
    let l3 : slice_index y3 (o + 3) ≡ l = index-new y2 l (o + 3) len2 in
    let products : map (product_of y3) ((o, o + 2) ∷ (o, o + 3) ∷ []) ≡ mul_of bit d ∷ mul_of bit l ∷ [] = rw (o3, d3, l3) refl in
    ap (λ (z : List ℕ). z ++ map (product_of z) ((o, o + 2) ∷ (o, o + 3) ∷ [])) lets ∙ ap (λ (xs : List ℕ). y3 ++ xs) products
    ∙ append_assoc y2 (l ∷ []) (mul_of bit d ∷ mul_of bit l ∷ []) ∙ append_assoc y1 (d ∷ []) (l ∷ mul_of bit d ∷ mul_of bit l ∷ [])
    ∙ append_assoc y (w ∷ []) (d ∷ l ∷ mul_of bit d ∷ mul_of bit l ∷ [])

-- the lets before the second comparison
second-lets : (wires : List ℕ) (free bid best product : ℕ) (next : Linear) (a b m x : ℕ) → length wires ≡ free →
    best < free → bid < free → product < free → slice_index wires best ≡ a → slice_index wires bid ≡ b →
    slice_index wires product ≡ m → let_of wires next ≡ x →
    (let s = sum b m (slice_index (wires ++ x ∷ []) 0) in
    with_lets wires (next ∷ sum_let bid product ∷ rest_let best bid (free + 1) ∷ []) ≡ wires ++ x ∷ s ∷ rest a b s ∷ [])
second-lets wires free bid best product next a b m x len best_below bid_below product_below at_best at_bid at_product is_next =
    let y1 = wires ++ x ∷ [] in
    let len1 : length y1 ≡ free + 1 = omega (arith, len, length-append wires (x ∷ [])) in
    let s = sum b m (slice_index y1 0) in
    let best1 : slice_index y1 best ≡ a = index-append wires (x ∷ []) best (omega (arith, len)) ∙ at_best in
    let bid1 : slice_index y1 bid ≡ b = index-append wires (x ∷ []) bid (omega (arith, len)) ∙ at_bid in
    let product1 : slice_index y1 product ≡ m = index-append wires (x ∷ []) product (omega (arith, len)) ∙ at_product in
    let es : let_of y1 (sum_let bid product) ≡ s = value-three_terms y1 0 (1, bid) (1, product) (0, 0) ∙ rw (bid1, product1) refl in
    let y2 = y1 ++ s ∷ [] in
    let best2 : slice_index y2 best ≡ a = index-append y1 (s ∷ []) best (omega (arith, len1)) ∙ best1 in
    let bid2 : slice_index y2 bid ≡ b = index-append y1 (s ∷ []) bid (omega (arith, len1)) ∙ bid1 in
    let s2 : slice_index y2 (free + 1) ≡ s = index-new y1 s (free + 1) len1 in
    let er : let_of y2 (rest_let best bid (free + 1)) ≡ rest a b s =
    value-three_terms y2 0 (1, best) (1, bid) (2305843009213693950, free + 1) ∙ rw (best2, bid2, s2) refl in
    ap (λ n. with_lets (wires ++ n ∷ []) (sum_let bid product ∷ rest_let best bid (free + 1) ∷ [])) is_next
    ∙ ap (λ n. with_lets (y1 ++ n ∷ []) (rest_let best bid (free + 1) ∷ [])) es
    ∙ ap (λ n. y2 ++ n ∷ []) er
    ∙ append_assoc y1 (s ∷ []) (rest a b s ∷ []) ∙ append_assoc wires (x ∷ []) (s ∷ rest a b s ∷ [])

-- the let and the product after it
second-wires : (y : List ℕ) (o left right : ℕ) (bit x m : ℕ) → length y ≡ o + 1 → slice_index y o ≡ bit →
    left < o + 1 → right < o + 1 → slice_index y left ≡ x → slice_index y right ≡ m →
    (let z = with_lets y (difference_let left right ∷ []) in
    let d = difference x m (slice_index y 0) in
    z ++ map (product_of z) ((o, o + 1) ∷ []) ≡ y ++ d ∷ mul_of bit d ∷ [])
second-wires y o left right bit x m len at_o left_below right_below at_left at_right =
    let d = difference x m (slice_index y 0) in
    let ed : let_of y (difference_let left right) ≡ d =
    value-three_terms y 0 (1, left) (2305843009213693950, right) (0, 0) ∙ rw (at_left, at_right) refl in
    let y1 = y ++ d ∷ [] in
    let o1 : slice_index y1 o ≡ bit = index-append y (d ∷ []) o (omega (arith, len)) ∙ at_o in
    let d1 : slice_index y1 (o + 1) ≡ d = index-new y d (o + 1) len in
    let products : map (product_of y1) ((o, o + 1) ∷ []) ≡ mul_of bit d ∷ [] = rw (o1, d1) refl in
    ap (λ n. (y ++ n ∷ []) ++ map (product_of (y ++ n ∷ [])) ((o, o + 1) ∷ [])) ed ∙ ap (λ (xs : List ℕ). y1 ++ xs) products
    ∙ append_assoc y (d ∷ []) (mul_of bit d ∷ [])

-- the greatest bid so far stands on its wire, once the let of it is made, if it is still to be made
pub record BestIs (best : Option ℕ) (wires : List ℕ) (x : ℕ) : Type 0 where
  pub there : best_wire best (length wires) < length wires + length (best_lets best)
  pub is : slice_index (with_lets wires (best_lets best)) (best_wire best (length wires)) ≡ x

-- what is kept of the bids so far stands on wires, or in lets that are still to be made
pub record Keeps (n : ℕ) (bid : ℕ → ℕ) (best : Option ℕ) (who next : Linear) (k : Kept) (v : Values) : Type 0 where
  pub room : n ≤ length v.wires
  pub bids : (j : ℕ) → j < n → slice_index v.wires j ≡ bid j
  pub best_is : (more : List ℕ) → BestIs best (v.wires ++ more) k.best
  pub who_is : (more : List ℕ) → let_of (v.wires ++ more) who ≡ k.who
  pub next_is : (more : List ℕ) → let_of (v.wires ++ more) next ≡ k.next
  pub small_best : k.best < 2 ^ 48
  pub small_who : k.who < 2 ^ 48
  pub small_next : k.next < 2 ^ 48

module _ (g : Blocks) (some : 1 ≤ g.compare_wires) (n : ℕ) (bid : ℕ → ℕ) (j : ℕ) (best : Option ℕ) (who next : Linear) (k : Kept)
    (here : j < n) (small : bid j < 2 ^ 48) (few : j + 1 < 2 ^ 48) where
  -- after the first selection, where this is the wire of the greatest bid so far
  pub record AfterFirst (o wire : ℕ) (v u : Values) : Type 0 where
    pub tail : List ℕ
    pub wires : u.wires ≡ v.wires ++ tail
    pub len : length u.wires ≡ o + 6
    pub best_there : wire < length u.wires
    pub best_at : slice_index u.wires wire ≡ k.best
    pub e : ℕ
    pub h : ℕ
    pub greater : slice_index u.wires (o + 4) ≡ mul_of (bit_of k.best (bid j)) (difference k.best (bid j) e)
    pub whose : slice_index u.wires (o + 5) ≡ mul_of (bit_of k.best (bid j)) (less (j + 1) k.who h h)

  pub first-operands : (v : Values) → Keeps n bid best who next k v → (more : List ℕ) →
      Operands (first_selection g j best who (length (v.wires ++ more))) (v.wires ++ more) k.best (bid j)
  first-operands v s more =
      let l = v.wires ++ more in
      let b = s.best_is more in
      let grown = length-append v.wires more in
      let made = with_lets-grow l (best_lets best) in
      record {
        left_there = b.there;
        right_there = omega (arith, s.room, here, grown);
        left_is = b.is;
        right_is = ap (λ (t : List ℕ). slice_index t j) made.is ∙ index-append l made.new j (omega (arith, s.room, here, grown))
            ∙ index-append v.wires more j (omega (arith, s.room, here)) ∙ s.bids j here;
        left_element = omega (arith, s.small_best);
        right_element = omega (arith, small);
      }

  pub after-first : (free : ℕ) (v u : Values) → Keeps n bid best who next k v →
      Selected g (first_selection g j best who free) free k.best (bid j) v u →
      AfterFirst (result_wire g (free + length (best_lets best))) (best_wire best free) v u
  after-first free v u s r =
      let before = best_lets best in
      let o = result_wire g (free + length before) in
      let wire = best_wire best free in
      let l = v.wires ++ r.more in
      let w0 = with_lets l before in
      let made = with_lets-grow l before in
      let b : BestIs best l k.best = s.best_is r.more in
      let start : length l ≡ free = r.start in
      let many = length-with_lets l before in
      let there : wire < length w0 = omega (arith, many, start, rw start at b.there) in
      let at_best : slice_index w0 wire ≡ k.best = ap (λ (x : ℕ). slice_index w0 (best_wire best x)) (sym start) ∙ b.is in
      let bid_there : j < length w0 = omega (arith, many, s.room, here, length-append v.wires r.more) in
      let at_bid : slice_index w0 j ≡ bid j =
      ap (λ (t : List ℕ). slice_index t j) made.is
      ∙ index-append l made.new j (omega (arith, s.room, here, length-append v.wires r.more))
      ∙ index-append v.wires r.more j (omega (arith, s.room, here)) ∙ s.bids j here in
      let tail = r.more ++ (made.new ++ r.extra) in
      let y = w0 ++ r.extra in
      let whole : y ≡ v.wires ++ tail =
      ap (λ (t : List ℕ). t ++ r.extra) made.is ∙ append_assoc l made.new r.extra
      ∙ append_assoc v.wires r.more (made.new ++ r.extra) in
      let long : length y ≡ o + 1 = omega (arith, r.long, some) in
      let is_who : let_of y who ≡ k.who = ap (λ (t : List ℕ). let_of t who) whole ∙ s.who_is tail in
      let bit = bit_of k.best (bid j) in
      let w = first-wires w0 r.extra o j wire who bit k.best (bid j) k.who long r.result there bid_there at_best at_bid is_who in
      let e = slice_index (y ++ k.who ∷ []) 0 in
      let d = difference k.best (bid j) e in
      let h = slice_index ((y ++ k.who ∷ []) ++ d ∷ []) 0 in
      let m = less (j + 1) k.who h h in
      let new = k.who ∷ d ∷ m ∷ mul_of bit d ∷ mul_of bit m ∷ [] in
      let wires : u.wires ≡ y ++ new = r.wires ∙ w in
      let grown = length-append w0 r.extra in
      let longer = length-append y new in
      record {
        tail = tail ++ new;
        wires = wires ∙ ap (λ (t : List ℕ). t ++ new) whole ∙ append_assoc v.wires tail new;
        len = ap length wires ∙ omega (arith, long, longer);
        best_there = let all = ap length wires in omega (arith, all, longer, grown, there);
        best_at = ap (λ (t : List ℕ). slice_index t wire) wires ∙ index-append y new wire (omega (arith, grown, there))
            ∙ index-append w0 r.extra wire there ∙ at_best;
        e = e;
        h = h;
        greater = ap (λ (t : List ℕ). slice_index t (o + 4)) wires ∙ index-at y new (o + 1) (o + 4) 3 long (omega arith);
        whose = ap (λ (t : List ℕ). slice_index t (o + 5)) wires ∙ index-at y new (o + 1) (o + 5) 4 long (omega arith);
      }

  module _ (o wire : ℕ) (v u : Values) (s : Keeps n bid best who next k v) (f : AfterFirst o wire v u) where
    abbrev product : ℕ
    product = mul_of (bit_of k.best (bid j)) (difference k.best (bid j) f.e)

    -- the lets before the second comparison, once some wires were appended
    lets-before : (free : ℕ) (more : List ℕ) → length (u.wires ++ more) ≡ free →
        with_lets (u.wires ++ more) (next ∷ sum_let j (o + 4) ∷ rest_let wire j (free + 1) ∷ [])
        ≡ (u.wires ++ more) ++ k.next ∷ max (bid j) k.best ∷ min k.best (bid j) ∷ []
    lets-before free more len =
        let l = u.wires ++ more in
        let whole : l ≡ v.wires ++ (f.tail ++ more) = ap (λ (t : List ℕ). t ++ more) f.wires ∙ append_assoc v.wires f.tail more in
        let grown = length-append u.wires more in
        let longer = length-append v.wires (f.tail ++ more) in
        let total : length l ≡ length (v.wires ++ (f.tail ++ more)) = ap length whole in
        let at_best : slice_index l wire ≡ k.best = index-append u.wires more wire f.best_there ∙ f.best_at in
        let at_bid : slice_index l j ≡ bid j =
        ap (λ (t : List ℕ). slice_index t j) whole ∙ index-append v.wires (f.tail ++ more) j (omega (arith, s.room, here))
        ∙ s.bids j here in
        let at_product : slice_index l (o + 4) ≡ product = index-append u.wires more (o + 4) (omega (arith, f.len)) ∙ f.greater in
        let is_next : let_of l next ≡ k.next = ap (λ (t : List ℕ). let_of t next) whole ∙ s.next_is (f.tail ++ more) in
        let e = slice_index (l ++ k.next ∷ []) 0 in
        let m : sum (bid j) product e ≡ max (bid j) k.best = selected-greater k.best (bid j) f.e e s.small_best small in
        let lo : rest k.best (bid j) (max (bid j) k.best) ≡ min k.best (bid j) = rest-lesser k.best (bid j) s.small_best small in
        second-lets l free j wire (o + 4) next k.best (bid j) product k.next len (omega (arith, f.best_there, grown, len))
        (omega (arith, s.room, here, total, longer, len)) (omega (arith, f.len, grown, len)) at_best at_bid at_product is_next
        ∙ (λ i. l ++ k.next ∷ m i ∷ rest k.best (bid j) (m i) ∷ []) ∙ ap (λ t. l ++ k.next ∷ max (bid j) k.best ∷ t ∷ []) lo

    pub second-operands : (more : List ℕ) →
        Operands (second_selection g j wire (o + 4) next (length (u.wires ++ more))) (u.wires ++ more) k.next (min k.best (bid j))
    second-operands more =
        let l = u.wires ++ more in
        let free = length l in
        let lets = lets-before free more refl in
        let new = k.next ∷ max (bid j) k.best ∷ min k.best (bid j) ∷ [] in
        record {
          left_there = omega arith;
          right_there = omega arith;
          left_is = ap (λ (t : List ℕ). slice_index t free) lets ∙ index-at l new free free 0 refl (omega arith);
          right_is = ap (λ (t : List ℕ). slice_index t (free + 2)) lets ∙ index-at l new free (free + 2) 2 refl refl;
          left_element = omega (arith, s.small_next);
          right_element = omega (arith, small);
        }

    -- and after the second one bid more is kept
    pub record AfterSecond (free : ℕ) (t : Values) : Type 0 where
      pub len : length t.wires ≡ result_wire g (free + 3) + 3
      pub keeps : Keeps n bid (Some (free + 1)) (one_term (j + 1) (1, o + 4 + 1))
          (sum_let (free + 2) (result_wire g (free + 3) + 2)) (kept_after k (bid j) (j + 1)) t

    pub after-second : (free : ℕ) (t : Values) →
        Selected g (second_selection g j wire (o + 4) next free) free k.next (min k.best (bid j)) u t → AfterSecond free t
    after-second free t r =
        let o' = result_wire g (free + 3) in
        let l = u.wires ++ r.more in
        let b = bid j in
        let three = k.next ∷ max b k.best ∷ min k.best b ∷ [] in
        let lets = lets-before free r.more r.start in
        let y = (l ++ three) ++ r.extra in
        let same : with_lets l (next ∷ sum_let j (o + 4) ∷ rest_let wire j (free + 1) ∷ []) ++ r.extra ≡ y =
        ap (λ (x : List ℕ). x ++ r.extra) lets in
        let long : length y ≡ o' + 1 = omega (arith, ap length (sym same), r.long, some) in
        let middle : length (l ++ three) ≡ free + 3 = omega (arith, length-append l three, r.start) in
        let bit = bit_of k.next (min k.best b) in
        let at_o : slice_index y o' ≡ bit = ap (λ (x : List ℕ). slice_index x o') (sym same) ∙ r.result in
        let left : slice_index y free ≡ k.next =
        index-append (l ++ three) r.extra free (omega (arith, middle)) ∙ index-at l three free free 0 r.start (omega arith) in
        let greater : slice_index y (free + 1) ≡ max b k.best =
        index-append (l ++ three) r.extra (free + 1) (omega (arith, middle)) ∙ index-at l three free (free + 1) 1 r.start refl in
        let right : slice_index y (free + 2) ≡ min k.best b =
        index-append (l ++ three) r.extra (free + 2) (omega (arith, middle)) ∙ index-at l three free (free + 2) 2 r.start refl in
        let e = slice_index y 0 in
        let d = difference k.next (min k.best b) e in
        let new = d ∷ mul_of bit d ∷ [] in
        let wires : t.wires ≡ y ++ new =
        r.wires
        ∙ ap (λ (x : List ℕ). with_lets x (difference_let free (free + 2) ∷ [])
        ++ map (product_of (with_lets x (difference_let free (free + 2) ∷ []))) ((o', o' + 1) ∷ [])) same
        ∙ second-wires y o' free (free + 2) bit k.next (min k.best b) long at_o (omega (arith, some)) (omega (arith, some)) left right in
        let after = (r.more ++ three) ++ (r.extra ++ new) in
        let kept : t.wires ≡ u.wires ++ after =
        wires ∙ append_assoc (l ++ three) r.extra new
        ∙ ap (λ (x : List ℕ). x ++ (r.extra ++ new)) (append_assoc u.wires r.more three)
        ∙ append_assoc u.wires (r.more ++ three) (r.extra ++ new) in
        let whole : t.wires ≡ v.wires ++ (f.tail ++ after) =
        kept ∙ ap (λ (x : List ℕ). x ++ after) f.wires ∙ append_assoc v.wires f.tail after in
        let total : length t.wires ≡ o' + 3 = ap length wires ∙ omega (arith, long, length-append y new) in
        let longer : length t.wires ≡ length v.wires + length (f.tail ++ after) =
        ap length whole ∙ length-append v.wires (f.tail ++ after) in
        let longer' : length t.wires ≡ length u.wires + length after = ap length kept ∙ length-append u.wires after in
        let at : (x : ℕ) → x < o' + 1 → slice_index t.wires x ≡ slice_index y x =
        λ x h. ap (λ (q : List ℕ). slice_index q x) wires ∙ index-append y new x (omega (arith, long)) in
        record {
          len = total;
          keeps = record {
            room = omega (arith, s.room, longer);
            bids = λ x h. ap (λ (q : List ℕ). slice_index q x) whole
                ∙ index-append v.wires (f.tail ++ after) x (omega (arith, s.room)) ∙ s.bids x h;
            best_is = λ more. record {
              there = omega (arith, total, some, length-append t.wires more);
              is = index-append t.wires more (free + 1) (omega (arith, total, some)) ∙ at (free + 1) (omega (arith, some)) ∙ greater
                  ∙ sym (kept-best k b (j + 1));
            };
            who_is = λ more.
                let x = t.wires ++ more in
                let i : slice_index x (o + 4 + 1) ≡ mul_of (bit_of k.best b) (less (j + 1) k.who f.h f.h) =
                index-append t.wires more (o + 4 + 1) (omega (arith, f.len, longer'))
                ∙ ap (λ (q : List ℕ). slice_index q (o + 4 + 1)) kept
                ∙ index-append u.wires after (o + 4 + 1) (omega (arith, f.len)) ∙ ap (slice_index u.wires) (omega arith) ∙ f.whose in
                value-three_terms x (j + 1) (1, o + 4 + 1) (0, 0) (0, 0)
                ∙ rw i (selected-who k.best b k.who (j + 1) f.h f.h (slice_index x 0) (slice_index x 0) s.small_best small s.small_who few)
                ∙ sym (kept-who k b (j + 1));
            next_is = λ more.
                let x = t.wires ++ more in
                let i : slice_index x (free + 2) ≡ min k.best b =
                index-append t.wires more (free + 2) (omega (arith, total, some)) ∙ at (free + 2) (omega (arith, some)) ∙ right in
                let m : slice_index x (o' + 2) ≡ mul_of bit d =
                index-append t.wires more (o' + 2) (omega (arith, total)) ∙ ap (λ (q : List ℕ). slice_index q (o' + 2)) wires
                ∙ index-at y new (o' + 1) (o' + 2) 1 long (omega arith) in
                value-three_terms x 0 (1, free + 2) (1, o' + 2) (0, 0)
                ∙ rw (i, m) (selected-greater k.next (min k.best b) e (slice_index x 0) s.small_next (omega (arith, small)))
                ∙ sym (kept-next k b (j + 1));
            small_best = omega (arith, kept-best k b (j + 1), s.small_best, small);
            small_who = kept-small k b (j + 1) s.small_who few;
            small_next = omega (arith, kept-next k b (j + 1), s.small_next, s.small_best, small);
          };
        }
