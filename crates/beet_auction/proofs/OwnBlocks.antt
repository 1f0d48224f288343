-- The blocks of the auction open the same numbers in two runs that differ in points of server 3.
use Rattle.std.proofs.Common.{◌≡◌, ℕ, zero, suc, ◌+◌, ◌-◌, ◌*◌, ◌/◌, ◌^◌, ◌<◌, ◌≤◌, inl, inr, List, [], ◌∷◌, ◌++◌}
use Rattle.std.proofs.Common.{length, refl, subst, sym, ◌∙◌, ap, arith, add-zero, mul-zero, mul-suc, pow-suc, eq-eqb}
use Rattle.std.proofs.Common.{ne_eqb, length-append}
use Rattle.std.specs.Int.{bit_at}
use Rattle.std.proofs.lemmas.Bool.{cases_eq}
use Rattle.beet_field.specs.Field.{p}
use Rattle.beet_gates.specs.Batches.{deal_batch, mul_batch, reveal_batch}
use Rattle.beet_gates.specs.Each.{each, by_turns}
use Rattle.beet_gates.specs.Levels.{next_length, next_item}
use Rattle.beet_gates.specs.Linears.{three_terms, two_terms, one_term}
use Rattle.beet_gates.specs.Scripts.{revealed}
use Rattle.beet_gates.specs.declared.Batch.{Batch}
use Rattle.beet_gates.specs.declared.Linear.{Linear}
use Rattle.beet_gates.proofs.EachFacts.{length-each, each-zero, each-cons, each-suc, turns}
use Rattle.beet_gates.proofs.LevelRuns.{next_item-has}
use Rattle.beet_mask.specs.Mask.{bit_wire_of, chain_batches as mask_chain, mask_batches, product_batches}
use Rattle.beet_mask.specs.Mask.{tree_batches as mask_tree, word_lets, xor_let}
use Rattle.beet_compare.specs.Compare.{borrow_lets, compare_wires_of, chain_batches, last_batches, last_let, level_lets}
use Rattle.beet_compare.specs.Compare.{level_products, masked_batch, next_less, next_same, borrow_batches}
use Rattle.beet_compare.specs.Compare.{low_bit_batch, same_let, lowest_batch, bit_batch, answer_batch, tree_batches}
use Rattle.beet_compare.proofs.CompareTable.{last_two}
use Rattle.beet_gates.specs.declared.Gates.{Gates}
use Rattle.beet_gates.specs.declared.Gates.TheVariants.{Chain, Tree}
use Rattle.beet_masking.specs.Blocks.{Blocks, after_both, after_mask, blocks_of}
use Rattle.beet_auction.proofs.Apart.{IsOwn, TermsOwn, LetsOwn, PairsOwn, BatchOwn, BlockOwn, mask_wires, wires_after, wires_after_all}

-- the wires of a mask before its bits
abbrev before_bits : ℕ
before_bits = bit_wire_of 0 0

wires_after_all-append : (n : ℕ) (xs ys : List Batch) → wires_after_all n (xs ++ ys) ≡ wires_after_all (wires_after_all n xs) ys
wires_after_all-append n [] ys = refl
wires_after_all-append n (x ∷ xs) ys = wires_after_all-append (wires_after n x) xs ys

module _ (start : ℕ) where
  -- batches that open nothing
  abbrev AllOwn : ℕ → List Batch → Type 0
  AllOwn n [] = Unit {0}
  AllOwn n (b ∷ bs) = BatchOwn start n b × (revealed b.act ≡ 0) × AllOwn (wires_after n b) bs

  all-append : (n : ℕ) (xs ys : List Batch) → AllOwn n xs → AllOwn (wires_after_all n xs) ys → AllOwn n (xs ++ ys)
  all-append n [] ys h k = k
  all-append n (x ∷ xs) ys h k = (h.0, h.1, all-append (wires_after n x) xs ys h.2 k)

  own-cons : (n : ℕ) (b : Batch) (bs : List Batch) → BatchOwn start n b → revealed b.act ≡ 0 →
      BlockOwn start (wires_after n b) bs → BlockOwn start n (b ∷ bs)
  unfolding BlockOwn
  own-cons n b [] own e h = absurd h
  own-cons n b (c ∷ bs) own e h = (own, e, h)

  own-last : (n : ℕ) (b : Batch) → BatchOwn start n b → revealed b.act ≡ 1 → BlockOwn start n (b ∷ [])
  unfolding BlockOwn
  own-last n b own e = (own, e)

  own-append : (n : ℕ) (xs ys : List Batch) → AllOwn n xs → BlockOwn start (wires_after_all n xs) ys → BlockOwn start n (xs ++ ys)
  own-append n [] ys h k = k
  own-append n (x ∷ xs) ys h k = own-cons n x (xs ++ ys) h.0 h.1 (own-append (wires_after n x) xs ys h.2 k)

  -- batches by a rule, each of which appends the same number of wires
  own-each : (rule : ℕ → Batch) (grow n m : ℕ) →
      ((k : ℕ) → k < m → (w : ℕ) → BatchOwn start w (rule k) × (revealed (rule k).act ≡ 0) × (wires_after w (rule k) ≡ w + grow)) →
      AllOwn n (each rule m) × (wires_after_all n (each rule m) ≡ n + grow * m)
  own-each rule grow n zero h = rw (each-zero rule) (tt, rw mul-zero (sym (add-zero n)))
  own-each rule grow n (suc m) h =
      let rest = own-each rule grow n m (λ k l. h k (omega arith)) in
      let here = wires_after_all n (each rule m) in
      let one = h m (omega arith) here in
      let e : wires_after_all n (each rule (suc m)) ≡ wires_after here (rule m) =
      ap (wires_after_all n) (each-suc rule m) ∙ wires_after_all-append n (each rule m) (rule m ∷ []) in (
        rw (each-suc rule m) (all-append n (each rule m) (rule m ∷ []) rest.0 (one.0, one.1, tt)),
        omega (arith, e, one.2, rest.1, mul-suc grow m),
      )

  pairs-each : (pair : ℕ → ℕ × ℕ) (m : ℕ) → ((k : ℕ) → k < m → IsOwn start (pair k).0 × IsOwn start (pair k).1) →
      PairsOwn start (each pair m)
  pairs-each pair zero h = rw (each-zero pair) tt
  pairs-each pair (suc m) h =
      let first = h 0 (omega arith) in
      rw (each-cons pair m) (first.0, first.1, pairs-each (λ k. pair (suc k)) m (λ k l. h (suc k) (omega arith)))

  lets-each : (n : ℕ) (rule : ℕ → Linear) (m : ℕ) → ((k : ℕ) → k < m → TermsOwn start (rule k).terms) → LetsOwn start n (each rule m)
  lets-each n rule zero h = rw (each-zero rule) tt
  lets-each n rule (suc m) h =
      let first = h 0 (omega arith) in
      rw (each-cons rule m) (λ own. first, lets-each (n + 1) (λ k. rule (suc k)) m (λ k l. h (suc k) (omega arith)))

  lets-append : (n : ℕ) (xs ys : List Linear) → LetsOwn start n xs → LetsOwn start (n + length xs) ys → LetsOwn start n (xs ++ ys)
  lets-append n [] ys h k = rw add-zero at k
  lets-append n (x ∷ xs) ys h k =
      let e : n + suc (length xs) ≡ n + 1 + length xs = omega arith in
      (h.0, lets-append (n + 1) xs ys h.1 (rw e at k))

  same-own : (bit w : ℕ) → IsOwn start w → TermsOwn start (same_let bit w).terms
  same-own bit w own = elim (cases_eq bit 1) [
    | inl e ↦ rw (eq-eqb bit 1 e) (inr own, (inl refl, (inl refl, tt)))
    | inr e ↦ rw (ne_eqb bit 1 e) (inr own, (inl refl, (inl refl, tt)))
  ]

  -- the exclusive or of two words, and the product of a chain
  words-own : (n left right product : ℕ) → IsOwn start left → left + 61 ≤ start + before_bits → IsOwn start right →
      right + 61 ≤ start + before_bits →
      IsOwn start product → product + 61 ≤ start + before_bits → LetsOwn start n (word_lets left right product)
  words-own n left right product one one' two two' three three' =
      lets-each n (λ (k : ℕ). xor_let (left + k) (right + k) (product + k)) 61
      (λ k l. (
        inr (omega (arith, one), omega (arith, one')),
        (inr (omega (arith, two), omega (arith, two')), (inr (omega (arith, three), omega (arith, three')), tt)),
      ))

  chain-own : (n bits : ℕ) (lets : List Linear) → LetsOwn start n lets → length lets ≡ 61 → bits ≡ start + before_bits →
      BlockOwn start n (mask_chain lets bits) × (wires_after_all n (mask_chain lets bits) ≡ n + 121)
  chain-own n bits lets below count e =
      let rule = λ (j : ℕ). mul_batch [] ((bits + 61 + j, bits + 2 + j) ∷ []) in
      let batch = mul_batch lets ((bits, bits + 1) ∷ []) in
      let now = wires_after n batch in
      let last = reveal_batch [] ((bits + 120) ∷ []) in
      let chain = own-each rule 1 now 59 (λ k l w. (
        (tt, ((omega (arith, e), omega (arith, e, l)), (omega (arith, e), omega (arith, e, l)), tt)),
        refl,
        omega arith,
      )) in
      let end : wires_after_all n (mask_chain lets bits) ≡ wires_after (wires_after_all now (each rule 59)) last =
      wires_after_all-append now (each rule 59) (last ∷ []) in (
        own-cons n batch _ (below, ((omega (arith, e), omega (arith, e)), (omega (arith, e), omega (arith, e)), tt)) refl
            (own-append now (each rule 59) (last ∷ []) chain.0 (own-last _ last (tt, tt) refl)),
        omega (arith, end, chain.1, count),
      )

  -- the product of a tree
  tree-own : (levels n : ℕ) (lets : List Linear) (item : ℕ → ℕ) (free w : ℕ) → LetsOwn start w lets →
      ((k : ℕ) → k < n → IsOwn start (item k)) →
      n ≤ 2 ^ levels → 2 ^ levels < 2 * n → start ≤ free → free + n ≤ start + (mask_wires + 60) →
      BlockOwn start w (mask_tree levels lets n item free)
      × (wires_after_all w (mask_tree levels lets n item free) ≡ w + length lets + (n - 1))
  tree-own zero n lets item free w below own most least from to =
      (own-last w (reveal_batch lets (item 0 ∷ [])) (below, tt) refl, omega (arith, most, least))
  tree-own (suc levels) n lets item free w below own most least from to =
      let half = n / 2 in
      let power : 2 ^ suc levels ≡ 2 ^ levels * 2 = pow-suc 2 levels in
      let pair : ℕ → ℕ × ℕ = λ i. (item (2 * i), item (2 * i + 1)) in
      let batch = mul_batch lets (each pair half) in
      let place = λ (i : ℕ). free + i in
      let m = tree-own levels (next_length n) [] (next_item n item place) (free + half) (wires_after w batch) tt
      (next_item-has (IsOwn start) n item place own (λ k l. (omega (arith, from), omega (arith, to, l))))
      (omega (arith, most, power)) (omega (arith, least, power)) (omega (arith, from)) (omega (arith, to)) in (
        own-cons w batch _ (
          below,
          pairs-each pair half (λ k l. (own (2 * k) (omega (arith, l)), own (2 * k + 1) (omega (arith, l)))),
        ) refl m.0,
        omega (arith, m.1, length-each pair half, least, power),
      )

  product-own : (gates : Gates) (n bits : ℕ) (lets : List Linear) → LetsOwn start n lets → length lets ≡ 61 → bits ≡ start + before_bits →
      BlockOwn start n (product_batches gates lets bits) × (wires_after_all n (product_batches gates lets bits) ≡ n + 121)
  product-own Chain n bits lets below count e = chain-own n bits lets below count e
  product-own Tree n bits lets below count e =
      let m = tree-own 6 61 lets (λ k. bits + k) (bits + 61) n below (λ k l. (omega (arith, e), omega (arith, e, l)))
      (omega arith) (omega arith) (omega (arith, e)) (omega (arith, e)) in
      (m.0, omega (arith, m.1, count))

  pub mask-own : (gates : Gates) → BlockOwn start start (mask_batches gates 3 start)
      × (wires_after_all start (mask_batches gates 3 start) ≡ start + mask_wires)
  mask-own gates =
      let p1 : ℕ → ℕ × ℕ = λ k. (start + k, start + 61 + k) in
      let p2 : ℕ → ℕ × ℕ = λ k. (start + 183 + 61 + k, start + 61 + 61 + k) in
      let l2 = word_lets start (start + 61) (start + 183) in
      let l3 = word_lets (start + 183 + 61) (start + 61 + 61) (start + 183 + 122) in
      let b2 = mul_batch [] (each p1 61) in
      let b3 = mul_batch l2 (each p2 61) in
      let w1 = wires_after start deal_batch in
      let w2 = wires_after w1 b2 in
      let w3 = wires_after w2 b3 in
      let n2 = length-each (λ (k : ℕ). xor_let (start + k) (start + 61 + k) (start + 183 + k)) 61 in
      let n3 = length-each (λ (k : ℕ). xor_let (start + 183 + 61 + k) (start + 61 + 61 + k) (start + 183 + 122 + k)) 61 in
      let m = product-own gates w3 (start + 183 + 122 + 61) l3
      (words-own w3 (start + 183 + 61) (start + 61 + 61) (start + 183 + 122) (omega arith, omega arith) (omega arith)
      (omega arith, omega arith) (omega arith) (omega arith, omega arith) (omega arith))
      n3 (omega arith) in (
        own-cons start deal_batch _ (tt, tt) refl
            (own-cons w1 b2 _ (tt, pairs-each p1 61 (λ k l. ((omega arith, omega arith), (omega arith, omega arith)))) refl
            (own-cons w2 b3 _ (
              words-own w2 start (start + 61) (start + 183) (omega arith, omega arith) (omega arith)
                  (omega arith, omega arith) (omega arith) (omega arith, omega arith) (omega arith),
              pairs-each p2 61 (λ k l. ((omega arith, omega arith), (omega arith, omega arith))),
            ) refl m.0)),
        omega (arith, m.1, length-each p1 61, n2, length-each p2 61),
      )

  -- the opening of the masked difference
  pub masked-own : (supply demand : ℕ) →
      BlockOwn start (start + mask_wires) (masked_batch (start + mask_wires) start supply demand ∷ [])
      × (wires_after_all (start + mask_wires) (masked_batch (start + mask_wires) start supply demand ∷ []) ≡ start + (mask_wires + 61))
  masked-own supply demand =
      let first = start + mask_wires in
      let rule = λ (k : ℕ). two_terms 0 (2, first + k) (1, start + before_bits + (58 - k)) in
      let tail = three_terms 0 (2, supply) (p - 2, demand) (1, first + 59) in
      let n = length-each rule 59 in (
        own-last first (masked_batch first start supply demand) (
          (
            λ own. (inr (omega arith, omega arith), (inr (omega arith, omega arith), (inl refl, tt))),
            lets-append (first + 1) (each rule 59) (tail ∷ [])
                (lets-each (first + 1) rule 59 (λ k l. (inr (omega arith, omega arith), (inr (omega arith, omega arith), (inl refl, tt)))))
                (λ own. absurd (own.1 (omega (arith, n))), tt),
          ),
          tt,
        ) refl,
        omega (arith, n, length-append (each rule 59) (tail ∷ [])),
      )

  -- the last two batches of a comparison
  last-own : (lets : List Linear) (borrow low c n : ℕ) → LetsOwn start n lets → IsOwn start borrow → start + (mask_wires + 61) ≤ low →
      BlockOwn start n (last_batches lets borrow low start c)
      × (wires_after_all n (last_batches lets borrow low start c) ≡ n + length lets + 3)
  last-own lets borrow low c n below own there =
      let end = same_let (1 - bit_at c 0) (start + before_bits) in
      let product = low_bit_batch lets borrow low start c in
      let answer = answer_batch borrow low in
      let len = length-append lets (end ∷ []) in (
        own-cons n product (answer ∷ []) (
          lets-append n lets (end ∷ []) below (λ o. same-own (1 - bit_at c 0) (start + before_bits) (omega arith, omega arith), tt),
          ((omega (arith, there), omega (arith, there)), own, tt),
        ) refl
            (own-last (wires_after n product) answer (
              (
                λ o. (inr (omega (arith, there), omega (arith, there)), (inr own, (inr (omega (arith, there), omega (arith, there)), tt))),
                tt,
              ),
              tt,
            ) refl),
        omega (arith, len),
      )

  -- the borrows of a chain, and the answer
  borrows-own : (c : ℕ) → BlockOwn start (start + (mask_wires + 61)) (chain_batches (start + mask_wires) start c)
      × (wires_after_all (start + (mask_wires + 61)) (chain_batches (start + mask_wires) start c)
      ≡ start + (mask_wires + compare_wires_of Chain))
  borrows-own c =
      let first = start + mask_wires in
      let one = lowest_batch first start c in
      let w1 = wires_after (start + (mask_wires + 61)) one in
      let chain = own-each (bit_batch first start c) 3 w1 59 (λ k l w. (
        (
          (
            λ own. (inr (omega arith, omega arith), (inr (omega arith, omega arith), (inl refl, tt))),
            (λ own. same-own (bit_at c (k + 2)) (start + before_bits + (k + 2)) (omega arith, omega arith), tt),
          ),
          ((omega arith, omega arith), (omega arith, omega arith), tt),
        ),
        refl,
        omega arith,
      )) in
      let w2 = wires_after_all w1 (each (bit_batch first start c) 59) in
      let last = last-own (last_let first start c ∷ []) (first + 241) (first + 242) c w2
      (λ own. (inr (omega arith, omega arith), (inr (omega arith, omega arith), (inl refl, tt))), tt)
      (omega arith, omega arith) (omega arith) in
      let end : wires_after_all (start + (mask_wires + 61)) (chain_batches first start c) ≡ wires_after_all w2 (last_two first start c) =
      wires_after_all-append w1 (each (bit_batch first start c) 59) (last_two first start c) in (
        own-cons (start + (mask_wires + 61)) one _ (
          (
            λ own. (inr (omega arith, omega arith), (inl refl, (inl refl, tt))),
            (λ own. same-own (bit_at c 1) (start + (before_bits + 1)) (omega arith, omega arith), tt),
          ),
          ((omega arith, omega arith), (omega arith, omega arith), tt),
        ) refl
            (own-append w1 (each (bit_batch first start c) 59) (last_two first start c) chain.0 last.0),
        omega (arith, end, chain.1, last.1),
      )

  -- the levels of a tree, and the answer
  levels-own : (levels n : ℕ) (lets : List Linear) (g q : ℕ → ℕ) (free c w : ℕ) → LetsOwn start w lets →
      ((k : ℕ) → k < n → IsOwn start (g k)) →
      ((k : ℕ) → k < n → IsOwn start (q k)) → n ≤ 2 ^ levels → 2 ^ levels < 2 * n → start + (mask_wires + 61) ≤ free →
      BlockOwn start w (tree_batches levels start c lets n g q free)
      × (wires_after_all w (tree_batches levels start c lets n g q free) ≡ w + length lets + 3 * n)
  levels-own zero n lets g q free c w below less equal most least from =
      let m = last-own lets (g 0) free c w below (less 0 (omega (arith, least))) from in
      (m.0, omega (arith, m.1, most, least))
  levels-own (suc levels) n lets g q free c w below less equal most least from =
      let half = n / 2 in
      let power : 2 ^ suc levels ≡ 2 ^ levels * 2 = pow-suc 2 levels in
      let f : ℕ → ℕ × ℕ = λ i. (q (2 * i + 1), g (2 * i)) in
      let h : ℕ → ℕ × ℕ = λ i. (q (2 * i + 1), q (2 * i)) in
      let batch = mul_batch lets (level_products half g q) in
      let rule = λ (i : ℕ). two_terms 0 (1, g (2 * i + 1)) (1, free + 2 * i) in
      let now = wires_after w batch in
      let sums : LetsOwn start now (level_lets half g free) =
      lets-each now rule half (λ k l.
      (inr (less (2 * k + 1) (omega (arith, l))), (inr (omega (arith, from), omega (arith, from)), (inl refl, tt)))) in
      let m = levels-own levels (next_length n) (level_lets half g free) (next_less n g free) (next_same n q free)
      (free + 2 * half + half) c now sums
      (next_item-has (IsOwn start) n g (λ i. free + 2 * half + i) less (λ k l. (omega (arith, from), omega (arith, from))))
      (next_item-has (IsOwn start) n q (λ i. free + 1 + 2 * i) equal (λ k l. (omega (arith, from), omega (arith, from))))
      (omega (arith, most, power)) (omega (arith, least, power)) (omega (arith, from)) in
      let pairs = pairs-each (by_turns f h) (2 * half)
      (turns (λ k pair. IsOwn start pair.0 × IsOwn start pair.1) f h half
      (λ i l. (equal (2 * i + 1) (omega (arith, l)), less (2 * i) (omega (arith, l))))
      (λ i l. (equal (2 * i + 1) (omega (arith, l)), equal (2 * i) (omega (arith, l))))) in (
        own-cons w batch _ (below, pairs) refl m.0,
        omega (arith, m.1, length-each (by_turns f h) (2 * half), length-each rule half),
      )

  -- the batches after the opened number
  pub borrow-own : (gates : Gates) (c : ℕ) → BlockOwn start (start + (mask_wires + 61)) (borrow_batches gates (start + mask_wires) start c)
      × (wires_after_all (start + (mask_wires + 61)) (borrow_batches gates (start + mask_wires) start c)
      ≡ start + (mask_wires + compare_wires_of gates))
  borrow-own Chain c = borrows-own c
  borrow-own Tree c =
      let first = start + mask_wires in
      let n = start + (mask_wires + 61) in
      let less = λ (k : ℕ). one_term 0 (1 - bit_at c k, start + 366 + k) in
      let equal = λ (k : ℕ). same_let (bit_at c k) (start + 366 + k) in
      let lets : LetsOwn start n (borrow_lets start c) =
      lets-each n (by_turns less equal) (2 * 61)
      (turns (λ k rule. TermsOwn start rule.terms) less equal 61
      (λ i l. (inr (omega arith, omega (arith, l)), (inl refl, (inl refl, tt))))
      (λ i l. same-own (bit_at c i) (start + 366 + i) (omega arith, omega (arith, l)))) in
      let m = levels-own 6 61 (borrow_lets start c) (λ k. first + 61 + 2 * k) (λ k. first + 62 + 2 * k) (first + 183) c n lets
      (λ k l. (omega arith, omega arith)) (λ k l. (omega arith, omega arith)) (omega arith) (omega arith) (omega arith) in
      (m.0, omega (arith, m.1, length-each (by_turns less equal) (2 * 61)))

-- blocks of such batches
pub record AreOwn (g : Blocks) : Type 0 where
  pub mask : (start : ℕ) → BlockOwn start start (g.mask start) × (wires_after_all start (g.mask start) ≡ after_mask g start)
  pub masked : (start supply demand : ℕ) → BlockOwn start (after_mask g start) (g.masked (after_mask g start) start supply demand ∷ [])
  pub answer : (start supply demand c : ℕ) →
      (let n = wires_after_all (after_mask g start) (g.masked (after_mask g start) start supply demand ∷ []) in
      BlockOwn start n (g.answer (after_mask g start) start c)
      × (wires_after_all n (g.answer (after_mask g start) start c) ≡ after_both g start))

pub own-blocks : (gates : Gates) → AreOwn (blocks_of gates)
own-blocks gates = record {
  mask = λ start. mask-own start gates;
  masked = λ start supply demand. (masked-own start supply demand).0;
  answer = λ start supply demand c.
      subst (λ n. BlockOwn start n (borrow_batches gates (start + mask_wires) start c)
      × (wires_after_all n (borrow_batches gates (start + mask_wires) start c) ≡ start + (mask_wires + compare_wires_of gates)))
      (sym (masked-own start supply demand).1) (borrow-own start gates c);
}
