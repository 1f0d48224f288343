-- The blocks of a comparison name only wires that stand.
use Rattle.std.proofs.Common.{◌≡◌, ◌∙◌, ℕ, zero, suc, ◌+◌, ◌-◌, ◌*◌, ◌/◌, ◌^◌, ◌<◌, ◌≤◌, inl, inr, List, length}
use Rattle.std.proofs.Common.{pow-suc, [], ◌∷◌, ◌++◌, refl, arith, eq-eqb, ne_eqb, length-append}
use Rattle.std.specs.Int.{bit_at}
use Rattle.std.proofs.lemmas.Bool.{cases_eq}
use Rattle.beet_gates.specs.Batches.{mul_batch}
use Rattle.beet_gates.specs.declared.Gates.{Gates}
use Rattle.beet_gates.specs.declared.Gates.TheVariants.{Chain, Tree}
use Rattle.beet_gates.specs.declared.Linear.{Linear}
use Rattle.beet_gates.specs.Each.{each, by_turns}
use Rattle.beet_gates.specs.Levels.{next_length}
use Rattle.beet_gates.specs.Linears.{three_terms, two_terms, one_term}
use Rattle.beet_gates.specs.Scripts.{Standing, after, TermsBelow, LetsBelow}
use Rattle.beet_gates.proofs.PlanRuns.{BlockStands, after_all}
use Rattle.beet_gates.proofs.EachFacts.{length-each, turns}
use Rattle.beet_gates.proofs.LevelRuns.{next_item-has}
use Rattle.beet_gates.proofs.Standings.{Moved, pairs_below-each, lets_below-each, lets_below-append, block-cons}
use Rattle.beet_gates.proofs.Standings.{block-last, block-append, quiet-each, after_all-append}
use Rattle.beet_field.specs.Field.{p}
use Rattle.beet_compare.specs.Compare.{masked_batch, borrow_lets, borrow_batches, chain_batches, compare_draws_of}
use Rattle.beet_compare.specs.Compare.{compare_wires_of, last_batches, last_let, level_lets, level_products, next_less}
use Rattle.beet_compare.specs.Compare.{next_same, low_bit_batch, same_let, lowest_batch, bit_batch, answer_batch}
use Rattle.beet_compare.specs.Compare.{tree_batches}
use Rattle.beet_compare.proofs.CompareTable.{last_two}

pub masked-stands : (first mask supply demand : ℕ) (s : Standing) → s.wires ≡ first → mask + 487 ≤ first → supply < first → demand < first →
    BlockStands s (masked_batch first mask supply demand ∷ []) × Moved s (after_all s (masked_batch first mask supply demand ∷ [])) 61 0 0
masked-stands first mask supply demand s e hm hs hd =
    let rule = λ (k : ℕ). two_terms 0 (2, first + k) (1, mask + 366 + (58 - k)) in
    let tail = three_terms 0 (2, supply) (p - 2, demand) (1, first + 59) in
    let n = length-each rule 59 in
    let m = length-append (each rule 59) (tail ∷ []) in
    let sums : LetsBelow (s.wires + 1) (each rule 59 ++ tail ∷ []) =
    lets_below-append (s.wires + 1) (each rule 59) (tail ∷ [])
    (lets_below-each (s.wires + 1) rule 59 (λ k l. (omega arith, (omega arith, (omega arith, tt)))))
    ((omega arith, (omega arith, (omega arith, tt))), tt) in (
      block-last s (masked_batch first mask supply demand)
          (((omega arith, (omega arith, (omega arith, tt))), sums), (omega arith, (omega arith, tt)), (omega arith, omega arith)) refl,
      record { more_wires = omega arith; more_masks = omega arith; more_coefficients = omega arith; dealers = refl },
    )

same_let-below : (n bit w : ℕ) → w < n → TermsBelow n (same_let bit w).terms
same_let-below n bit w h = elim (cases_eq bit 1) [
  | inl e ↦ rw (eq-eqb bit 1 e) (h, (omega arith, (omega arith, tt)))
  | inr e ↦ rw (ne_eqb bit 1 e) (h, (omega arith, (omega arith, tt)))
]

-- the last two batches
last-stands : (lets : List Linear) (borrow low mask c : ℕ) (s : Standing) → low ≡ s.wires + length lets →
    LetsBelow s.wires lets → length lets ≤ 127 → borrow < low → mask + 366 < low →
    BlockStands s (last_batches lets borrow low mask c) × Moved s (after_all s (last_batches lets borrow low mask c)) (length lets + 3) 0 1
last-stands lets borrow low mask c s e below few there bit =
    let end = same_let (1 - bit_at c 0) (mask + 366) in
    let len : length (lets ++ end ∷ []) ≡ length lets + 1 = omega (arith, length-append lets (end ∷ [])) in
    let one = low_bit_batch lets borrow low mask c in
    let two = answer_batch borrow low in
    let now = after s one in
    let ends = lets_below-append s.wires lets (end ∷ []) below
    (same_let-below (s.wires + length lets) (1 - bit_at c 0) (mask + 366) (omega (arith, e, bit)), tt) in (
      block-cons s one (two ∷ []) (record {
        stands = (ends, (omega arith, (omega (arith, e, len), omega (arith, e, len, there), tt)), (omega (arith, len, few), omega arith));
        going = refl;
        silent = refl;
      })
          (block-last now two (
            ((omega (arith, e, len), (omega (arith, e, len, there), (omega (arith, e, len), tt))), tt),
            (omega arith, (omega (arith, e, len), tt)),
            (omega arith, omega arith),
          ) refl),
      record { more_wires = omega (arith, len); more_masks = omega arith; more_coefficients = omega arith; dealers = refl },
    )

chain-stands : (first mask c : ℕ) (s : Standing) → s.wires ≡ first + 61 → mask + 487 ≤ first →
    BlockStands s (chain_batches first mask c) × Moved s (after_all s (chain_batches first mask c)) 184 0 61
chain-stands first mask c s e hm =
    let one = lowest_batch first mask c in
    let s1 = after s one in
    let chain = quiet-each (bit_batch first mask c) 3 s1 59 (λ k l t w. (
      record {
        stands = (
          (
            (omega arith, (omega (arith, w), (omega arith, tt))),
            (same_let-below (t.wires + 1) (bit_at c (k + 2)) (mask + 366 + (k + 2)) (omega (arith, w)), tt),
          ),
          (omega arith, (omega (arith, w), omega (arith, w), tt)),
          (omega arith, omega arith),
        );
        going = refl;
        silent = refl;
      },
      record { more_wires = omega arith; more_masks = omega arith; more_coefficients = omega arith; dealers = refl },
    )) in
    let s2 = after_all s1 (each (bit_batch first mask c) 59) in
    let w2 : s2.wires ≡ first + 241 = omega (arith, chain.1.more_wires) in
    let last = last-stands (last_let first mask c ∷ []) (first + 241) (first + 242) mask c s2 (omega (arith, w2))
    ((omega (arith, w2), (omega (arith, w2), (omega (arith, w2), tt))), tt) (omega arith) (omega arith) (omega arith) in
    let end : after_all s (chain_batches first mask c) ≡ after_all s2 (last_two first mask c) =
    after_all-append s1 (each (bit_batch first mask c) 59) (last_two first mask c) in (
      block-cons s one _ (record {
        stands = (
          ((omega arith, (omega arith, (omega arith, tt))), (same_let-below (s.wires + 1) (bit_at c 1) (mask + 367) (omega arith), tt)),
          (omega arith, (omega arith, omega arith, tt)),
          (omega arith, omega arith),
        );
        going = refl;
        silent = refl;
      })
          (block-append s1 (each (bit_batch first mask c) 59) (last_two first mask c) chain.0 last.0),
      rw end (record {
        more_wires = omega (arith, chain.1.more_wires, last.1.more_wires);
        more_masks = omega (arith, chain.1.more_masks, last.1.more_masks);
        more_coefficients = omega (arith, chain.1.more_coefficients, last.1.more_coefficients);
        dealers = last.1.dealers ∙ chain.1.dealers;
      }),
    )

-- the levels of a tree and the last two batches
tree-stands : (levels n : ℕ) (lets : List Linear) (g q : ℕ → ℕ) (free mask c : ℕ) (s : Standing) →
    free ≡ s.wires + length lets → LetsBelow s.wires lets → length lets ≤ 127 →
    n ≤ 2 ^ levels → 2 ^ levels < 2 * n → n ≤ 65 → ((k : ℕ) → k < n → g k < free) → ((k : ℕ) → k < n → q k < free) → mask + 366 < free →
    BlockStands s (tree_batches levels mask c lets n g q free)
    × Moved s (after_all s (tree_batches levels mask c lets n g q free)) (length lets + 3 * n) 0 (2 * n - 1)
tree-stands zero n lets g q free mask c s e below few most least small hg hq bit =
    let one : n ≡ 1 = omega (arith, most, least) in
    let m = last-stands lets (g 0) free mask c s e below few (hg 0 (omega (arith, least))) bit in (
      m.0,
      record {
        more_wires = omega (arith, m.1.more_wires, one);
        more_masks = m.1.more_masks;
        more_coefficients = omega (arith, m.1.more_coefficients, one);
        dealers = m.1.dealers;
      },
    )
tree-stands (suc levels) n lets g q free mask c s e below few most least small hg hq bit =
    let half = n / 2 in
    let power : 2 ^ suc levels ≡ 2 ^ levels * 2 = pow-suc 2 levels in
    let f : ℕ → ℕ × ℕ = λ i. (q (2 * i + 1), g (2 * i)) in
    let h : ℕ → ℕ × ℕ = λ i. (q (2 * i + 1), q (2 * i)) in
    let pair = by_turns f h in
    let batch = mul_batch lets (level_products (n / 2) g q) in
    let len = length-each pair (2 * half) in
    let some : 2 ≤ n = omega (arith, least, power) in
    let now = after s batch in
    let wires : now.wires ≡ free + 2 * half = omega (arith, e, len) in
    let rule = λ (i : ℕ). two_terms 0 (1, g (2 * i + 1)) (1, free + 2 * i) in
    let len' = length-each rule half in
    let then_free = free + 2 * half + half in
    let lets_then : LetsBelow now.wires (level_lets (n / 2) g free) =
    lets_below-each now.wires rule half (λ k l. (
      omega (arith, wires, hg (2 * k + 1) (omega (arith, l))),
      (omega (arith, wires, l), (omega (arith, wires, l), tt)),
    )) in
    let m = tree-stands levels (next_length n) (level_lets (n / 2) g free) (next_less n g free)
    (next_same n q free) then_free mask c now (omega (arith, wires, len'))
    lets_then (omega (arith, len', small)) (omega (arith, most, power)) (omega (arith, least, power)) (omega (arith, small))
    (next_item-has (λ (x : ℕ). x < then_free) n g (λ i. free + 2 * half + i) (λ k l. omega (arith, hg k l)) (λ k l. omega (arith, l)))
    (next_item-has (λ (x : ℕ). x < then_free) n q (λ i. free + 1 + 2 * i) (λ k l. omega (arith, hq k l)) (λ k l. omega (arith, l)))
    (omega (arith, bit)) in
    let pairs = pairs_below-each (s.wires + length lets) pair (2 * half)
    (turns (λ k place. (place.0 < s.wires + length lets) × (place.1 < s.wires + length lets)) f h half
    (λ i l. (omega (arith, e, hq (2 * i + 1) (omega (arith, l))), omega (arith, e, hg (2 * i) (omega (arith, l)))))
    (λ i l. (omega (arith, e, hq (2 * i + 1) (omega (arith, l))), omega (arith, e, hq (2 * i) (omega (arith, l)))))) in (
      block-cons s batch _ (record {
        stands = (below, (omega (arith, len, some), pairs), (omega (arith, few), omega (arith, len, small)));
        going = refl;
        silent = refl;
      }) m.0,
      record {
        more_wires = omega (arith, m.1.more_wires, len, len', some);
        more_masks = omega (arith, m.1.more_masks);
        more_coefficients = omega (arith, m.1.more_coefficients, len, some);
        dealers = m.1.dealers;
      },
    )

pub borrow-stands : (gates : Gates) (first mask c : ℕ) (s : Standing) → s.wires ≡ first + 61 → mask + 487 ≤ first →
    BlockStands s (borrow_batches gates first mask c)
    × Moved s (after_all s (borrow_batches gates first mask c)) (compare_wires_of gates - 61) 0 (compare_draws_of gates)
borrow-stands Chain first mask c s e hm = chain-stands first mask c s e hm
borrow-stands Tree first mask c s e hm =
    let less = λ (k : ℕ). one_term 0 (1 - bit_at c k, mask + 366 + k) in
    let equal = λ (k : ℕ). same_let (bit_at c k) (mask + 366 + k) in
    let len = length-each (by_turns less equal) (2 * 61) in
    let lets : LetsBelow s.wires (borrow_lets mask c) =
    lets_below-each s.wires (by_turns less equal) (2 * 61)
    (turns (λ k rule. TermsBelow (s.wires + k) rule.terms) less equal 61
    (λ i l. (omega (arith, e, hm, l), (omega (arith, e, l), (omega (arith, e, l), tt))))
    (λ i l. same_let-below (s.wires + (2 * i + 1)) (bit_at c i) (mask + 366 + i) (omega (arith, e, hm, l)))) in
    let m = tree-stands 6 61 (borrow_lets mask c) (λ k. first + 61 + 2 * k) (λ k. first + 62 + 2 * k)
    (first + 183) mask c s (omega (arith, e, len)) lets
    (omega (arith, len)) (omega arith) (omega arith) (omega arith) (λ k l. omega (arith, l)) (λ k l. omega (arith, l))
    (omega (arith, hm)) in (
      m.0,
      record {
        more_wires = omega (arith, m.1.more_wires, len);
        more_masks = m.1.more_masks;
        more_coefficients = m.1.more_coefficients;
        dealers = m.1.dealers;
      },
    )
