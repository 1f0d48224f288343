-- The block of a mask names only wires that stand.
use Rattle.std.proofs.Common.{◌≡◌, ℕ, zero, suc, ◌+◌, ◌-◌, ◌*◌, ◌/◌, ◌^◌, ◌<◌, ◌≤◌, List, [], ◌∷◌, length, refl, arith, pow-suc}
use Rattle.beet_gates.specs.Batches.{deal_batch, mul_batch, reveal_batch}
use Rattle.beet_gates.specs.Each.{each}
use Rattle.beet_gates.specs.Levels.{next_length, next_item}
use Rattle.beet_gates.specs.Scripts.{Standing, LetsBelow, after}
use Rattle.beet_gates.proofs.PlanRuns.{BlockStands, after_all}
use Rattle.beet_gates.specs.declared.Gates.{Gates}
use Rattle.beet_gates.specs.declared.Gates.TheVariants.{Chain, Tree}
use Rattle.beet_gates.specs.declared.Linear.{Linear}
use Rattle.beet_gates.proofs.EachFacts.{length-each}
use Rattle.beet_gates.proofs.LevelRuns.{next_item-has}
use Rattle.beet_gates.proofs.Standings.{Moved, pairs_below-each, lets_below-each, block-cons, block-last, block-append}
use Rattle.beet_gates.proofs.Standings.{quiet-each, after_all-append, Quiet}
use Rattle.beet_mask.specs.Mask.{chain_batches, mask_batches, mask_draws_of, mask_wires_of, product_batches}
use Rattle.beet_mask.specs.Mask.{tree_batches, word_lets, xor_batches, xor_let}

-- the levels of a tree
tree-stands : (levels n : ℕ) (lets : List Linear) (item : ℕ → ℕ) (free : ℕ) (s : Standing) →
    free ≡ s.wires + length lets → LetsBelow s.wires lets → length lets ≤ 128 →
    n ≤ 2 ^ levels → 2 ^ levels < 2 * n → n ≤ 129 → ((k : ℕ) → k < n → item k < free) →
    BlockStands s (tree_batches levels lets n item free)
    × Moved s (after_all s (tree_batches levels lets n item free)) (length lets + (n - 1)) 0 (n - 1)
tree-stands zero n lets item free s e below few most least small h =
    let one : n ≡ 1 = omega (arith, most, least) in
    let last = reveal_batch lets (item 0 ∷ []) in
    let there : item 0 < s.wires + length lets = omega (arith, h 0 (omega arith), e) in (
      block-last s last (below, (omega arith, (there, tt)), (few, omega arith)) refl,
      record { more_wires = omega (arith, one); more_masks = omega arith; more_coefficients = omega (arith, one); dealers = refl },
    )
tree-stands (suc levels) n lets item free s e below few most least small h =
    let half = n / 2 in
    let power : 2 ^ suc levels ≡ 2 ^ levels * 2 = pow-suc 2 levels in
    let pair : ℕ → ℕ × ℕ = λ i. (item (2 * i), item (2 * i + 1)) in
    let batch = mul_batch lets (each pair half) in
    let len = length-each pair half in
    let next = next_item n item (λ (i : ℕ). free + i) in
    let now = after s batch in
    let some : 2 ≤ n = omega (arith, least, power) in
    let wires : free + half ≡ now.wires + 0 = omega (arith, e, len) in
    let m = tree-stands levels (next_length n) [] next (free + half) now wires tt (omega arith)
    (omega (arith, most, power)) (omega (arith, least, power)) (omega (arith, small))
    (next_item-has (λ (x : ℕ). x < free + half) n item (λ (i : ℕ). free + i) (λ k l. omega (arith, h k l)) (λ k l. omega (arith, l))) in
    let pairs = pairs_below-each (s.wires + length lets) pair half
    (λ k l. (omega (arith, e, h (2 * k) (omega (arith, l))), omega (arith, e, h (2 * k + 1) (omega (arith, l))))) in (
      block-cons s batch _ (record {
        stands = (below, (omega (arith, len, some), pairs), (few, omega (arith, len, small)));
        going = refl;
        silent = refl;
      }) m.0,
      record {
        more_wires = omega (arith, m.1.more_wires, len, some);
        more_masks = omega (arith, m.1.more_masks);
        more_coefficients = omega (arith, m.1.more_coefficients, len, some);
        dealers = m.1.dealers;
      },
    )

-- what is asked of the lets that form the bits of an exclusive or
pub record FormsBits (s : Standing) (lets : List Linear) (bits : ℕ) : Type 0 where
  pub at : s.wires ≡ bits
  pub below : LetsBelow s.wires lets
  pub count : length lets ≡ 61

chain-stands : (lets : List Linear) (bits : ℕ) (s : Standing) → FormsBits s lets bits →
    BlockStands s (chain_batches lets bits) × Moved s (after_all s (chain_batches lets bits)) 121 0 60
chain-stands lets bits s f =
    let rule = λ (j : ℕ). mul_batch [] ((bits + 61 + j, bits + 2 + j) ∷ []) in
    let batch = mul_batch lets ((bits, bits + 1) ∷ []) in
    let now = after s batch in
    let w : now.wires ≡ bits + 62 = omega (arith, f.at, f.count) in
    let chain = quiet-each rule 1 now 59 (λ k l t w'. (
      record {
        stands = (tt, (omega arith, (omega (arith, w, w'), omega (arith, w, w'), tt)), (omega arith, omega arith));
        going = refl;
        silent = refl;
      },
      record { more_wires = omega arith; more_masks = omega arith; more_coefficients = omega arith; dealers = refl },
    )) in
    let last = reveal_batch [] ((bits + 120) ∷ []) in
    let then_last = after_all now (each rule 59) in
    let end : after_all s (chain_batches lets bits) ≡ after then_last last = after_all-append now (each rule 59) (last ∷ []) in (
      block-cons s batch _ (record {
        stands = (
          f.below,
          (omega arith, (omega (arith, f.at, f.count), omega (arith, f.at, f.count), tt)),
          (omega (arith, f.count), omega arith),
        );
        going = refl;
        silent = refl;
      })
          (block-append now (each rule 59) (last ∷ []) chain.0
          (block-last then_last last (tt, (omega arith, (omega (arith, chain.1.more_wires, w), tt)), (omega arith, omega arith)) refl)),
      rw end (record {
        more_wires = omega (arith, chain.1.more_wires, f.at, f.count);
        more_masks = omega (arith, chain.1.more_masks);
        more_coefficients = omega (arith, chain.1.more_coefficients);
        dealers = chain.1.dealers;
      }),
    )

-- the batches of the product of bits
product-stands : (gates : Gates) (lets : List Linear) (bits : ℕ) (s : Standing) → FormsBits s lets bits →
    BlockStands s (product_batches gates lets bits) × Moved s (after_all s (product_batches gates lets bits)) 121 0 60
product-stands Chain lets bits s f = chain-stands lets bits s f
product-stands Tree lets bits s f =
    let m = tree-stands 6 61 lets (λ k. bits + k) (bits + 61) s (omega (arith, f.at, f.count)) f.below (omega (arith, f.count))
    (omega arith) (omega arith) (omega arith) (λ k l. omega (arith, l)) in (
      m.0,
      record {
        more_wires = omega (arith, m.1.more_wires, f.count);
        more_masks = m.1.more_masks;
        more_coefficients = m.1.more_coefficients;
        dealers = m.1.dealers;
      },
    )

-- the products with a word, after lets
words-quiet : (lets : List Linear) (left right : ℕ) (s : Standing) → LetsBelow s.wires lets → length lets ≤ 61 →
    left + 61 ≤ s.wires + length lets →
    right + 61 ≤ s.wires + length lets → Quiet s (mul_batch lets (each (λ k. (left + k, right + k)) 61))
words-quiet lets left right s below few one two =
    let pair : ℕ → ℕ × ℕ = λ k. (left + k, right + k) in
    let n = length-each pair 61 in
    record {
      stands = (
        below,
        (omega (arith, n), pairs_below-each _ pair 61 (λ k l. (omega (arith, one, l), omega (arith, two, l)))),
        (omega (arith, few), omega (arith, n)),
      );
      going = refl;
      silent = refl;
    }

word_lets-below : (left right product wires : ℕ) → left + 61 ≤ wires → right + 61 ≤ wires → product + 61 ≤ wires →
    LetsBelow wires (word_lets left right product)
word_lets-below left right product wires one two three =
    lets_below-each wires (λ (k : ℕ). xor_let (left + k) (right + k) (product + k)) 61
    (λ k l. (omega (arith, one, l), (omega (arith, two, l), (omega (arith, three, l), tt))))

-- the batches where n words are left
pub xor-stands : (gates : Gates) (n : ℕ) (lets : List Linear) (left right free : ℕ) (s : Standing) →
    FormsBits s lets left → free ≡ left + 61 →
    right + 61 * n ≤ left → BlockStands s (xor_batches gates n lets left right free)
    × Moved s (after_all s (xor_batches gates n lets left right free)) (122 * n + 121) 0 (61 * n + 60)
xor-stands gates zero lets left right free s f place room = product-stands gates lets left s f
xor-stands gates (suc n) lets left right free s f place room =
    let pair : ℕ → ℕ × ℕ = λ k. (left + k, right + k) in
    let batch = mul_batch lets (each pair 61) in
    let now = after s batch in
    let count = length-each pair 61 in
    let w : now.wires ≡ free + 61 = omega (arith, f.at, f.count, place, count) in
    let forms : FormsBits now (word_lets left right free) (free + 61) = record {
      at = w;
      below = word_lets-below left right free now.wires (omega (arith, w, place)) (omega (arith, w, place, room)) (omega (arith, w));
      count = length-each (λ (k : ℕ). xor_let (left + k) (right + k) (free + k)) 61;
    } in
    let m = xor-stands gates n (word_lets left right free) (free + 61) (right + 61) (free + 122) now forms (omega arith)
    (omega (arith, room, place)) in (
      block-cons s batch _ (words-quiet lets left right s f.below (omega (arith, f.count))
          (omega (arith, f.at, f.count)) (omega (arith, f.at, room))) m.0,
      record {
        more_wires = omega (arith, m.1.more_wires, f.count, count);
        more_masks = omega (arith, m.1.more_masks);
        more_coefficients = omega (arith, m.1.more_coefficients, count);
        dealers = m.1.dealers;
      },
    )

pub mask-stands : (gates : Gates) (words first : ℕ) (s : Standing) → 2 ≤ words → s.wires ≡ first → s.dealers ≡ words →
    BlockStands s (mask_batches gates words first)
    × Moved s (after_all s (mask_batches gates words first)) (mask_wires_of words) 1 (mask_draws_of words)
mask-stands gates words first s some e dealers =
    let n = words - 2 in
    let is : words - 1 ≡ suc n = omega arith in
    let free = first + 61 * words in
    let pair : ℕ → ℕ × ℕ = λ k. (first + k, first + 61 + k) in
    let s1 = after s deal_batch in
    let w1 : s1.wires ≡ free = let bits : 61 * s.dealers ≡ 61 * words = λ i. 61 * dealers i in omega (arith, e, bits) in
    let batch = mul_batch [] (each pair 61) in
    let s2 = after s1 batch in
    let count = length-each pair 61 in
    let w2 : s2.wires ≡ free + 61 = omega (arith, w1, count) in
    let forms : FormsBits s2 (word_lets first (first + 61) free) (free + 61) = record {
      at = w2;
      below = word_lets-below first (first + 61) free s2.wires (omega (arith, w2, some)) (omega (arith, w2, some)) (omega (arith, w2));
      count = length-each (λ (k : ℕ). xor_let (first + k) (first + 61 + k) (free + k)) 61;
    } in
    let m = xor-stands gates n (word_lets first (first + 61) free) (free + 61) (first + 61 + 61) (free + 122) s2 forms
    (omega arith) (omega (arith, some)) in
    rw is (
      block-cons s deal_batch _ (record { stands = (tt, tt, (omega arith, omega arith)); going = refl; silent = refl })
          (block-cons s1 batch _ (words-quiet [] first (first + 61) s1 tt (omega arith) (omega (arith, w1, some))
          (omega (arith, w1, some))) m.0),
      record {
        more_wires = omega (arith, m.1.more_wires, w2, e, some);
        more_masks = omega (arith, m.1.more_masks);
        more_coefficients = omega (arith, m.1.more_coefficients, count, some);
        dealers = m.1.dealers;
      },
    )
