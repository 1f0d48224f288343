-- The batches of a tree, with the wires of its lists told as items.
use Rattle.std.proofs.Common.{◌≡◌, ℕ, ◌+◌, ◌-◌, ◌*◌, ◌/◌, ◌<◌, ◌≤◌, refl, ap, ◌∙◌, arith}
use Rattle.beet_gates.specs.Batches.{mul_batch}
use Rattle.beet_gates.specs.Each.{by_turns}
use Rattle.beet_gates.specs.Levels.{wire_of}
use Rattle.beet_gates.specs.Linears.{two_terms}
use Rattle.beet_gates.proofs.EachFacts.{each-same, turns, turn-first, turn-second}
use Rattle.beet_gates.proofs.LevelRuns.{items-told, results-told}
use Rattle.beet_compare.specs.Compare.{level_lets, level_products, level_less, level_same, next_less, next_same}

-- products and lets of rules that agree on the items
pub products-told : (pairs : ℕ) (g q g' q' : ℕ → ℕ) → ((k : ℕ) → k < 2 * pairs → g k ≡ g' k) → ((k : ℕ) → k < 2 * pairs → q k ≡ q' k) →
    level_products pairs g q ≡ level_products pairs g' q'
products-told pairs g q g' q' less equal =
    let f : ℕ → ℕ × ℕ = λ i. (q (2 * i + 1), g (2 * i)) in
    let h : ℕ → ℕ × ℕ = λ i. (q (2 * i + 1), q (2 * i)) in
    let f' : ℕ → ℕ × ℕ = λ i. (q' (2 * i + 1), g' (2 * i)) in
    let h' : ℕ → ℕ × ℕ = λ i. (q' (2 * i + 1), q' (2 * i)) in
    each-same (by_turns f h) (by_turns f' h') (2 * pairs)
    (turns (λ k place. place ≡ by_turns f' h' k) f h pairs
    (λ i l. rw (turn-first f' h' i, equal (2 * i + 1) (omega (arith, l)), less (2 * i) (omega (arith, l))) refl)
    (λ i l. rw (turn-second f' h' i, equal (2 * i + 1) (omega (arith, l)), equal (2 * i) (omega (arith, l))) refl))

pub lets-told : (pairs : ℕ) (g g' : ℕ → ℕ) (at free : ℕ) → at ≡ free → ((k : ℕ) → k < 2 * pairs → g k ≡ g' k) →
    level_lets pairs g at ≡ level_lets pairs g' free
lets-told pairs g g' at free e less =
    each-same (λ i. two_terms 0 (1, g (2 * i + 1)) (1, at + 2 * i)) (λ i. two_terms 0 (1, g' (2 * i + 1)) (1, free + 2 * i)) pairs
    (λ i l. rw (less (2 * i + 1) (omega (arith, l)), e) refl)

-- a whole batch
pub level-told : (lets pairs : ℕ) (before g' g q : ℕ → ℕ) (less same : ℕ → ℕ) (at free : ℕ) → at ≡ free →
    ((k : ℕ) → k < 2 * lets → before k ≡ g' k) →
    ((k : ℕ) → k < 2 * pairs → less k ≡ g k) → ((k : ℕ) → k < 2 * pairs → same k ≡ q k) →
    mul_batch (level_lets lets before at) (level_products pairs less same) ≡ mul_batch (level_lets lets g' free) (level_products pairs g q)
level-told lets pairs before g' g q less same at free e a b c =
    ap (λ l. mul_batch l (level_products pairs less same)) (lets-told lets before g' at free e a)
    ∙ ap (mul_batch (level_lets lets g' free)) (products-told pairs less same g q b c)

module _ (first n at free : ℕ) (e : at ≡ free) where
  -- the results of a level
  pub less-told : (g : ℕ → ℕ) (k : ℕ) → k < n / 2 → wire_of (level_less first at (n / 2)) k ≡ next_less n g free k
  less-told g k l = results-told n (level_less first at (n / 2)) g (λ i. free + 2 * (n / 2) + i) refl (λ i h. omega (arith, e)) k l

  pub same-told : (q : ℕ → ℕ) (k : ℕ) → k < n / 2 → wire_of (level_same first at (n / 2)) k ≡ next_same n q free k
  same-told q k l = results-told n (level_same first at (n / 2)) q (λ i. free + 1 + 2 * i) refl (λ i h. omega (arith, e)) k l

  -- and all items, where the last of the list before is the last bit
  pub less-all : (g : ℕ → ℕ) → first + 61 + 2 * 60 ≡ g (n - 1) → (k : ℕ) → wire_of (level_less first at (n / 2)) k ≡ next_less n g free k
  less-all g last k = items-told n (level_less first at (n / 2)) g (λ i. free + 2 * (n / 2) + i) refl (λ i h. omega (arith, e)) last k

  pub same-all : (q : ℕ → ℕ) → first + 62 + 2 * 60 ≡ q (n - 1) → (k : ℕ) → wire_of (level_same first at (n / 2)) k ≡ next_same n q free k
  same-all q last k = items-told n (level_same first at (n / 2)) q (λ i. free + 1 + 2 * i) refl (λ i h. omega (arith, e)) last k

  -- the batch of a level, after a list of n items
  pub level-after : (pairs : ℕ) (before g q : ℕ → ℕ) → 2 * pairs ≤ n / 2 → ((k : ℕ) → k < 2 * (n / 2) → before k ≡ g k) →
      mul_batch (level_lets (n / 2) before at)
      (level_products pairs (wire_of (level_less first at (n / 2))) (wire_of (level_same first at (n / 2))))
      ≡ mul_batch (level_lets (n / 2) g free) (level_products pairs (next_less n g free) (next_same n q free))
  level-after pairs before g q h a =
      level-told (n / 2) pairs before g (next_less n g free) (next_same n q free)
      (wire_of (level_less first at (n / 2))) (wire_of (level_same first at (n / 2))) at free e a
      (λ k l. less-told g k (omega (arith, l, h))) (λ k l. same-told q k (omega (arith, l, h)))

-- and of the level after that one
pub level-later : (first n at free at' free' pairs : ℕ) (g q : ℕ → ℕ) → at ≡ free → at' ≡ free' → 2 * pairs ≤ n / 2 / 2 →
    mul_batch (level_lets (n / 2 / 2) (wire_of (level_less first at (n / 2))) at')
    (level_products pairs (wire_of (level_less first at' (n / 2 / 2))) (wire_of (level_same first at' (n / 2 / 2))))
    ≡ mul_batch (level_lets (n / 2 / 2) (next_less n g free) free')
    (level_products pairs (next_less (n / 2) (next_less n g free) free') (next_same (n / 2) (next_same n q free) free'))
level-later first n at free at' free' pairs g q e e' h =
    level-after first (n / 2) at' free' e' pairs (wire_of (level_less first at (n / 2))) (next_less n g free) (next_same n q free) h
    (λ k l. less-told first n at free e g k (omega (arith, l)))

-- the lists of a tree
module _ (first : ℕ) where
  abbrev pub less_one : ℕ → ℕ
  less_one = next_less 61 (λ k. first + 61 + 2 * k) (first + 183)

  abbrev pub same_one : ℕ → ℕ
  same_one = next_same 61 (λ k. first + 62 + 2 * k) (first + 183)

  abbrev pub less_two : ℕ → ℕ
  less_two = next_less 31 less_one (first + 183 + 60 + 30)

  abbrev pub same_two : ℕ → ℕ
  same_two = next_same 31 same_one (first + 183 + 60 + 30)

  abbrev pub less_three : ℕ → ℕ
  less_three = next_less 16 less_two (first + 183 + 60 + 30 + 30 + 15)

  abbrev pub same_three : ℕ → ℕ
  same_three = next_same 16 same_two (first + 183 + 60 + 30 + 30 + 15)

  abbrev pub less_four : ℕ → ℕ
  less_four = next_less 8 less_three (first + 183 + 60 + 30 + 30 + 15 + 16 + 8)

  abbrev pub same_four : ℕ → ℕ
  same_four = next_same 8 same_three (first + 183 + 60 + 30 + 30 + 15 + 16 + 8)

  abbrev pub less_five : ℕ → ℕ
  less_five = next_less 4 less_four (first + 183 + 60 + 30 + 30 + 15 + 16 + 8 + 8 + 4)

  abbrev pub same_five : ℕ → ℕ
  same_five = next_same 4 same_four (first + 183 + 60 + 30 + 30 + 15 + 16 + 8 + 8 + 4)
