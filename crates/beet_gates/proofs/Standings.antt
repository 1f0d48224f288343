-- Blocks whose batches name only wires that stand.
use Rattle.std.proofs.Common.{◌≡◌, ℕ, zero, suc, ◌+◌, ◌*◌, ◌<◌, false, List, [], ◌∷◌, ◌++◌, length, refl, ap, sym, ◌∙◌}
use Rattle.std.proofs.Common.{arith, mul-suc, add-zero, mul-zero}
use Rattle.beet_gates.specs.declared.Batch.{Batch}
use Rattle.beet_gates.specs.declared.Linear.{Linear}
use Rattle.beet_gates.specs.Clear.{is_end}
use Rattle.beet_gates.specs.Each.{each}
use Rattle.beet_gates.specs.Scripts.{Standing, BatchStands, TermsBelow, LetsBelow, PairsBelow, after, revealed}
use Rattle.beet_gates.proofs.PlanRuns.{BlockStands, after_all}
use Rattle.beet_gates.proofs.EachFacts.{each-zero, each-suc, each-cons}

-- pairs and combinations by a rule
pub pairs_below-each : (bound : ℕ) (pair : ℕ → ℕ × ℕ) (n : ℕ) →
    ((k : ℕ) → k < n → ((pair k).0 < bound) × ((pair k).1 < bound)) → PairsBelow bound (each pair n)
pairs_below-each bound pair zero h = rw (each-zero pair) tt
pairs_below-each bound pair (suc n) h =
    let first = h 0 (omega arith) in
    rw (each-cons pair n) (first.0, first.1, pairs_below-each bound (λ k. pair (suc k)) n (λ k l. h (suc k) (omega arith)))

pub lets_below-each : (start : ℕ) (rule : ℕ → Linear) (n : ℕ) →
    ((k : ℕ) → k < n → TermsBelow (start + k) (rule k).terms) → LetsBelow start (each rule n)
lets_below-each start rule zero h = rw (each-zero rule) tt
lets_below-each start rule (suc n) h =
    let first = rw add-zero at (h 0 (omega arith)) in
    rw (each-cons rule n) (
      first,
      lets_below-each (start + 1) (λ k. rule (suc k)) n
          (λ k l. let e : start + 1 + k ≡ start + suc k = omega arith in rw e (h (suc k) (omega arith))),
    )

pub lets_below-append : (start : ℕ) (xs ys : List Linear) → LetsBelow start xs → LetsBelow (start + length xs) ys →
    LetsBelow start (xs ++ ys)
lets_below-append start [] ys h k = rw add-zero at k
lets_below-append start (x ∷ xs) ys h k =
    let e : start + suc (length xs) ≡ start + 1 + length xs = omega arith in
    (h.0, lets_below-append (start + 1) xs ys h.1 (rw e at k))

-- a batch that opens nothing
pub record Quiet (s : Standing) (b : Batch) : Type 0 where
  pub stands : BatchStands s b
  pub going : is_end b.act ≡ false
  pub silent : revealed b.act ≡ 0

abbrev pub AllQuiet : Standing → List Batch → Type 0
AllQuiet s [] = Unit {0}
AllQuiet s (b ∷ bs) = Quiet s b × AllQuiet (after s b) bs

pub after_all-append : (s : Standing) (xs ys : List Batch) → after_all s (xs ++ ys) ≡ after_all (after_all s xs) ys
after_all-append s [] ys = refl
after_all-append s (x ∷ xs) ys = after_all-append (after s x) xs ys

pub quiet-append : (s : Standing) (xs ys : List Batch) → AllQuiet s xs → AllQuiet (after_all s xs) ys → AllQuiet s (xs ++ ys)
quiet-append s [] ys h k = k
quiet-append s (x ∷ xs) ys h k = (h.0, quiet-append (after s x) xs ys h.1 k)

-- a block is quiet batches and one that opens a number
pub block-cons : (s : Standing) (b : Batch) (bs : List Batch) → Quiet s b → BlockStands (after s b) bs → BlockStands s (b ∷ bs)
unfolding BlockStands
block-cons s b [] q h = absurd h
block-cons s b (c ∷ bs) q h = (q.stands, q.going, q.silent, h)

pub block-last : (s : Standing) (b : Batch) → BatchStands s b → revealed b.act ≡ 1 → BlockStands s (b ∷ [])
unfolding BlockStands
block-last s b h e = (h, e)

pub block-append : (s : Standing) (xs ys : List Batch) → AllQuiet s xs → BlockStands (after_all s xs) ys → BlockStands s (xs ++ ys)
block-append s [] ys h k = k
block-append s (x ∷ xs) ys h k = block-cons s x (xs ++ ys) h.0 (block-append (after s x) xs ys h.1 k)

-- how far a standing is beyond another
pub record Moved (s t : Standing) (wires masks coefficients : ℕ) : Type 0 where
  pub more_wires : t.wires ≡ s.wires + wires
  pub more_masks : t.masks ≡ s.masks + masks
  pub more_coefficients : t.coefficients ≡ s.coefficients + coefficients
  pub dealers : t.dealers ≡ s.dealers

-- batches by a rule, each of which appends the same number of wires and draws one coefficient
pub quiet-each : (rule : ℕ → Batch) (grow : ℕ) (s : Standing) (n : ℕ) →
    ((k : ℕ) → k < n → (t : Standing) → t.wires ≡ s.wires + grow * k → Quiet t (rule k) × Moved t (after t (rule k)) grow 0 1) →
    AllQuiet s (each rule n) × Moved s (after_all s (each rule n)) (grow * n) 0 n
quiet-each rule grow s zero h =
    rw (each-zero rule) (
      tt,
      record {
        more_wires = rw mul-zero (sym (add-zero s.wires));
        more_masks = omega arith;
        more_coefficients = omega arith;
        dealers = refl;
      },
    )
quiet-each rule grow s (suc n) h =
    let m = quiet-each rule grow s n (λ k l. h k (omega arith)) in
    let here = after_all s (each rule n) in
    let one = h n (omega arith) here m.1.more_wires in
    let e : after_all s (each rule (suc n)) ≡ after here (rule n) =
    ap (after_all s) (each-suc rule n) ∙ after_all-append s (each rule n) (rule n ∷ []) in (
      rw (each-suc rule n) (quiet-append s (each rule n) (rule n ∷ []) m.0 (one.0, tt)),
      rw e (record {
        more_wires = omega (arith, one.1.more_wires, m.1.more_wires, mul-suc grow n);
        more_masks = omega (arith, one.1.more_masks, m.1.more_masks);
        more_coefficients = omega (arith, one.1.more_coefficients, m.1.more_coefficients);
        dealers = one.1.dealers ∙ m.1.dealers;
      }),
    )
