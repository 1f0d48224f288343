-- Runs on plain values that open the same numbers in the end did so all along, and have as many rounds.
use Rattle.std.proofs.Common.{◌≡◌, ◌≤◌, ◌<◌, ◌+◌, ◌-◌, ℕ, zero, suc, List, [], ◌++◌, length, take, true, false, sym}
use Rattle.std.proofs.Common.{refl, ap, subst, ◌∙◌, ⊎_elim, arith, append-nil, append_assoc, length-append}
use Rattle.std.proofs.Math.Seq.{take-append_seam}
use Rattle.std.proofs.lemmas.Bool.{cases_lt}
use Rattle.beet_gates.specs.Clear.{EndsAfter, Values, clear_at, is_end}
use Rattle.beet_gates.specs.Scripts.{revealed}
use Rattle.beet_gates.specs.declared.Batch.{Batch}
use Rattle.beet_gates.proofs.ClearFacts.{opens-more}

record Grows (xs ys : List ℕ) : Type 0 where
  more : List ℕ
  is : ys ≡ xs ++ more

module _ (next : ℕ → List ℕ → Batch) (deals : ℕ → List ℕ) (inputs : List ℕ) where
  abbrev run : ℕ → Values
  run t = clear_at next deals inputs t

  grows_by : (t n : ℕ) → Grows (run t).opened (run (n + t)).opened
  grows_by t zero =
      let s : zero + t ≡ t = omega arith in
      subst (λ x. Grows (run t).opened (run x).opened) (sym s) (record { more = []; is = sym (append-nil (run t).opened) })
  grows_by t (suc n) =
      let g = grows_by t n in
      let v = run (n + t) in
      let h = opens-more deals (next (n + t) v.opened) v in
      let s : suc n + t ≡ suc (n + t) = omega arith in
      subst (λ x. Grows (run t).opened (run x).opened) (sym s) (record {
        more = g.more ++ h.0;
        is = h.2 ∙ ap (λ l. l ++ h.0) g.is ∙ append_assoc (run t).opened g.more h.0;
      })

  grows : (t u : ℕ) → t ≤ u → Grows (run t).opened (run u).opened
  grows t u le =
      let s : (u - t) + t ≡ u = omega arith in
      subst (λ x. Grows (run t).opened (run x).opened) s (grows_by t (u - t))

fronts : (xs ys m n : List ℕ) → length ys ≡ length xs → ys ++ n ≡ xs ++ m → ys ≡ xs
fronts xs ys m n len e = sym (take-append_seam ys n) ∙ (λ i. take (len i) (e i)) ∙ take-append_seam xs m

module _ (next : ℕ → List ℕ → Batch) (deals deals' : ℕ → List ℕ) (inputs inputs' : List ℕ) (r r' : ℕ)
    (all : (clear_at next deals' inputs' r').opened ≡ (clear_at next deals inputs r).opened) where
  abbrev first : ℕ → Values
  first t = clear_at next deals inputs t

  abbrev second : ℕ → Values
  second t = clear_at next deals' inputs' t

  pub opened-both : (t : ℕ) → t ≤ r → t ≤ r' → (second t).opened ≡ (first t).opened
  opened-both zero le le' = refl
  opened-both (suc t) le le' =
      let e = opened-both t (omega arith) (omega arith) in
      let v = first t in
      let v' = second t in
      let h = opens-more deals (next t v.opened) v in
      let h' = opens-more deals' (next t v'.opened) v' in
      let as_many : length h'.0 ≡ length h.0 = h'.1 ∙ (λ i. revealed (next t (e i)).act) ∙ sym h.1 in
      let len : length (second (suc t)).opened ≡ length (first (suc t)).opened =
      ap length h'.2 ∙ length-append v'.opened h'.0 ∙ (λ i. length (e i) + as_many i) ∙ sym (length-append v.opened h.0)
      ∙ sym (ap length h.2) in
      let g = grows next deals inputs (suc t) r le in
      let g' = grows next deals' inputs' (suc t) r' le' in
      fronts (first (suc t)).opened (second (suc t)).opened g.more g'.more len (sym g'.is ∙ all ∙ g.is)

  module _ (ends : EndsAfter next deals inputs r) (ends' : EndsAfter next deals' inputs' r') where
    not_before : r' ≤ r → r ≤ r'
    not_before le = ⊎_elim
        (λ (lt : r' < r).
        let e = opened-both r' le (omega arith) in
        let go : is_end (next r' (first r').opened).act ≡ false = ends.1 r' lt in
        let stop : is_end (next r' (first r').opened).act ≡ true = (λ i. is_end (next r' (sym e i)).act) ∙ ends'.0 in
        absurd (cc (go, stop)))
        (λ (h : r ≤ r'). h)
        (cases_lt r' r)

    not_after : r ≤ r' → r' ≤ r
    not_after le = ⊎_elim
        (λ (lt : r < r').
        let e = opened-both r (omega arith) le in
        let go : is_end (next r (second r).opened).act ≡ false = ends'.1 r lt in
        let stop : is_end (next r (second r).opened).act ≡ true = (λ i. is_end (next r (e i)).act) ∙ ends.0 in absurd (cc (go, stop)))
        (λ (h : r' ≤ r). h)
        (cases_lt r r')

    pub rounds-same : r' ≡ r
    rounds-same = ⊎_elim
        (λ (lt : r < r'). let a = not_after (omega arith) in omega arith)
        (λ (le : r' ≤ r). let a = not_before le in omega arith)
        (cases_lt r r')

    -- where both end
    pub opened-to-ends : (t : ℕ) → t ≤ r → (second t).opened ≡ (first t).opened
    opened-to-ends t le = let a = rounds-same in opened-both t le (omega arith)

-- after as many batches
pub opened-along : (next : ℕ → List ℕ → Batch) (deals deals' : ℕ → List ℕ) (inputs inputs' : List ℕ) (r : ℕ) →
    (clear_at next deals' inputs' r).opened ≡ (clear_at next deals inputs r).opened →
    (t : ℕ) → t ≤ r → (clear_at next deals' inputs' t).opened ≡ (clear_at next deals inputs t).opened
opened-along next deals deals' inputs inputs' r all t le = opened-both next deals deals' inputs inputs' r r all t le le
