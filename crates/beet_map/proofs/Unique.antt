-- The moved numbers are the only ones.
use Rattle.std.proofs.Common.{◌≡◌, ◌≢◌, ◌≤◌, ◌<◌, ◌+◌, ℕ, zero, suc, List, slice_index, sym, refl, ap, subst, ◌∙◌}
use Rattle.std.proofs.Common.{⊎_elim, arith}
use Rattle.std.proofs.lemmas.Bool.{cases_lt}
use Rattle.std.proofs.lemmas.List.{ext_get_or}
use Rattle.beet_field.specs.Trio.{member, trio_of}
use Rattle.beet_field.specs.declared.point.Point.{Point}
use Rattle.beet_field.specs.declared.point.Point.TheVariants.{One, Two, Three}
use Rattle.beet_field.specs.declared.trio.Trio.{Trio}
use Rattle.beet_gates.specs.declared.Batch.{Batch}
use Rattle.beet_gates.specs.Draws.{draws_in}
use Rattle.beet_sharing.specs.Runs.{Setup, act_among, coming, secret_hidden, shared_at, standing_at, with_batch_lets}
use Rattle.beet_sharing.proofs.SameRuns.{act-same, drawn-in}
use Rattle.beet_map.specs.Secrets.{Secrets, begin_in, shares_of}
use Rattle.beet_map.specs.Mapped.{GateMapped, moved_of, number_at, secret_at}
use Rattle.beet_map.proofs.Moves.{same_or}
use Rattle.beet_map.specs.Premise.{MayMap}
use Rattle.beet_map.proofs.Alike.{Alike, alike_at, same_batch}

-- two lists of numbers that both follow from the first world are the same
module _ (next : ℕ → List ℕ → Batch) (me : Point) (rounds : ℕ) (w w' : Secrets) (may : MayMap next me rounds w w')
    (numbers : Trio (List ℕ)) where
  abbrev first : Setup
  first = begin_in next w numbers

  abbrev second : Trio (List ℕ) → Setup
  second d = begin_in next w' d

  module _ (d e : Trio (List ℕ)) (m : GateMapped me rounds first (second d)) (m' : GateMapped me rounds first (second e)) where
    alike : (t : ℕ) → t ≤ rounds → Alike me (shared_at first t) (shared_at (second d) t)
    alike t le = alike_at next me w w' numbers d rounds may m t le

    -- the numbers drawn in a batch that both reach alike
    draws_same : (t : ℕ) → t < rounds → shared_at (second e) t ≡ shared_at (second d) t → (j : Point) (k : ℕ) →
        k < draws_in (coming first t).act → number_at (second e) t j k ≡ number_at (second d) t j k
    draws_same t lt same j k below = ⊎_elim
        (λ (here : j ≡ me). subst (λ x. number_at (second e) t x k ≡ number_at (second d) t x k) (sym here)
        (λ i. slice_index ((m'.own ∙ sym m.own) i) ((same i).drawn + k)))
        (λ (ne : j ≢ me). m'.moves j ne t k lt below
        ∙ (λ i. moved_of me (number_at first t j k) (secret_at first t j k)
        (secret_hidden (second d) (with_batch_lets (next t (same i).opened) (same i)) (next t (same i).opened).act j k))
        ∙ sym (m.moves j ne t k lt below))
        (same_or j me)

    pub runs_same : (t : ℕ) → t ≤ rounds → shared_at (second e) t ≡ shared_at (second d) t
    runs_same zero le = refl
    runs_same (suc t) le =
        let same = runs_same t (omega arith) in
        let is : coming (second d) t ≡ coming first t = same_batch next me w w' numbers d rounds may m t (alike t (omega arith)) in
        (λ i. act_among (second e) (next t (same i).opened).act (with_batch_lets (next t (same i).opened) (same i)))
        ∙ act-same next (trio_of (shares_of w'.inputs)) w'.masks w'.masks d e (standing_at (second d) t)
        (coming (second d) t).act (record {
          word = λ j some. refl;
          number = λ j k below.
              (λ i. slice_index (member e j) ((sym same i).drawn + k))
              ∙ draws_same t (omega arith) same j k (subst (λ b. k < draws_in b.act) is below);
        })

    each_same : (j : Point) → j ≢ me → (n : ℕ) → slice_index (member e j) n ≡ slice_index (member d j) n
    each_same j ne n = ⊎_elim
        (λ (h : n < (shared_at first rounds).drawn).
        let at = drawn-in first rounds n h in
        let t : ℕ = at.batch in
        let k : ℕ = at.place in
        let lt : t < rounds = at.early in
        let same = runs_same t (omega arith) in
        let g = alike t (omega arith) in
        let place : (shared_at (second d) t).drawn + k ≡ n = ap (λ x. x + k) g.drawn ∙ at.there in
        (λ i. slice_index (member e j) ((sym place ∙ (λ x. (sym same x).drawn + k)) i)) ∙ draws_same t lt same j k at.within
        ∙ ap (λ x. slice_index (member d j) x) place)
        (λ (h : (shared_at first rounds).drawn ≤ n). m'.rest j ne n h ∙ sym (m.rest j ne n h))
        (cases_lt n (shared_at first rounds).drawn)

    member_same : (j : Point) → member e j ≡ member d j
    member_same j = ⊎_elim
        (λ (here : j ≡ me). subst (λ x. member e x ≡ member d x) (sym here) (m'.own ∙ sym m.own))
        (λ (ne : j ≢ me). ext_get_or 0 (member e j) (member d j) (m'.lengths j ∙ sym (m.lengths j)) (λ n lt. each_same j ne n))
        (same_or j me)

    pub only_one : e ≡ d
    only_one = λ i. record { one = member_same One i; two = member_same Two i; three = member_same Three i }
