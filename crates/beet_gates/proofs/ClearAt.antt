-- Where a run on plain values ends.
use Rattle.std.proofs.Common.{◌≡◌, ℕ, zero, suc, ◌+◌, inl, inr, ◌<◌, ◌≤◌, ◌⊎◌, Bool, true, false, not, List, [], length}
use Rattle.std.proofs.Common.{get_or, refl, ◌∙◌, arith, add-one, zero-add}
use Rattle.std.specs.List.{range_with_len}
use Rattle.std.proofs.lemmas.List.FromFn.{get_or-range_with_len, length-range_with_len}
use Rattle.std.proofs.lemmas.List.Sums.{position_or_len_is, prefix_len-le-length}
use Rattle.beet_field.specs.declared.trio.Trio.{Trio}
use Rattle.beet_gates.specs.Deals.{deals_of}
use Rattle.beet_gates.specs.declared.Act.{Act}
use Rattle.beet_gates.specs.declared.Batch.{Batch}
use Rattle.beet_gates.specs.Clear.{is_end, clear_at, clear_act, first_end, rounds_dealt, rounds_run, EndsAfter}
use Rattle.beet_gates.specs.Scripts.{Standing, LawFrom, start_among, start_of}
use Rattle.beet_gates.proofs.ClearFacts.{DealtBy, Underway, begins, by-three, goes-on, ends-at-last}

pub less-or : (r s : ℕ) → (r < s) ⊎ ((r ≡ s) ⊎ (s < r))
less-or r s = grind arith

module _ (next : ℕ → List ℕ → Batch) (deals : ℕ → List ℕ) (inputs : List ℕ) where
  -- there is one first end
  pub ends-once : (r s : ℕ) → EndsAfter next deals inputs r → EndsAfter next deals inputs s → r ≡ s
  ends-once r s h k = elim (less-or r s) [
    | inl less ↦ cc (h.0, k.1 r less)
    | inr rest ↦ elim rest [
      | inl same ↦ same
      | inr more ↦ cc (k.0, h.1 s more)
    ]
  ]

-- the end comes first where no act before it is one
pub first-end : (acts : ℕ → Act) (most r : ℕ) → r ≤ most → is_end (acts r) ≡ true →
    ((k : ℕ) → k < r → is_end (acts k) ≡ false) → first_end acts most ≡ r
first-end acts most r le ends goes =
    let at : (k : ℕ) → k < most → get_or (range_with_len 0 most) k 0 ≡ k = λ k l. get_or-range_with_len 0 most k 0 l ∙ zero-add k in
    position_or_len_is (λ t. is_end (acts t)) (range_with_len 0 most) r 0 (rw length-range_with_len le)
    (λ k l. rw (at k (omega arith)) (goes k l))
    (λ l. rw (at r (rw length-range_with_len at l)) ends)

-- no more acts come before it than are looked at
pub first-few : (acts : ℕ → Act) (most : ℕ) → first_end acts most ≤ most
first-few acts most =
    rw length-range_with_len at (prefix_len-le-length (λ t. not (is_end (acts t))) (range_with_len 0 most))

module _ (next : ℕ → List ℕ → Batch) (deals : ℕ → List ℕ) (inputs : List ℕ) where
  -- a run that ends after r batches has r rounds
  pub rounds-are : (most r : ℕ) → EndsAfter next deals inputs r → r ≤ most → rounds_dealt next most inputs deals ≡ r
  unfolding rounds_dealt
  rounds-are most r h le = first-end (clear_act next deals inputs) most r le h.0 h.1

  -- a run of which at most n batches are left comes to its end
  reaches : (bounds : Standing) (n t : ℕ) → Underway next deals bounds inputs n t (clear_at next deals inputs t) →
      (r : ℕ) × EndsAfter next deals inputs r × (r ≤ t + n)
  reaches bounds zero t u =
      let v = clear_at next deals inputs t in
      (t, (ends-at-last next deals bounds inputs t v (next t v.opened) refl u).ends, omega arith)
  reaches bounds (suc n) t u = by_end (is_end (clear_act next deals inputs t)) refl (λ w. reaches bounds n (suc t) w) where
    by_end : (e : Bool) → is_end (clear_act next deals inputs t) ≡ e →
        (Underway next deals bounds inputs n (suc t) (clear_at next deals inputs (suc t)) →
        (r : ℕ) × EndsAfter next deals inputs r × (r ≤ suc t + n)) →
        (r : ℕ) × EndsAfter next deals inputs r × (r ≤ t + suc n)
    by_end true e more = (t, (e, u.going), omega arith)
    by_end false e more =
        let v = clear_at next deals inputs t in
        let on = goes-on next deals bounds inputs t v (next t v.opened) refl n u e in
        let rest = more (rw add-one at on) in
        (rest.0, rest.1, omega (arith, rest.2))

-- the rounds of a lawful run are the batches before its end, and no more than the law allows
pub dealt-ends : (next : ℕ → List ℕ → Batch) (deals : ℕ → List ℕ) (bounds : Standing) (dealers most : ℕ)
    (inputs : List ℕ) → DealtBy dealers deals →
    LawFrom next bounds most (start_among dealers (length inputs)) [] →
    EndsAfter next deals inputs (rounds_dealt next most inputs deals) × (rounds_dealt next most inputs deals ≤ most)
dealt-ends next deals bounds dealers most inputs many law =
    let r = reaches next deals inputs bounds most 0 (begins next deals bounds inputs dealers most many law) in
    let le : r.0 ≤ most = omega (arith, r.2) in
    rw (rounds-are next deals inputs most r.0 r.1 le) (r.1, le)

-- the same where three servers deal words
pub run-ends : (next : ℕ → List ℕ → Batch) (words : Trio (List ℕ)) (bounds : Standing) (most : ℕ) (inputs : List ℕ) →
    LawFrom next bounds most (start_of (length inputs)) [] →
    EndsAfter next (deals_of words) inputs (rounds_run next most inputs words) × (rounds_run next most inputs words ≤ most)
run-ends next words bounds most inputs law = dealt-ends next (deals_of words) bounds 3 most inputs (by-three words) law
