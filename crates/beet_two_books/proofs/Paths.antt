-- The loop that lists the places on a path.
use Rattle.std.proofs.Common.{◌≡◌, ◌≤◌, ◌<◌, ◌+◌, ◌/◌, ℕ, suc, inl, inr, true, List, [], ◌∷◌, ◌++◌, refl, sym, ap, ◌∙◌}
use Rattle.std.proofs.Common.{arith, append-nil, append_assoc}
use Rattle.std.specs.Prelude.{All, nat_le, nat_lt, if◌then◌else◌}
use Rattle.std.proofs.lemmas.Bool.{cases_Bool}
use Rattle.std.proofs.lemmas.Bool.Decides.{nat_tests}
use Rattle.std.proofs.lemmas.List.Elements.{All-push}
use Rattle.beet_plan.specs.Search.{tested}
use Rattle.beet_plan.proofs.Searches.{tested-none, tested-open}

tested-zero : (end low high : ℕ) → tested (nat_le end) 0 low high ≡ []
unfolding tested
tested-zero end low high = refl

-- what is left once the places meet, and once no step is left
pub path-done : (items whole : List ℕ) (end n low high : ℕ) → high ≤ low → items ++ tested (nat_le end) n low high ≡ whole → items ≡ whole
path-done items whole end n low high h e = sym (ap (λ l. items ++ l) (tested-none (nat_le end) n low high h) ∙ append-nil items) ∙ e

pub path-end : (items whole : List ℕ) (end n low high : ℕ) → n ≡ 0 → items ++ tested (nat_le end) n low high ≡ whole → items ≡ whole
path-end items whole end n low high z e = sym (ap (λ k. items ++ tested (nat_le end) k low high) z
    ∙ ap (λ l. items ++ l) (tested-zero end low high) ∙ append-nil items) ∙ e

-- one step
pub record PathStep (items whole : List ℕ) (end m prices : ℕ) (between : ℕ × ℕ) : Type 0 where
  pub upper : between.1 ≤ prices
  pub rest : items ++ tested (nat_le end) m between.0 between.1 ≡ whole
  pub within : All (λ place. place < prices) items

pub path-step : (items after whole : List ℕ) (end n m low high prices : ℕ) (between : ℕ × ℕ) → n ≡ suc m → low < high → high ≤ prices →
    items ++ tested (nat_le end) n low high ≡ whole → All (λ place. place < prices) items → after ≡ items ++ (low + high) / 2 ∷ [] →
    between ≡ (if nat_le end ((low + high) / 2) then (low, (low + high) / 2) else ((low + high) / 2 + 1, high)) →
    PathStep after whole end m prices between
path-step items after whole end n m low high prices between s h up e all new half =
    let mid = (low + high) / 2 in
    let t : nat_lt low high ≡ true = grind (arith, nat_tests) in
    let within : All (λ place. place < prices) (items ++ mid ∷ []) = All-push (λ place. place < prices) items mid all (omega arith) in
    let more : items ++ (mid ∷ (if nat_le end mid then tested (nat_le end) m low mid else tested (nat_le end) m (mid + 1) high)) ≡ whole =
    ap (λ l. items ++ l) (sym (tested-open (nat_le end) m low high t)) ∙ ap (λ k. items ++ tested (nat_le end) k low high) (sym s) ∙ e in
    rw new (elim (cases_Bool (nat_le end mid)) [
      | inl low_half ↦
          let b : between ≡ (low, mid) = rw low_half at half in
          let o : items ++ mid ∷ tested (nat_le end) m low mid ≡ whole = rw low_half at more in
          rw b (record { upper = omega arith; rest = append_assoc items (mid ∷ []) (tested (nat_le end) m low mid) ∙ o; within = within })
      | inr high_half ↦
          let b : between ≡ (mid + 1, high) = rw high_half at half in
          let o : items ++ mid ∷ tested (nat_le end) m (mid + 1) high ≡ whole = rw high_half at more in
          rw b (record { upper = up; rest = append_assoc items (mid ∷ []) (tested (nat_le end) m (mid + 1) high) ∙ o; within = within })
    ])
