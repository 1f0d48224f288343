-- Words by the places of those that are all ones, and by those that are accepted.
use Rattle.std.proofs.Common.{◌≡◌, ◌≢◌, ℕ, zero, suc, ◌^◌, ◌<◌, Bool, true, false, inl, inr, List, [], ◌∷◌, length}
use Rattle.std.proofs.Common.{slice_index, refl, sym, ap, ◌∙◌, arith, eq-eqb, ne_eqb}
use Rattle.std.specs.Prelude.{All, ◌==◌}
use Rattle.std.proofs.lemmas.Bool.{cases_Bool, cases_eq}
use Rattle.std.proofs.lemmas.List.Elements.{All-head, All-tail}
use Rattle.beet_field.specs.Field.{p}
use Rattle.beet_words.specs.Words.{IsWord, ones, accepted, ones_in}

head-same : (b c : Bool) (bs cs : List Bool) → b ∷ bs ≡ c ∷ cs → b ≡ c
head-same b c bs cs e = cc e

tail-same : (b c : Bool) (bs cs : List Bool) → b ∷ bs ≡ c ∷ cs → bs ≡ cs
tail-same b c bs cs e = cc e

accepted-ones : (w : ℕ) (ws : List ℕ) → (w == ones) ≡ true → accepted (w ∷ ws) ≡ accepted ws
accepted-ones w ws t = rw t refl

accepted-more : (w : ℕ) (ws : List ℕ) → (w == ones) ≡ false → accepted (w ∷ ws) ≡ w ∷ accepted ws
accepted-more w ws t = rw t refl

-- and as many are accepted
pub accepted-length : (xs ys : List ℕ) → ones_in xs ≡ ones_in ys → length (accepted xs) ≡ length (accepted ys)
accepted-length [] [] e = refl
accepted-length [] (y ∷ ys) e = cc e
accepted-length (x ∷ xs) [] e = cc e
accepted-length (x ∷ xs) (y ∷ ys) e =
    let h : (x == ones) ≡ (y == ones) = head-same (x == ones) (y == ones) (ones_in xs) (ones_in ys) e in
    let t = tail-same (x == ones) (y == ones) (ones_in xs) (ones_in ys) e in
    elim (cases_Bool (y == ones)) [
      | inl all ↦ ap length (accepted-ones x xs (h ∙ all)) ∙ accepted-length xs ys t ∙ sym (ap length (accepted-ones y ys all))
      | inr some ↦ ap length (accepted-more x xs (h ∙ some)) ∙ ap suc (accepted-length xs ys t) ∙ sym (ap length (accepted-more y ys some))
    ]

-- an accepted word is a number of the field, and so is the 0 that is read past the end
pub accepted-small : (words : List ℕ) → All IsWord words → (n : ℕ) → slice_index (accepted words) n < p
accepted-small [] all n = omega arith
accepted-small (w ∷ ws) all n =
    let small : w < 2 ^ 61 = All-head IsWord w ws all in
    let rest = accepted-small ws (All-tail IsWord w ws all) in
    elim (cases_eq w ones) [
      | inl e ↦ rw (accepted-ones w ws (eq-eqb w ones e)) (rest n)
      | inr e ↦ rw (accepted-more w ws (ne_eqb w ones e)) (by w (accepted ws) n (omega arith) rest)
    ] where
      by : (w : ℕ) (ws : List ℕ) (n : ℕ) → w < p → ((k : ℕ) → slice_index ws k < p) → slice_index (w ∷ ws) n < p
      by w ws zero h rest = h
      by w ws (suc k) h rest = rest k

-- an accepted word is not all ones
pub accepted-some : (words : List ℕ) (n : ℕ) → n < length (accepted words) → slice_index (accepted words) n ≢ ones
accepted-some [] n h = absurd (omega arith)
accepted-some (w ∷ ws) n h = elim (cases_eq w ones) [
  | inl e ↦
      let a = accepted-ones w ws (eq-eqb w ones e) in
      rw a (accepted-some ws n (omega (arith, ap length a)))
  | inr e ↦
      let a = accepted-more w ws (ne_eqb w ones e) in
      rw a (by w (accepted ws) e (accepted-some ws) n (omega (arith, ap length a)))
] where
  by : (w : ℕ) (ws : List ℕ) → w ≢ ones → ((k : ℕ) → k < length ws → slice_index ws k ≢ ones) → (n : ℕ) →
      n < suc (length ws) → slice_index (w ∷ ws) n ≢ ones
  by w ws e rest zero l = e
  by w ws e rest (suc k) l = rest k (omega arith)
