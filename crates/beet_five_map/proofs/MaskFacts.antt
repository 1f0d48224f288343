-- Mapped mask words of five servers: each mask that is compared is turned, and the same are all ones.
use Rattle.std.proofs.Common.{◌≡◌, ◌≢◌, ◌<◌, ◌≤◌, ◌-◌, ◌⊎◌, ⊎_elim, eq-eqb, ne_eqb, true, ℕ, zero, suc, inl, inr, List, [], ◌∷◌}
use Rattle.std.proofs.Common.{length, slice_index, slice_index_or, Option, Some, None, refl, sym, ap, ◌∙◌, arith}
use Rattle.std.specs.Prelude.{◌==◌}
use Rattle.std.proofs.lemmas.Bool.{cases_eq, cases_lt}
use Rattle.std.proofs.lemmas.Bool.Decides.{nat_tests}
use Rattle.std.proofs.lemmas.List.{get_or_past, length-map}
use Rattle.beet_words.specs.Words.{ones}
use Rattle.beet_mask.specs.Mask.{xor_of}
use Rattle.beet_masking.specs.Masks.{mask_among, words_at}
use Rattle.beet_turned.specs.MappedMasks.{mask_mapped, word_mapped}
use Rattle.beet_turned.specs.Turn.{turned}
use Rattle.beet_turned.proofs.Turned.{turned-ones}
use Rattle.beet_linear_sharing.specs.Schemes.{five_servers}
use Rattle.beet_linear_sharing.specs.Sharings.{IsAmong}
use Rattle.beet_coalition.specs.Lists.{at_server, with_item}
use Rattle.beet_coalition.specs.Watchers.{two_watch}
use Rattle.beet_coalition.proofs.Alternating.{word-put}
use Rattle.beet_five_map.specs.FiveMasks.{MasksMapped, MasksMappedFor, loss_among, lowest_other}

-- the word of a server at a deal
word-of : (words : List (List ℕ)) (i k : ℕ) → slice_index (words_at words i) k ≡ slice_index (slice_index_or words k []) i
word-of [] i k = refl
word-of (w ∷ ws) i zero = refl
word-of (w ∷ ws) i (suc k) = word-of ws i k

same-words : (words words' : List (List ℕ)) (i : ℕ) → length words' ≡ length words →
    ((k : ℕ) → slice_index_or words' k [] ≡ slice_index_or words k []) → words_at words' i ≡ words_at words i
same-words [] [] i count same = refl
same-words [] (w' ∷ ws') i count same = absurd (omega arith)
same-words (w ∷ ws) [] i count same = absurd (omega arith)
same-words (w ∷ ws) (w' ∷ ws') i count same =
    let here : w' ≡ w = same 0 in
    let rest = same-words ws ws' i (omega arith) (λ k. same (suc k)) in λ x. slice_index (here x) i ∷ rest x

-- if all lists but one are the same, the words of a deal are those with one put in
put-in : (words words' : List (List ℕ)) (l i : ℕ) → length words' ≡ length words →
    ((k : ℕ) → k ≢ l → slice_index_or words' k [] ≡ slice_index_or words k []) →
    words_at words' i ≡ with_item (words_at words i) l (slice_index (slice_index_or words' l []) i)
put-in [] [] l i count others = refl
put-in [] (w' ∷ ws') l i count others = absurd (omega arith)
put-in (w ∷ ws) [] l i count others = absurd (omega arith)
put-in (w ∷ ws) (w' ∷ ws') zero i count others =
    let rest = same-words ws ws' i (omega arith) (λ k. others (suc k) (λ e. absurd (omega (arith, e)))) in
    λ x. slice_index w' i ∷ rest x
put-in (w ∷ ws) (w' ∷ ws') (suc l) i count others =
    let here : w' ≡ w = others 0 (λ e. absurd (omega (arith, e))) in
    let rest = put-in ws ws' l i (omega arith) (λ k ne. others (suc k) (λ e. ne (omega (arith, e)))) in
    λ x. slice_index (here x) i ∷ rest x

put-same : (ws : List ℕ) (l : ℕ) → with_item ws l (slice_index ws l) ≡ ws
put-same [] l = refl
put-same (w ∷ ws) zero = refl
put-same (w ∷ ws) (suc l) = ap (λ xs. w ∷ xs) (put-same ws l)

put-mapped : (ws : List ℕ) (l : ℕ) (loss : Option ℕ) → l < length ws →
    xor_of (with_item ws l (word_mapped (xor_of ws) (slice_index ws l) loss)) ≡ mask_mapped (xor_of ws) loss
put-mapped ws l None h = ap xor_of (put-same ws l)
put-mapped ws l (Some d) h = word-put ws l (turned (xor_of ws) d) h

mapped-ones : (mask : ℕ) (loss : Option ℕ) → (mask_mapped mask loss == ones) ≡ (mask == ones)
mapped-ones mask None = refl
mapped-ones mask (Some d) = turned-ones mask d

module _ (l : ℕ) (losses : List ℕ) (words words' : List (List ℕ)) (m : MasksMapped l losses words words')
    (within : l < length words) where
  pub mask-turned : (i : ℕ) → i < length (slice_index_or words l []) →
      mask_among words' i ≡ mask_mapped (mask_among words i) (loss_among losses words i)
  mask-turned i lt =
      let ws : List ℕ = words_at words i in
      let there : l < length ws = omega (arith, within, length-map words (λ (list : List ℕ). slice_index list i)) in
      ap xor_of (put-in words words' l i m.count m.others)
      ∙ ap (λ y. xor_of (with_item ws l y))
      (m.turns i lt ∙ ap (λ w. word_mapped (mask_among words i) w (loss_among losses words i)) (sym (word-of words i l)))
      ∙ put-mapped ws l (loss_among losses words i) there

  -- past the end of the lists both are 0
  mask-past : (i : ℕ) → length (slice_index_or words l []) ≤ i → mask_among words' i ≡ mask_among words i
  mask-past i past =
      let mine : List ℕ = slice_index_or words l [] in
      let other : List ℕ = slice_index_or words' l [] in
      let none : slice_index other i ≡ slice_index mine i =
      get_or_past other i 0 (omega (arith, m.as_long)) ∙ sym (get_or_past mine i 0 past) in
      ap xor_of (put-in words words' l i m.count m.others)
      ∙ ap (λ y. xor_of (with_item (words_at words i) l y)) (none ∙ sym (word-of words i l))
      ∙ ap xor_of (put-same (words_at words i) l)

  pub all-ones : (i : ℕ) → (mask_among words' i == ones) ≡ (mask_among words i == ones)
  all-ones i = elim (cases_lt i (length (slice_index_or words l []))) [
    | inl lt ↦ ap (λ x. x == ones) (mask-turned i lt) ∙ mapped-ones (mask_among words i) (loss_among losses words i)
    | inr past ↦ ap (λ x. x == ones) (mask-past i past)
  ]

-- the lowest other server is a server, and neither of the two
other-a : (a b : ℕ) → a < b → lowest_other a b ≢ a
other-a a b less = elim (cases_eq a 1) [
  | inl one ↦ elim (cases_eq b 2) [
    | inl two ↦ rw (eq-eqb a 1 one, eq-eqb b 2 two) (λ e. absurd (omega (arith, e, one)))
    | inr more ↦ rw (eq-eqb a 1 one, ne_eqb b 2 more) (λ e. absurd (omega (arith, e, one)))
  ]
  | inr some ↦ rw (ne_eqb a 1 some) (λ e. absurd (some (sym e)))
]

other-b : (a b : ℕ) → 1 ≤ a → a < b → lowest_other a b ≢ b
other-b a b some less = elim (cases_eq a 1) [
  | inl one ↦ elim (cases_eq b 2) [
    | inl two ↦ rw (eq-eqb a 1 one, eq-eqb b 2 two) (λ e. absurd (omega (arith, e, two)))
    | inr more ↦ rw (eq-eqb a 1 one, ne_eqb b 2 more) (λ e. absurd (more (sym e)))
  ]
  | inr other ↦ rw (ne_eqb a 1 other) (λ e. absurd (omega (arith, e, some, less)))
]

pub other-some : (a b : ℕ) → (1 ≤ lowest_other a b) × (lowest_other a b ≤ 3)
other-some a b = elim (cases_eq a 1) [
  | inl one ↦ elim (cases_eq b 2) [
    | inl two ↦ rw (eq-eqb a 1 one, eq-eqb b 2 two) (omega arith, omega arith)
    | inr more ↦ rw (eq-eqb a 1 one, ne_eqb b 2 more) (omega arith, omega arith)
  ]
  | inr other ↦ rw (ne_eqb a 1 other) (omega arith, omega arith)
]

server-some : (i : ℕ) → IsAmong five_servers.servers i → 1 ≤ i
server-some i (inl e) = omega arith
server-some i (inr (inl e)) = omega arith
server-some i (inr (inr (inl e))) = omega arith
server-some i (inr (inr (inr (inl e)))) = omega arith
server-some i (inr (inr (inr (inr (inl e))))) = omega arith
server-some i (inr (inr (inr (inr (inr e))))) = absurd e

pub watched : (a b i : ℕ) → (two_watch a b).watches i ≡ true → (i ≡ a) ⊎ (i ≡ b)
watched a b i mine = elim (cases_eq i a) [
  | inl e ↦ inl e
  | inr other ↦ inr (let e : (i == b) ≡ true = rw (ne_eqb i a other) at mine in grind (arith, nat_tests))
]

module _ (a b : ℕ) (some : 1 ≤ a) (less : a < b) (losses : List ℕ) (words words' : List (List ℕ))
    (m : MasksMappedFor a b losses words words') where
  -- the servers that watch have the same words
  pub own-same : (i : ℕ) → IsAmong five_servers.servers i → (two_watch a b).watches i ≡ true → at_server words' i ≡ at_server words i
  own-same i at mine =
      let low = server-some i at in
      let few = other-some a b in
      let apart : i ≢ lowest_other a b = ⊎_elim
      (λ (e : i ≡ a). λ (k : i ≡ lowest_other a b). other-a a b less (sym k ∙ e))
      (λ (e : i ≡ b). λ (k : i ≡ lowest_other a b). other-b a b some less (sym k ∙ e))
      (watched a b i mine) in
      m.others (i - 1) (λ e. apart (omega (arith, e, low, few)))

  -- and each server has as many
  pub as-long : (i : ℕ) → length (at_server words' i) ≡ length (at_server words i)
  as-long i = elim (cases_eq (i - 1) (lowest_other a b - 1)) [
    | inl e ↦ rw e m.as_long
    | inr away ↦ ap length (m.others (i - 1) away)
  ]
