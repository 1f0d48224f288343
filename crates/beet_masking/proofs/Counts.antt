-- How the masks count, one after another.
use Rattle.std.proofs.Common.{◌≡◌, ◌≢◌, ℕ, zero, suc, ◌+◌, ◌-◌, ◌<◌, ◌≤◌, inl, inr, Bool, true, false, List, length}
use Rattle.std.proofs.Common.{slice_index, refl, arith, eq-eqb, ne_eqb}
use Rattle.std.specs.Prelude.{nat_le, filter, if◌then◌else◌, ◌==◌}
use Rattle.std.specs.List.{range_with_len}
use Rattle.std.proofs.lemmas.Bool.{cases_eq}
use Rattle.std.proofs.lemmas.Bool.Decides.{nat_tests}
use Rattle.beet_field.specs.Field.{p}
use Rattle.beet_masking.specs.Masks.{is_accepted, is_spent, dealt_for, dealt_until_spent}

-- how many of n masks are all ones, the i-th and on
unfoldable pub all_ones_among : (ℕ → ℕ) → ℕ → ℕ → ℕ
all_ones_among masks i zero = 0
all_ones_among masks i (suc n) = (if masks i == p then 1 else 0) + all_ones_among masks (i + 1) n

-- with so many masks rejected before the i-th one, three or more are rejected among those that c comparisons may meet
abbrev pub spent_from : (ℕ → ℕ) → ℕ → ℕ → ℕ → Bool
spent_from masks i rejected c = nat_le 3 (rejected + all_ones_among masks i (c + 2 - rejected))

-- how many of at most n masks are dealt until c are accepted, the i-th and on
unfoldable pub dealt_until_accepted : (ℕ → ℕ) → ℕ → ℕ → ℕ → ℕ
dealt_until_accepted masks i zero n = 0
dealt_until_accepted masks i (suc c) zero = 0
dealt_until_accepted masks i (suc c) (suc n) =
    if masks i == p then 1 + dealt_until_accepted masks (i + 1) (suc c) n else 1 + dealt_until_accepted masks (i + 1) c n

-- how many of at most n masks are dealt until r are rejected
unfoldable pub dealt_until_rejected : (ℕ → ℕ) → ℕ → ℕ → ℕ → ℕ
dealt_until_rejected masks i zero n = 0
dealt_until_rejected masks i (suc r) zero = 0
dealt_until_rejected masks i (suc r) (suc n) =
    if masks i == p then 1 + dealt_until_rejected masks (i + 1) r n else 1 + dealt_until_rejected masks (i + 1) (suc r) n

-- the places of the rejected and of the accepted masks, the i-th and on
abbrev rejected_from : (ℕ → ℕ) → ℕ → ℕ → List ℕ
rejected_from masks i n = filter (λ k. masks k == p) (range_with_len i n)

abbrev accepted_from : (ℕ → ℕ) → ℕ → ℕ → List ℕ
accepted_from masks i n = filter (λ k. is_accepted (masks k)) (range_with_len i n)

rejected_count : (masks : ℕ → ℕ) (i n : ℕ) → length (rejected_from masks i n) ≡ all_ones_among masks i n
unfolding all_ones_among
rejected_count masks i zero = refl
rejected_count masks i (suc n) = elim (cases_eq (masks i) p) [
  | inl e ↦ rw (eq-eqb (masks i) p e) (omega (arith, rejected_count masks (i + 1) n))
  | inr e ↦ rw (ne_eqb (masks i) p e) (omega (arith, rejected_count masks (i + 1) n))
]

both_count : (masks : ℕ → ℕ) (i n : ℕ) → length (accepted_from masks i n) + all_ones_among masks i n ≡ n
unfolding all_ones_among
both_count masks i zero = refl
both_count masks i (suc n) = elim (cases_eq (masks i) p) [
  | inl e ↦ rw (eq-eqb (masks i) p e) (omega (arith, both_count masks (i + 1) n))
  | inr e ↦ rw (ne_eqb (masks i) p e) (omega (arith, both_count masks (i + 1) n))
]

-- the place of the last of them
accepted_place : (masks : ℕ → ℕ) (i c n : ℕ) → c < length (accepted_from masks i n) →
    i + dealt_until_accepted masks i (suc c) n ≡ slice_index (accepted_from masks i n) c + 1
unfolding dealt_until_accepted
accepted_place masks i c zero h = absurd (omega arith)
accepted_place masks i zero (suc n) h = elim (cases_eq (masks i) p) [
  | inl e ↦
      let t : (masks i == p) ≡ true = eq-eqb (masks i) p e in
      let l : 0 < length (accepted_from masks (i + 1) n) = rw t at h in
      rw t (omega (arith, accepted_place masks (i + 1) 0 n l))
  | inr e ↦
      let t : (masks i == p) ≡ false = ne_eqb (masks i) p e in
      rw t (omega arith)
]
accepted_place masks i (suc c) (suc n) h = elim (cases_eq (masks i) p) [
  | inl e ↦
      let t : (masks i == p) ≡ true = eq-eqb (masks i) p e in
      let l : suc c < length (accepted_from masks (i + 1) n) = rw t at h in
      rw t (omega (arith, accepted_place masks (i + 1) (suc c) n l))
  | inr e ↦
      let t : (masks i == p) ≡ false = ne_eqb (masks i) p e in
      let l : suc c < suc (length (accepted_from masks (i + 1) n)) = rw t at h in
      rw t (omega (arith, accepted_place masks (i + 1) c n (omega (arith, l))))
]

rejected_place : (masks : ℕ → ℕ) (i c n : ℕ) → c < length (rejected_from masks i n) →
    i + dealt_until_rejected masks i (suc c) n ≡ slice_index (rejected_from masks i n) c + 1
unfolding dealt_until_rejected
rejected_place masks i c zero h = absurd (omega arith)
rejected_place masks i zero (suc n) h = elim (cases_eq (masks i) p) [
  | inl e ↦
      let t : (masks i == p) ≡ true = eq-eqb (masks i) p e in
      rw t (omega arith)
  | inr e ↦
      let t : (masks i == p) ≡ false = ne_eqb (masks i) p e in
      let l : 0 < length (rejected_from masks (i + 1) n) = rw t at h in
      rw t (omega (arith, rejected_place masks (i + 1) 0 n l))
]
rejected_place masks i (suc c) (suc n) h = elim (cases_eq (masks i) p) [
  | inl e ↦
      let t : (masks i == p) ≡ true = eq-eqb (masks i) p e in
      let l : suc c < suc (length (rejected_from masks (i + 1) n)) = rw t at h in
      rw t (omega (arith, rejected_place masks (i + 1) c n (omega (arith, l))))
  | inr e ↦
      let t : (masks i == p) ≡ false = ne_eqb (masks i) p e in
      let l : suc c < length (rejected_from masks (i + 1) n) = rw t at h in
      rw t (omega (arith, rejected_place masks (i + 1) (suc c) n l))
]

-- as many masks are dealt at least
dealt_least : (masks : ℕ → ℕ) (i r n : ℕ) → r ≤ all_ones_among masks i n → r ≤ dealt_until_rejected masks i r n
unfolding dealt_until_rejected all_ones_among
dealt_least masks i zero n h = omega arith
dealt_least masks i (suc r) zero h = absurd (omega arith)
dealt_least masks i (suc r) (suc n) h = elim (cases_eq (masks i) p) [
  | inl e ↦
      let t : (masks i == p) ≡ true = eq-eqb (masks i) p e in
      let l : suc r ≤ 1 + all_ones_among masks (i + 1) n = rw t at h in
      rw t (omega (arith, dealt_least masks (i + 1) r n (omega (arith, l))))
  | inr e ↦
      let t : (masks i == p) ≡ false = ne_eqb (masks i) p e in
      let l : suc r ≤ 0 + all_ones_among masks (i + 1) n = rw t at h in
      rw t (omega (arith, dealt_least masks (i + 1) (suc r) n (omega (arith, l))))
]

-- the counts from the first mask on are those of the lists of places
pub spent-start : (masks : ℕ → ℕ) (c : ℕ) → spent_from masks 0 0 c ≡ is_spent masks c
spent-start masks c =
    let e = rejected_count masks 0 (c + 2) in
    let n : c + 2 - 0 ≡ c + 2 = omega arith in
    let z : 0 + all_ones_among masks 0 (c + 2) ≡ all_ones_among masks 0 (c + 2) = omega arith in
    rw (n, z, ← e) refl

pub dealt-spent : (masks : ℕ → ℕ) (c : ℕ) → is_spent masks c ≡ true → dealt_until_rejected masks 0 3 (c + 2) ≡ dealt_until_spent masks c
dealt-spent masks c t =
    let l : 2 < length (rejected_from masks 0 (c + 2)) = grind (arith, nat_tests) in
    omega (arith, rejected_place masks 0 2 (c + 2) l)

pub dealt-three : (masks : ℕ → ℕ) (c : ℕ) → is_spent masks c ≡ true → 3 ≤ dealt_until_rejected masks 0 3 (c + 2)
dealt-three masks c t =
    let l : 2 < length (rejected_from masks 0 (c + 2)) = grind (arith, nat_tests) in
    dealt_least masks 0 3 (c + 2) (omega (arith, l, rejected_count masks 0 (c + 2)))

pub dealt-found : (masks : ℕ → ℕ) (c : ℕ) → is_spent masks c ≡ false → dealt_until_accepted masks 0 c (c + 2) ≡ dealt_for masks c
unfolding dealt_until_accepted
dealt-found masks zero f = refl
dealt-found masks (suc k) f =
    let few : length (rejected_from masks 0 (suc k + 2)) ≤ 2 = grind (arith, nat_tests) in
    let l : k < length (accepted_from masks 0 (suc k + 2)) =
    omega (arith, few, rejected_count masks 0 (suc k + 2), both_count masks 0 (suc k + 2)) in
    omega (arith, accepted_place masks 0 k (suc k + 2) l)

-- what a rejected and what an accepted mask leave of the count
module _ (masks : ℕ → ℕ) (i rej c : ℕ) where
  pub spent-last : masks i ≡ p → rej ≡ 2 → spent_from masks i rej (suc c) ≡ true
  unfolding all_ones_among
  spent-last e f =
      let n : suc c + 2 - rej ≡ suc c = omega arith in
      let t : (masks i == p) ≡ true = eq-eqb (masks i) p e in
      rw (n, t) (grind (arith, nat_tests))

  pub spent-more : masks i ≡ p → rej < 2 → spent_from masks i rej (suc c) ≡ spent_from masks (i + 1) (rej + 1) (suc c)
  unfolding all_ones_among
  spent-more e f =
      let n : suc c + 2 - rej ≡ suc (suc c + 2 - (rej + 1)) = omega arith in
      let t : (masks i == p) ≡ true = eq-eqb (masks i) p e in
      let m : rej + (1 + all_ones_among masks (i + 1) (suc c + 2 - (rej + 1)))
      ≡ rej + 1 + all_ones_among masks (i + 1) (suc c + 2 - (rej + 1)) = omega arith in
      rw (n, t, m) refl

  pub spent-kept : masks i ≢ p → rej < 3 → spent_from masks i rej (suc c) ≡ spent_from masks (i + 1) rej c
  unfolding all_ones_among
  spent-kept e f =
      let n : suc c + 2 - rej ≡ suc (c + 2 - rej) = omega arith in
      let t : (masks i == p) ≡ false = ne_eqb (masks i) p e in
      let m : rej + (0 + all_ones_among masks (i + 1) (c + 2 - rej)) ≡ rej + all_ones_among masks (i + 1) (c + 2 - rej) = omega arith in
      rw (n, t, m) refl

among-le : (masks : ℕ → ℕ) (i n : ℕ) → all_ones_among masks i n ≤ n
unfolding all_ones_among
among-le masks i zero = omega arith
among-le masks i (suc n) = elim (cases_eq (masks i) p) [
  | inl e ↦
      let t : (masks i == p) ≡ true = eq-eqb (masks i) p e in
      rw t (omega (arith, among-le masks (i + 1) n))
  | inr e ↦
      let t : (masks i == p) ≡ false = ne_eqb (masks i) p e in
      rw t (omega (arith, among-le masks (i + 1) n))
]

pub spent-none : (masks : ℕ → ℕ) (i rej : ℕ) → rej < 3 → spent_from masks i rej 0 ≡ false
spent-none masks i rej h =
    let e : 0 + 2 - rej ≡ 2 - rej = omega arith in
    let b = among-le masks i (2 - rej) in
    rw e (grind (arith, nat_tests))
