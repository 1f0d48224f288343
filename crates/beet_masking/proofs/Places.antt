-- What comes next as masks are dealt, one after another.
use Rattle.std.proofs.Common.{◌≡◌, ◌≢◌, ℕ, zero, suc, ◌+◌, ◌<◌, Bool, true, false, inl, inr, List, [], ◌∷◌, ◌++◌}
use Rattle.std.proofs.Common.{length, slice_get, Some, None, refl, sym, ap, ◌∙◌, arith, eq-eqb, ne_eqb, add-zero}
use Rattle.std.proofs.Common.{zero-add, length-append}
use Rattle.std.specs.Prelude.{if◌then◌else◌, ◌==◌, filter, nat_le}
use Rattle.std.specs.List.{range_with_len}
use Rattle.std.proofs.lemmas.Bool.{cases_lt, cases_Bool}
use Rattle.std.proofs.lemmas.Bool.Decides.{nat_tests}
use Rattle.std.proofs.lemmas.List.Elements.{filter-append}
use Rattle.beet_field.specs.Field.{p}
use Rattle.beet_gates.proofs.EachFacts.{get-past}
use Rattle.beet_masking.specs.declared.TheConstants.{SPARE_MASKS}
use Rattle.beet_masking.specs.Masks.{is_accepted, rejected_among, accepted_among}
use Rattle.beet_masking.specs.Compared.{item_compared}

range-more : (a n : ℕ) → range_with_len a (suc n) ≡ range_with_len a n ++ (a + n) ∷ []
range-more a zero = ap (λ k. k ∷ []) (sym (add-zero a))
range-more a (suc n) =
    let e : a + 1 + n ≡ a + suc n = omega arith in
    ap (λ l. a ∷ l) (range-more (a + 1) n ∙ ap (λ k. range_with_len (a + 1) n ++ k ∷ []) e)

-- how many of the first n pass a test, with one number more
pub passing-more : (f : ℕ → Bool) (n : ℕ) →
    length (filter f (range_with_len 0 (suc n))) ≡ length (filter f (range_with_len 0 n)) + (if f n then 1 else 0)
passing-more f n =
    let e : 0 + n ≡ n = zero-add n in
    ap (λ l. length (filter f l)) (range-more 0 n ∙ ap (λ k. range_with_len 0 n ++ k ∷ []) e)
    ∙ ap length (filter-append f (range_with_len 0 n) (n ∷ [])) ∙ length-append (filter f (range_with_len 0 n)) (filter f (n ∷ []))
    ∙ ap (λ k. length (filter f (range_with_len 0 n)) + k) (by (f n) refl) where
      by : (b : Bool) → f n ≡ b → length (filter f (n ∷ [])) ≡ (if f n then 1 else 0)
      by true t = rw t refl
      by false t = rw t refl

-- so many masks were rejected among the first i, and the places to come are these
pub record Along {A : Type 0} (masks : ℕ → ℕ) (places : List A) (i rejected : ℕ) (rest : List A) : Type 0 where
  pub count : length (rejected_among masks i) ≡ rejected
  pub coming : (k : ℕ) → slice_get places (length (accepted_among masks i) + k) ≡ slice_get rest k

module _ {A : Type 0} (masks : ℕ → ℕ) (places : List A) where
  pub along-start : Along masks places 0 0 places
  along-start = record { count = refl; coming = λ k. ap (slice_get places) (zero-add k) }

  pub along-rejected : (i rejected : ℕ) (rest : List A) → masks i ≡ p → Along masks places i rejected rest →
      Along masks places (i + 1) (rejected + 1) rest
  along-rejected i rejected rest all a =
      let s : i + 1 ≡ suc i = omega arith in
      let t : (masks i == p) ≡ true = eq-eqb (masks i) p all in
      let more : length (rejected_among masks (suc i)) ≡ length (rejected_among masks i) + 1 =
      passing-more (λ k. masks k == p) i ∙ ap (λ b. length (rejected_among masks i) + (if b then 1 else 0)) t in
      let same : length (accepted_among masks (suc i)) ≡ length (accepted_among masks i) + 0 =
      passing-more (λ k. is_accepted (masks k)) i
      ∙ ap (λ b. length (accepted_among masks i) + (if (if b then false else true) then 1 else 0)) t in
      rw s (record {
        count = more ∙ ap (λ n. n + 1) a.count;
        coming = λ k. ap (λ n. slice_get places (n + k)) (same ∙ add-zero (length (accepted_among masks i))) ∙ a.coming k;
      })

  pub along-accepted : (i rejected : ℕ) (place : A) (rest : List A) → masks i ≢ p →
      Along masks places i rejected (place ∷ rest) → Along masks places (i + 1) rejected rest
  along-accepted i rejected place rest some a =
      let s : i + 1 ≡ suc i = omega arith in
      let t : (masks i == p) ≡ false = ne_eqb (masks i) p some in
      let same : length (rejected_among masks (suc i)) ≡ length (rejected_among masks i) + 0 =
      passing-more (λ k. masks k == p) i ∙ ap (λ b. length (rejected_among masks i) + (if b then 1 else 0)) t in
      let more : length (accepted_among masks (suc i)) ≡ length (accepted_among masks i) + 1 =
      passing-more (λ k. is_accepted (masks k)) i
      ∙ ap (λ b. length (accepted_among masks i) + (if (if b then false else true) then 1 else 0)) t in
      rw s (record {
        count = same ∙ add-zero (length (rejected_among masks i)) ∙ a.count;
        coming = λ k. let e : length (accepted_among masks (suc i)) + k ≡ length (accepted_among masks i) + suc k =
            omega (arith, more) in ap (slice_get places) e ∙ a.coming (suc k);
      })

  -- an accepted mask is compared at the place that comes
  pub along-compared : (i rejected : ℕ) (place : A) (rest : List A) → masks i ≢ p → rejected < 3 →
      Along masks places i rejected (place ∷ rest) →
      item_compared places masks i ≡ Some place
  along-compared i rejected place rest some few a =
      let t : (masks i == p) ≡ false = ne_eqb (masks i) p some in
      let l : nat_le (length (rejected_among masks i)) SPARE_MASKS ≡ true = grind (arith, nat_tests, a.count) in
      rw (t, l) (ap (slice_get places) (sym (add-zero (length (accepted_among masks i)))) ∙ a.coming 0)

  pub both-counts : (i : ℕ) → length (accepted_among masks i) + length (rejected_among masks i) ≡ i
  both-counts zero = refl
  both-counts (suc i) = elim (cases_Bool (masks i == p)) [
    | inl t ↦
        let more : length (rejected_among masks (suc i)) ≡ length (rejected_among masks i) + 1 =
        passing-more (λ k. masks k == p) i ∙ ap (λ b. length (rejected_among masks i) + (if b then 1 else 0)) t in
        let same : length (accepted_among masks (suc i)) ≡ length (accepted_among masks i) + 0 =
        passing-more (λ k. is_accepted (masks k)) i
        ∙ ap (λ b. length (accepted_among masks i) + (if (if b then false else true) then 1 else 0)) t in
        omega (arith, both-counts i, more, same)
    | inr t ↦
        let same : length (rejected_among masks (suc i)) ≡ length (rejected_among masks i) + 0 =
        passing-more (λ k. masks k == p) i ∙ ap (λ b. length (rejected_among masks i) + (if b then 1 else 0)) t in
        let more : length (accepted_among masks (suc i)) ≡ length (accepted_among masks i) + 1 =
        passing-more (λ k. is_accepted (masks k)) i
        ∙ ap (λ b. length (accepted_among masks i) + (if (if b then false else true) then 1 else 0)) t in
        omega (arith, both-counts i, more, same)
  ]

  -- a mask that is compared is accepted, and among as many as there are places and two more
  pub compared-accepted : (i : ℕ) (place : A) → item_compared places masks i ≡ Some place → masks i ≢ p
  compared-accepted i place e all = let t : (masks i == p) ≡ true = eq-eqb (masks i) p all in
      let n : item_compared places masks i ≡ None = rw t refl in cc (e, n)

  pub compared-early : (i : ℕ) (place : A) → item_compared places masks i ≡ Some place → i < length places + 2
  compared-early i place e = elim (cases_lt i (length places + 2)) [
    | inl lt ↦ lt
    | inr past ↦
        let t : (masks i == p) ≡ false = ne_eqb (masks i) p (compared-accepted i place e) in
        elim (cases_lt (length (rejected_among masks i)) 3) [
          | inr many ↦
              let l : nat_le (length (rejected_among masks i)) SPARE_MASKS ≡ false = grind (arith, nat_tests) in
              let n : item_compared places masks i ≡ None = rw (t, l) refl in
              absurd (let c : None ≡ Some place = sym n ∙ e in cc c)
          | inl few ↦
              let l : nat_le (length (rejected_among masks i)) SPARE_MASKS ≡ true = grind (arith, nat_tests) in
              let n : item_compared places masks i ≡ None =
              rw (t, l) (get-past places (length (accepted_among masks i)) (omega (arith, both-counts i))) in
              absurd (let c : None ≡ Some place = sym n ∙ e in cc c)
        ]
  ]

-- an item that is compared stands in the list
pub some-place : {A : Type 0} (items : List A) (masks : ℕ → ℕ) (i : ℕ) (item : A) →
    item_compared items masks i ≡ Some item → (k : ℕ) × (slice_get items k ≡ Some item)
some-place items masks i item e = elim (cases_Bool (is_accepted (masks i))) [
  | inr f ↦ let n : item_compared items masks i ≡ None = rw f refl in absurd (cc (n, e))
  | inl t ↦ elim (cases_Bool (nat_le (length (rejected_among masks i)) 2)) [
    | inr f ↦ let n : item_compared items masks i ≡ None = rw (t, f) refl in absurd (cc (n, e))
    | inl l ↦
        let n : item_compared items masks i ≡ slice_get items (length (accepted_among masks i)) = rw (t, l) refl in
        (length (accepted_among masks i), sym n ∙ e)
  ]
]
