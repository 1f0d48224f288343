-- The loops that look for what tells two lists apart.
use Rattle.std.proofs.Common.{◌≡◌, ◌≢◌, ◌≤◌, ◌<◌, ◌+◌, ℕ, suc, inl, inr, List, [], ◌∷◌, map, length}
use Rattle.std.proofs.Common.{slice_get, Option, Some, refl, sym, ap, ◌∙◌, arith}
use Rattle.std.specs.Prelude.{option_map}
use Rattle.std.proofs.lemmas.Bool.{cases_lt}
use Rattle.std.proofs.lemmas.List.{length-map}
use Rattle.std.proofs.lemmas.Option.{same_Some, slice_get-map, slice_get_past, slice_get_within, slice_get-get_or}
use Rattle.beet_field.specs.declared.point.Point.{Point}
use Rattle.beet_map.specs.Refused.{DifferFirst}
use Rattle.beet_map.specs.Agreement.{SameKnown, SameKnownBefore}

pub get-map : {A B : Type 0} (f : A → B) (xs : List A) (k : ℕ) (x : A) → slice_get xs k ≡ Some x → slice_get (map f xs) k ≡ Some (f x)
get-map f xs k x e = slice_get-map f xs k ∙ ap (option_map f) e

-- two lists have the same items before this place
abbrev pub SameBefore : {A : Type 0} → List A → List A → ℕ → Type 0
SameBefore xs ys n = (k : ℕ) → k < n → slice_get xs k ≡ slice_get ys k

module _ {A : Type 0} where
  pub all-same : (xs ys : List A) → length ys ≡ length xs → ((k : ℕ) → k < length xs → slice_get xs k ≡ slice_get ys k) → ys ≡ xs
  all-same [] [] e h = refl
  all-same [] (y ∷ ys) e h = absurd (omega arith)
  all-same (x ∷ xs) [] e h = absurd (omega arith)
  all-same (x ∷ xs) (y ∷ ys) e h =
      let one : y ≡ x = sym (same_Some x y (h 0 (omega arith))) in
      let l : length ys ≡ length xs = omega arith in
      let rest = all-same xs ys l (λ k lt. h (suc k) (omega arith)) in
      λ j. one j ∷ rest j

  some-none : (xs ys : List A) (n : ℕ) → n < length xs → length ys ≤ n → slice_get xs n ≢ slice_get ys n
  some-none [] ys n lt le = λ e. absurd (omega arith)
  some-none (x ∷ xs) ys n lt le = λ e. let f = slice_get-get_or (x ∷ xs) n x lt in let g = slice_get_past ys n le in cc (e, f, g)

  -- where one list ends first
  pub ends-first : (xs ys : List A) (n : ℕ) → length xs ≢ length ys → n ≤ length xs → n ≤ length ys →
      (length xs ≤ n → length ys ≤ n → length xs ≡ length ys) →
      (n < length xs → length ys ≤ n) → (n < length ys → length xs ≤ n) → SameBefore xs ys n → DifferFirst xs ys n
  ends-first xs ys n ne a b both c d same = record {
    before = same;
    here = elim (cases_lt n (length xs)) [
      | inl lt ↦ some-none xs ys n lt (c lt)
      | inr le ↦ elim (cases_lt n (length ys)) [
        | inl lt ↦ λ e. some-none ys xs n lt le (sym e)
        | inr le' ↦ absurd (ne (both le le'))
      ]
    ];
  }

-- marks
module _ {A : Type 0} (mark : A → Option Point) (first second : List A) where
  pub marks-more : (i : ℕ) (one other : A) → slice_get first i ≡ Some one → slice_get second i ≡ Some other → mark one ≡ mark other →
      SameBefore (map mark first) (map mark second) i → SameBefore (map mark first) (map mark second) (i + 1)
  marks-more i one other a b e same k lt = elim (cases_lt k i) [
    | inl low ↦ same k low
    | inr high ↦
        let here : k ≡ i = omega arith in
        rw here (get-map mark first i one a ∙ ap Some e ∙ sym (get-map mark second i other b))
  ]

  pub marks-differ : (i : ℕ) (one other : A) → slice_get first i ≡ Some one → slice_get second i ≡ Some other → mark one ≢ mark other →
      SameBefore (map mark first) (map mark second) i → DifferFirst (map mark first) (map mark second) i
  marks-differ i one other a b ne same = record {
    before = same;
    here = λ e. ne (same_Some (mark one) (mark other) (sym (get-map mark first i one a) ∙ e ∙ get-map mark second i other b));
  }

  pub marks-all : (n : ℕ) → length second ≡ length first → length first ≤ n →
      SameBefore (map mark first) (map mark second) n → map mark second ≡ map mark first
  marks-all n e le same =
      let l = length-map first mark in
      let m = length-map second mark in
      all-same (map mark first) (map mark second) (m ∙ e ∙ sym l) (λ k lt. same k (omega (arith, l)))

  pub marks-end : (n : ℕ) → length first ≢ length second → n ≤ length first → n ≤ length second →
      (n < length first → length second ≤ n) → (n < length second → length first ≤ n) →
      SameBefore (map mark first) (map mark second) n → DifferFirst (map mark first) (map mark second) n
  marks-end n ne a b c d same =
      let l = length-map first mark in
      let m = length-map second mark in
      ends-first (map mark first) (map mark second) n (λ e. ne (sym l ∙ e ∙ m)) (omega (arith, l)) (omega (arith, m))
      (λ x y. absurd (ne (omega (arith, l, m, x, y, a, b))))
      (λ lt. let g = c (omega (arith, l, lt)) in omega (arith, m, g)) (λ lt. let g = d (omega (arith, m, lt)) in omega (arith, l, g)) same

  -- the same marks
  pub mark-at : (k : ℕ) (one other : A) → map mark second ≡ map mark first → slice_get first k ≡ Some one →
      slice_get second k ≡ Some other → mark other ≡ mark one
  mark-at k one other same e f =
      same_Some (mark other) (mark one) (sym (get-map mark second k other f) ∙ ap (λ l. slice_get l k) same ∙ get-map mark first k one e)

  pub as-many : map mark second ≡ map mark first → length second ≡ length first
  as-many same = sym (length-map second mark) ∙ ap length same ∙ length-map first mark

-- what is told of those known to a server
module _ {A B : Type 0} (mark : A → Option Point) (told : A → B) (first second : List A) (s : Point) where
  pub known-more : (i : ℕ) (one other : A) → slice_get first i ≡ Some one → slice_get second i ≡ Some other →
      (mark one ≡ Some s → told other ≡ told one) → SameKnownBefore mark told s first second i →
      SameKnownBefore mark told s first second (i + 1)
  known-more i one other a b keep same k x y lt e f known = elim (cases_lt k i) [
    | inl low ↦ same k x y low e f known
    | inr high ↦
        let here : k ≡ i = omega arith in
        let is_x : x ≡ one = same_Some x one (sym e ∙ ap (slice_get first) here ∙ a) in
        let is_y : y ≡ other = same_Some y other (sym f ∙ ap (slice_get second) here ∙ b) in
        ap told is_y ∙ keep (ap mark (sym is_x) ∙ known) ∙ ap told (sym is_x)
  ]

  pub known-all : (n : ℕ) → length first ≤ n → SameKnownBefore mark told s first second n → SameKnown mark told s first second
  known-all n le same k one other e f known = same k one other (let l = slice_get_within first k one e in omega (arith, l)) e f known
