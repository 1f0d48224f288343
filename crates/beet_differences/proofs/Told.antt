-- The difference that is told of two worlds.
use Rattle.std.proofs.Common.{◌≡◌, ◌≢◌, ◌<◌, ◌≤◌, ◌&&◌, ℕ, Bool, true, false, true≢false, not, max, List, length, slice_get}
use Rattle.std.proofs.Common.{◌+◌, Option, Some, None, IfSome, refl, sym, ap, ◌∙◌, arith}
use Rattle.std.specs.Prelude.{if◌then◌else◌}
use Rattle.std.specs.Option.{option_eq}
use Rattle.std.proofs.lemmas.Bool.{and_parts, cond-false, cond-true, false_from_ne_true}
use Rattle.std.proofs.lemmas.Option.{slice_get_past, slice_get_within}
use Rattle.beet_field.specs.declared.point.Point.{Point}
use Rattle.beet_bids.proofs.GridFacts.{find-range_none, find-range_some}
use Rattle.beet_delivery.specs.Events.{same}
use Rattle.beet_delivery.proofs.ThreeServers.{same_is, same_self}
use Rattle.beet_differences.specs.Differences.{ends_between, first_difference, marks_between, other_own, own_between, same_mark}

-- a test that says of two values whether they are the same says it also where there may be none
pub option-own : {A : Type 0} (test : A → A → Bool) → ((x : A) → test x x ≡ true) → (one : Option A) → option_eq test one one ≡ true
option-own test own None = refl
option-own test own (Some x) = own x

pub option-is : {A : Type 0} (test : A → A → Bool) → ((x y : A) → test x y ≡ true → x ≡ y) → (one other : Option A) →
    option_eq test one other ≡ true → one ≡ other
option-is test is None None e = refl
option-is test is None (Some y) e = absurd (true≢false (sym e))
option-is test is (Some x) None e = absurd (true≢false (sym e))
option-is test is (Some x) (Some y) e = ap Some (is x y e)

mark-own : (one : Option (Option Point)) → same_mark one one ≡ true
mark-own one = option-own (option_eq same) (option-own same same_self) one

mark-is : (one other : Option (Option Point)) → same_mark one other ≡ true → one ≡ other
mark-is one other e = option-is (option_eq same) (option-is same same_is) one other e

module _ (first second : List (Option Point)) where
  -- the test of one place for the first difference of the marks
  abbrev differs : ℕ → Bool
  differs n = not (same_mark (slice_get first n) (slice_get second n))

  marks-alike : (n : ℕ) → slice_get first n ≡ slice_get second n → differs n ≡ false
  marks-alike n e = ap (λ m. not (same_mark (slice_get first n) m)) (sym e) ∙ ap not (mark-own (slice_get first n))

  marks-differ : (n : ℕ) → slice_get first n ≢ slice_get second n → differs n ≡ true
  marks-differ n ne =
      ap not (false_from_ne_true (same_mark (slice_get first n) (slice_get second n))
      (λ e. ne (mark-is (slice_get first n) (slice_get second n) e)))

  one-has : (n : ℕ) → slice_get first n ≢ slice_get second n → n < max (length first) (length second)
  one-has n ne =
      below n (max (length first) (length second)) (λ h. ne (
      slice_get_past first n (omega (arith, h)) ∙ sym (slice_get_past second n (omega (arith, h))))) where
        below : (a b : ℕ) → (b ≤ a → ⊥) → a < b
        below a b h = omega (arith, h)

  pub marks-none : second ≡ first → marks_between first second ≡ None
  marks-none e =
      find-range_none differs 0 (max (length first) (length second)) (λ k low high. marks-alike k (ap (λ l. slice_get l k) (sym e)))

  pub marks-some : (n : ℕ) → ((k : ℕ) → k < n → slice_get first k ≡ slice_get second k) → slice_get first n ≢ slice_get second n →
      marks_between first second ≡ Some n
  marks-some n before here =
      let lt : n < max (length first) (length second) = one-has n here in
      find-range_some differs 0 (max (length first) (length second)) n (omega arith) (omega arith)
      (λ k low high. marks-alike k (before k high)) (marks-differ n here)

module _ {A : Type 0} (known : A → Bool) (alike : A → A → Bool) where
  -- at a place where those that are known are alike there is no difference
  quiet : (one other : Option A) → ((x y : A) → one ≡ Some x → other ≡ Some y → known x ≡ true → alike x y ≡ true) →
      other_own known alike one other ≡ false
  quiet None other h = refl
  quiet (Some x) None h = refl
  quiet (Some x) (Some y) h =
      false_from_ne_true (known x && not (alike x y)) (λ e.
      let b = and_parts (known x) (not (alike x y)) e in
      true≢false (sym b.1 ∙ ap not (h x y refl refl b.0)))

  loud : (one other : Option A) (x y : A) → one ≡ Some x → other ≡ Some y → known x ≡ true → alike x y ≡ false →
      other_own known alike one other ≡ true
  loud one other x y e f k d =
      (λ i. other_own known alike (e i) (f i)) ∙ ap (λ b. b && not (alike x y)) k ∙ ap not d

  module _ (first second : List A) where
    -- the test of one place for one that is known and not alike
    abbrev own_differs : ℕ → Bool
    own_differs n = other_own known alike (slice_get first n) (slice_get second n)

    pub own-none : ((n : ℕ) (x y : A) → slice_get first n ≡ Some x → slice_get second n ≡ Some y → known x ≡ true → alike x y ≡ true) →
        own_between known alike first second ≡ None
    own-none h =
        find-range_none own_differs 0 (length first)
        (λ n low high. quiet (slice_get first n) (slice_get second n) (λ x y e f k. h n x y e f k))

    pub own-some : (n : ℕ) (x y : A) → slice_get first n ≡ Some x → slice_get second n ≡ Some y → known x ≡ true → alike x y ≡ false →
        ((k : ℕ) (v w : A) → k < n → slice_get first k ≡ Some v → slice_get second k ≡ Some w → known v ≡ true → alike v w ≡ true) →
        own_between known alike first second ≡ Some n
    own-some n x y e f k d before =
        let lt : n < length first = slice_get_within first n x e in
        find-range_some own_differs 0 (length first) n (omega arith) (omega arith)
        (λ j low high. quiet (slice_get first j) (slice_get second j) (λ v w g i h. before j v w high g i h))
        (loud (slice_get first n) (slice_get second n) x y e f k d)

module _ {E F : Type 0} (alike : E → E → Bool) (told : E → E → F) (one other : E) where
  pub ends-none : alike one other ≡ true → ends_between alike told one other ≡ None
  ends-none e = cond-true (alike one other) None (Some (told one other)) e

  pub ends-some : alike one other ≡ false → ends_between alike told one other ≡ Some (told one other)
  ends-some e = cond-false (alike one other) None (Some (told one other)) e

module _ {F : Type 0} (shape own : ℕ → F) {marks : Option ℕ} (known : Option ℕ) (ends : Option F) where
  pub first-none : marks ≡ None → known ≡ None → ends ≡ None → first_difference shape own marks known ends ≡ None
  first-none m k e = λ i. first_difference shape own (m i) (k i) (e i)

  pub first-shape : (n : ℕ) → marks ≡ Some n → first_difference shape own marks known ends ≡ Some (shape (n + 1))
  first-shape n m = λ i. first_difference shape own (m i) known ends

  pub first-own : (n : ℕ) → marks ≡ None → known ≡ Some n → first_difference shape own marks known ends ≡ Some (own (n + 1))
  first-own n m k = λ i. first_difference shape own (m i) (k i) ends

  pub first-ends : (told : F) → marks ≡ None → known ≡ None → ends ≡ Some told → first_difference shape own marks known ends ≡ Some told
  first-ends told m k e = λ i. first_difference shape own (m i) (k i) (e i)

-- what holds of each difference that there can be holds of the first
pub first-has : {F : Type 0} (shape own : ℕ → F) (holds : F → Type 0) (marks known : Option ℕ) (ends : Option F) →
    ((n : ℕ) → holds (shape n)) → ((n : ℕ) → holds (own n)) → IfSome ends holds →
    IfSome (first_difference shape own marks known ends) holds
first-has shape own holds (Some n) known ends s o e = s (n + 1)
first-has shape own holds None (Some n) ends s o e = o (n + 1)
first-has shape own holds None None ends s o e = e

pub ends-have : {E F : Type 0} (holds : F → Type 0) (alike : E → E → Bool) (told : E → E → F) (one other : E) → holds (told one other) →
    IfSome (ends_between alike told one other) holds
ends-have holds alike told one other h = go (alike one other) where
  go : (same : Bool) → IfSome (if same then None else Some (told one other)) holds
  go true = tt
  go false = h
