-- The items of a list as wires of a run.
use Rattle.std.proofs.Common.{◌≡◌, ℕ, ◌+◌, ◌-◌, ◌*◌, ◌/◌, ◌<◌, List, ◌++◌, ◌∙◌, length, slice_index, refl, inl, inr}
use Rattle.std.proofs.Common.{true, false, arith, length-append, one-mul}
use Rattle.std.specs.Prelude.{nat_lt, if◌then◌else◌}
use Rattle.std.proofs.lemmas.Bool.{cases_Bool, cases_lt}
use Rattle.std.proofs.lemmas.Bool.Decides.{nat_tests}
use Rattle.beet_gates.specs.Each.{each}
use Rattle.beet_gates.specs.declared.levels.LevelItems.{LevelItems}
use Rattle.beet_gates.specs.Levels.{next_length, next_item, wire_of}
use Rattle.beet_gates.proofs.EachFacts.{each-same}
use Rattle.beet_gates.proofs.Segments.{index-append}

-- the items of a list stand at these wires, with these values
pub record Listed (wires : List ℕ) (n : ℕ) (item value : ℕ → ℕ) : Type 0 where
  pub below : (k : ℕ) → k < n → item k < length wires
  pub at : (k : ℕ) → k < n → slice_index wires (item k) ≡ value k

-- rules that agree on the items of the first pairs
pub pairs-same : {A B : Type 0} (op : A → A → B) (f g : ℕ → A) → (n : ℕ) → ((k : ℕ) → k < 2 * n → f k ≡ g k) →
    each (λ i. op (f (2 * i)) (f (2 * i + 1))) n ≡ each (λ i. op (g (2 * i)) (g (2 * i + 1))) n
pairs-same op f g n same =
    each-same (λ i. op (f (2 * i)) (f (2 * i + 1))) (λ i. op (g (2 * i)) (g (2 * i + 1))) n
    (λ i l. rw (same (2 * i) (omega (arith, l)), same (2 * i + 1) (omega (arith, l))) refl)

-- a result in the next list
pub next_item-result : {A : Type 0} (n k : ℕ) (item result : ℕ → A) → k < n / 2 → next_item n item result k ≡ result k
next_item-result n k item result h = let t : nat_lt k (n / 2) ≡ true = grind (arith, nat_tests) in rw t refl

-- what is taken of the items of the next list
pub next_item-of : {A B : Type 0} (f : A → B) (n k : ℕ) (item result : ℕ → A) →
    f (next_item n item result k) ≡ next_item n (λ i. f (item i)) (λ i. f (result i)) k
next_item-of f n k item result = elim (cases_Bool (nat_lt k (n / 2))) [ inl t ↦ rw t refl | inr t ↦ rw t refl ]

-- what the items of a list and its results have, those of the next list have
pub next_item-has : {A : Type 0} (P : A → Type 0) (n : ℕ) (item place : ℕ → A) → ((k : ℕ) → k < n → P (item k)) →
    ((k : ℕ) → k < n / 2 → P (place k)) →
    (k : ℕ) → k < next_length n → P (next_item n item place k)
next_item-has P n item place h r k l = elim (cases_lt k (n / 2)) [
  | inl e ↦ rw (next_item-result n k item place e) (r k e)
  | inr e ↦ let t : nat_lt k (n / 2) ≡ false = grind (arith, nat_tests) in rw t (h (n - 1) (omega (arith, l, e)))
]

-- appended wires leave them
pub listed-append : (wires more : List ℕ) (n : ℕ) (item value : ℕ → ℕ) → Listed wires n item value → Listed (wires ++ more) n item value
listed-append wires more n item value h = record {
  below = λ k l. omega (arith, h.below k l, length-append wires more);
  at = λ k l. index-append wires more (item k) (h.below k l) ∙ h.at k l;
}

-- the next list: the results, and an odd last item
pub listed-next : (wires : List ℕ) (n : ℕ) (item value place result : ℕ → ℕ) → Listed wires n item value →
    Listed wires (n / 2) place result →
    Listed wires (next_length n) (next_item n item place) (next_item n value result)
listed-next wires n item value place result h r = record {
  below = next_item-has (λ (x : ℕ). x < length wires) n item place h.below r.below;
  at = λ k l. elim (cases_lt k (n / 2)) [
    | inl e ↦ rw (next_item-result n k item place e, next_item-result n k value result e) (r.at k e)
    | inr e ↦ let t : nat_lt k (n / 2) ≡ false = grind (arith, nat_tests) in rw t (h.at (n - 1) (omega (arith, l, e)))
  ];
}

-- with the values told otherwise
pub listed-as : (wires : List ℕ) (n : ℕ) (item value told : ℕ → ℕ) → Listed wires n item value →
    ((k : ℕ) → k < n → value k ≡ told k) → Listed wires n item told
listed-as wires n item value told h same = record { below = h.below; at = λ k l. h.at k l ∙ same k l }

-- the items of a list whose results stand one after another
pub wire_of-plain : (start results carried k : ℕ) →
    wire_of (record { start = start; step = 1; results = results; carried = carried }) k ≡ (if nat_lt k results then start + k else carried)
wire_of-plain start results carried k = rw one-mul refl

-- the wires of a next list, where they are told as items: the results, and all where the carried one is the last of the list before
pub results-told : (n : ℕ) (items : LevelItems) (item place : ℕ → ℕ) → items.results ≡ n / 2 →
    ((k : ℕ) → k < n / 2 → items.start + items.step * k ≡ place k) →
    (k : ℕ) → k < n / 2 → wire_of items k ≡ next_item n item place k
results-told n items item place e same k l =
    let t : nat_lt k (n / 2) ≡ true = grind (arith, nat_tests) in
    rw (next_item-result n k item place l, e, t) (same k l)

pub items-told : (n : ℕ) (items : LevelItems) (item place : ℕ → ℕ) → items.results ≡ n / 2 →
    ((k : ℕ) → k < n / 2 → items.start + items.step * k ≡ place k) →
    items.carried ≡ item (n - 1) → (k : ℕ) → wire_of items k ≡ next_item n item place k
items-told n items item place e same last k = elim (cases_lt k (n / 2)) [
  | inl l ↦ results-told n items item place e same k l
  | inr l ↦ let t : nat_lt k (n / 2) ≡ false = grind (arith, nat_tests) in rw (e, t) last
]
