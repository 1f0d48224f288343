-- What stands at a segment of the wires, and how batches append segments.
use Rattle.std.proofs.Common.{◌≡◌, ℕ, zero, suc, ◌+◌, ◌<◌, ◌≤◌, List, [], ◌∷◌, ◌++◌, map, length, slice_index, refl}
use Rattle.std.proofs.Common.{sym, ◌∙◌, arith, length-append, append_assoc, append-nil, add-one}
use Rattle.std.proofs.lemmas.List.{get_or_append_left, get_or-append-add}
use Rattle.beet_gates.specs.declared.Batch.{Batch}
use Rattle.beet_gates.specs.declared.Linear.{Linear}
use Rattle.beet_gates.specs.Clear.{Values, with_lets, let_of, product_of, batch_on, batches_on}
use Rattle.beet_gates.specs.Each.{each}
use Rattle.beet_gates.proofs.EachFacts.{length-each, each-zero, each-more, item-each, map-each, each-same}

-- the wires from `start` on hold f 0, f 1 and so on, n of them
pub record Holds (wires : List ℕ) (start n : ℕ) (f : ℕ → ℕ) : Type 0 where
  pub room : start + n ≤ length wires
  pub at : (k : ℕ) → k < n → slice_index wires (start + k) ≡ f k

-- appended wires leave what stands
pub index-append : (wires new : List ℕ) (i : ℕ) → i < length wires → slice_index (wires ++ new) i ≡ slice_index wires i
index-append wires new i h = get_or_append_left wires new 0 i h

pub holds-append : (wires new : List ℕ) (start n : ℕ) (f : ℕ → ℕ) → Holds wires start n f → Holds (wires ++ new) start n f
holds-append wires new start n f h = record {
  room = omega (arith, h.room, length-append wires new);
  at = λ k l. index-append wires new (start + k) (omega (arith, h.room)) ∙ h.at k l;
}

-- a new segment
pub holds-new : (wires : List ℕ) (start n : ℕ) (f : ℕ → ℕ) → length wires ≡ start → Holds (wires ++ each f n) start n f
holds-new wires start n f e = record {
  room = omega (arith, length-append wires (each f n), length-each f n);
  at = λ k l. rw (← e) (get_or-append-add wires (each f n) k 0 ∙ item-each f n k l);
}

-- one new wire
pub index-new : (wires : List ℕ) (x start : ℕ) → length wires ≡ start → slice_index (wires ++ x ∷ []) start ≡ x
index-new wires x start e =
    let s : start ≡ length wires + 0 = omega arith in
    rw s (get_or-append-add wires (x ∷ []) 0 0)

pub with_lets-append : (wires : List ℕ) (xs ys : List Linear) → with_lets wires (xs ++ ys) ≡ with_lets (with_lets wires xs) ys
with_lets-append wires [] ys = refl
with_lets-append wires (x ∷ xs) ys = with_lets-append (wires ++ (let_of wires x ∷ [])) xs ys

-- combinations by a rule append the values, where each may use the ones before it
pub with_lets-each : (wires : List ℕ) (rule : ℕ → Linear) (value : ℕ → ℕ) (n : ℕ) →
    ((k : ℕ) → k < n → let_of (wires ++ each value k) (rule k) ≡ value k) →
    with_lets wires (each rule n) ≡ wires ++ each value n
with_lets-each wires rule value zero h = rw (each-zero rule, each-zero value) (sym (append-nil wires))
with_lets-each wires rule value (suc n) h =
    let m : with_lets wires (each rule n) ≡ wires ++ each value n = with_lets-each wires rule value n (λ k l. h k (omega arith)) in
    let e : with_lets wires (each rule (n + 1)) ≡ wires ++ each value (n + 1) =
    rw (each-more rule n, with_lets-append wires (each rule n) (rule n ∷ []), m, h n (omega arith), each-more value n)
    (append_assoc wires (each value n) (value n ∷ [])) in
    rw add-one at e

-- products by a rule
pub products-each : (wires : List ℕ) (pair : ℕ → ℕ × ℕ) (value : ℕ → ℕ) (n : ℕ) →
    ((k : ℕ) → k < n → product_of wires (pair k) ≡ value k) →
    map (product_of wires) (each pair n) ≡ each value n
products-each wires pair value n h = map-each (product_of wires) pair n ∙ each-same (λ k. product_of wires (pair k)) value n h

pub batches_on-append : (deals : ℕ → List ℕ) (xs ys : List Batch) (v : Values) →
    batches_on deals (xs ++ ys) v ≡ batches_on deals ys (batches_on deals xs v)
batches_on-append deals [] ys v = refl
batches_on-append deals (x ∷ xs) ys v = batches_on-append deals xs ys (batch_on deals x v)
