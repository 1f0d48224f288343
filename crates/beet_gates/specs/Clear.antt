-- The run of a script on plain values.
use Rattle.std.specs.Prelude.{◌≡◌, ◌<◌, ℕ, zero, suc, ◌+◌, ◌*◌, ◌%◌, List, [], ◌∷◌, ◌++◌, map, slice_index, Bool, true}
use Rattle.std.specs.Prelude.{false}
use Rattle.std.specs.List.{position_or_len, range_with_len}
use Rattle.beet_field.specs.Field.{p, mul_of}
use Rattle.beet_field.specs.declared.trio.Trio.{Trio}
use Rattle.beet_gates.specs.Deals.{deals_of}
use Rattle.beet_gates.specs.declared.Act.{Act}
use Rattle.beet_gates.specs.declared.Act.TheVariants.{Deal, Mul, Reveal, End}
use Rattle.beet_gates.specs.declared.Batch.{Batch}
use Rattle.beet_gates.specs.declared.Linear.{Linear}

-- the sum of the products of factors and wires
unfoldable pub weighed : List ℕ → List (ℕ × ℕ) → ℕ
weighed wires [] = 0
weighed wires (t ∷ ts) = t.0 * slice_index wires t.1 + weighed wires ts

-- the value of a let
abbrev pub let_of : List ℕ → Linear → ℕ
let_of wires l = (l.constant + weighed wires l.terms) % p

-- the wires with the lets appended in order, each of which may use those before it
abbrev pub with_lets : List ℕ → List Linear → List ℕ
with_lets wires [] = wires
with_lets wires (l ∷ ls) = with_lets (wires ++ let_of wires l ∷ []) ls

-- the product of two wires
abbrev pub product_of : List ℕ → ℕ × ℕ → ℕ
product_of wires pair = mul_of (slice_index wires pair.0) (slice_index wires pair.1)

-- the wires and the opened numbers of a run, and how many words each server dealt
pub record Values : Type 0 where
  pub wires : List ℕ
  pub opened : List ℕ
  pub dealt : ℕ

-- what an act does, if the n-th deal appends the numbers `deals n`
abbrev pub act_on : (ℕ → List ℕ) → Act → Values → Values
act_on deals Deal v = record v { wires = v.wires ++ deals v.dealt; dealt = v.dealt + 1 }
act_on deals (Mul pairs) v = record v { wires = v.wires ++ map (product_of v.wires) pairs.items }
act_on deals (Reveal shown) v = record v { opened = v.opened ++ map (slice_index v.wires) shown.items }
act_on deals End v = v

-- what a batch does: its lets, and then its act
abbrev pub batch_on : (ℕ → List ℕ) → Batch → Values → Values
batch_on deals b v = act_on deals b.act (record v { wires = with_lets v.wires b.lets.items })

-- the values after a list of batches
abbrev pub batches_on : (ℕ → List ℕ) → List Batch → Values → Values
batches_on deals [] v = v
batches_on deals (b ∷ bs) v = batches_on deals bs (batch_on deals b v)

-- whether an act is the end
abbrev pub is_end : Act → Bool
is_end Deal = false
is_end (Mul pairs) = false
is_end (Reveal shown) = false
is_end End = true

abbrev pub start_values : List ℕ → Values
start_values inputs = record { wires = inputs; opened = []; dealt = 0 }

-- the values after t batches; it is meant for batches before the end, and for the end, whose lets are appended too
abbrev pub clear_at : (ℕ → List ℕ → Batch) → (ℕ → List ℕ) → List ℕ → ℕ → Values
clear_at next deals inputs zero = start_values inputs
clear_at next deals inputs (suc t) =
    let v = clear_at next deals inputs t in
    batch_on deals (next t v.opened) v

-- the act of the batch that comes after t batches
abbrev pub clear_act : (ℕ → List ℕ → Batch) → (ℕ → List ℕ) → List ℕ → ℕ → Act
clear_act next deals inputs t = (next t (clear_at next deals inputs t).opened).act

-- the end comes after r batches, and not before
abbrev pub EndsAfter : (ℕ → List ℕ → Batch) → (ℕ → List ℕ) → List ℕ → ℕ → Type 0
EndsAfter next deals inputs r =
    (is_end (clear_act next deals inputs r) ≡ true) × ((k : ℕ) → k < r → is_end (clear_act next deals inputs k) ≡ false)

-- of acts, the place of the first that is the end, among so many; their number if none is
abbrev pub first_end : (ℕ → Act) → ℕ → ℕ
first_end acts most = position_or_len (λ t. is_end (acts t)) (range_with_len 0 most)

-- the rounds of the run of a script of at most so many, on inputs and deals: the batches before the first end
unfoldable pub rounds_dealt : (ℕ → List ℕ → Batch) → ℕ → List ℕ → (ℕ → List ℕ) → ℕ
rounds_dealt next most inputs deals = first_end (clear_act next deals inputs) most

-- the values at its end; the lets of the end are appended too
abbrev pub values_dealt : (ℕ → List ℕ → Batch) → ℕ → List ℕ → (ℕ → List ℕ) → Values
values_dealt next most inputs deals = clear_at next deals inputs (suc (rounds_dealt next most inputs deals))

-- the same if three servers deal words
abbrev pub rounds_run : (ℕ → List ℕ → Batch) → ℕ → List ℕ → Trio (List ℕ) → ℕ
rounds_run next most inputs words = rounds_dealt next most inputs (deals_of words)

abbrev pub clear_values : (ℕ → List ℕ → Batch) → ℕ → List ℕ → Trio (List ℕ) → Values
clear_values next most inputs words = values_dealt next most inputs (deals_of words)
