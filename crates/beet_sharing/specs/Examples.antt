-- Two small runs whose numbers are worked by hand.
use Rattle.std.specs.Prelude.{ℕ, zero, suc, ◌+◌, List, [], ◌∷◌, slice_index}
use Rattle.beet_field.specs.declared.point.Point.{Point}
use Rattle.beet_field.specs.declared.trio.Trio.{Trio}
use Rattle.beet_gates.specs.Batches.{deal_batch, end_batch, reveal_batch}
use Rattle.beet_gates.specs.Each.{each}
use Rattle.beet_gates.specs.Linears.{three_terms}
use Rattle.beet_gates.specs.Product.{product_batch}
use Rattle.beet_gates.specs.declared.Batch.{Batch}
use Rattle.beet_sharing.specs.Runs.{Setup, message, shared_at}
use Rattle.beet_field.specs.Trio.{of_each, trio_of}

-- three things
abbrev pub trio : {A : Type 0} → A → A → A → Trio A
trio a b c = record { one = a; two = b; three = c }

-- what a server sends each of the three in a round
abbrev pub sends : Setup → Point → ℕ → Trio (List ℕ)
sends o from t = trio_of (λ to. message o from to t)

-- the product of two inputs, on the points 3 + 5i and 4 + 2i, if the servers draw 1, 2 and 4
abbrev pub product_setup : Setup
product_setup = record {
  next = λ done opened. product_batch done;
  inputs = trio (8 ∷ 6 ∷ []) (13 ∷ 8 ∷ []) (18 ∷ 10 ∷ []);
  masks = trio [] [] [];
  numbers = trio (1 ∷ []) (2 ∷ []) (4 ∷ []);
}

-- the same on points of which the first three are on no line
abbrev pub bent_setup : Setup
bent_setup = record product_setup { inputs = trio (8 ∷ 6 ∷ []) (13 ∷ 8 ∷ []) (19 ∷ 10 ∷ []) }

-- a deal, and the opening of 5 + 2a + 3b + 7c, where a, b and c are the lowest bits of the words of servers 1, 2 and 3
abbrev pub deal_batch_at : ℕ → Batch
deal_batch_at zero = deal_batch
deal_batch_at (suc zero) = reveal_batch (three_terms 5 (2, 0) (3, 61) (7, 122) ∷ []) (183 ∷ [])
deal_batch_at (suc (suc n)) = end_batch

-- the words 5, 2 and 2^60 + 1 are dealt, and for its k-th bit server 1 draws 10 + k, server 2 100 + k and server 3 1000
-- + k
abbrev pub deal_setup : Setup
deal_setup = record {
  next = λ done opened. deal_batch_at done;
  inputs = trio [] [] [];
  masks = trio (5 ∷ []) (2 ∷ []) (1152921504606846977 ∷ []);
  numbers = trio (each (λ k. 10 + k) 61) (each (λ k. 100 + k) 61) (each (λ k. 1000 + k) 61);
}

-- the points of a wire
abbrev pub wire_at : Setup → ℕ → ℕ → Trio ℕ
wire_at o t w = of_each (λ points. slice_index points w) (shared_at o t).wires
