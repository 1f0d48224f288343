-- Batches, written short.
use Rattle.std.specs.Prelude.{ℕ, List, []}
use Rattle.beet_gates.specs.declared.Act.TheVariants.{Deal, Mul, Reveal, End}
use Rattle.beet_gates.specs.declared.Batch.{Batch}
use Rattle.beet_gates.specs.declared.Linear.{Linear}

-- each server deals a word
abbrev pub deal_batch : Batch
deal_batch = record { lets = record { items = [] }; act = Deal }

-- lets, and the products of pairs
abbrev pub mul_batch : List Linear → List (ℕ × ℕ) → Batch
mul_batch lets pairs = record { lets = record { items = lets }; act = Mul (record { items = pairs }) }

-- lets, and wires that are opened
abbrev pub reveal_batch : List Linear → List ℕ → Batch
reveal_batch lets shown = record { lets = record { items = lets }; act = Reveal (record { items = shown }) }

-- the end, with no lets
abbrev pub end_batch : Batch
end_batch = record { lets = record { items = [] }; act = End }
