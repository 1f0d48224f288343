-- The scripts for tests.
use Rattle.std.specs.Prelude.{ℕ, List, [], ◌∷◌, get_or}
use Rattle.std.specs.List.{range_with_len}
use Rattle.beet_field.specs.declared.TheConstants.{MOST_NUMBERS}
use Rattle.beet_gates.specs.Batches.{deal_batch, end_batch, mul_batch, reveal_batch}
use Rattle.beet_gates.specs.declared.Batch.{Batch}
use Rattle.beet_samples.specs.declared.Sample.{Sample}
use Rattle.beet_samples.specs.declared.Sample.TheVariants.{Product, SecondBits, Inputs}
use Rattle.beet_samples.specs.declared.Sizes.{Sizes}

abbrev pub needs : Sample → Sizes
needs Product = record { inputs = 2; rounds = 2; masks = 0; secrets = 1; wires = 3 }
needs SecondBits = record { inputs = 0; rounds = 2; masks = 1; secrets = 61; wires = 183 }
needs Inputs = record { inputs = MOST_NUMBERS; rounds = 1; masks = 0; secrets = 0; wires = MOST_NUMBERS }

abbrev pub inputs_of : Sample → ℕ
inputs_of s = (needs s).inputs

-- the batches before the end
abbrev pub batches : Sample → List Batch
batches Product = mul_batch [] ((0, 1) ∷ []) ∷ reveal_batch [] (2 ∷ []) ∷ []
batches SecondBits = deal_batch ∷ reveal_batch [] (1 ∷ 62 ∷ 123 ∷ []) ∷ []
batches Inputs = reveal_batch [] (range_with_len 0 MOST_NUMBERS) ∷ []

abbrev pub batch_of : Sample → ℕ → List ℕ → Batch
batch_of s done _ = get_or (batches s) done end_batch
