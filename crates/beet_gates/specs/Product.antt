-- The script that opens the product of two inputs.
use Rattle.std.specs.Prelude.{ℕ, zero, suc, [], ◌∷◌}
use Rattle.beet_gates.specs.declared.Act.{Act}
use Rattle.beet_gates.specs.declared.Act.TheVariants.{Mul, Reveal, End}
use Rattle.beet_gates.specs.declared.Batch.{Batch}

-- the product, its opening, and the end
abbrev pub product_act : ℕ → Act
product_act zero = Mul (record { items = (0, 1) ∷ [] })
product_act (suc zero) = Reveal (record { items = 2 ∷ [] })
product_act (suc (suc n)) = End

-- none of its batches has lets
abbrev pub product_batch : ℕ → Batch
product_batch done = record { lets = record { items = [] }; act = product_act done }
