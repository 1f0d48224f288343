-- Runs on plain values that open the same numbers.
use Rattle.std.specs.Prelude.{◌≡◌, ◌≤◌, ℕ, List}
use Rattle.beet_field.specs.declared.trio.Trio.{Trio}
use Rattle.beet_gates.specs.Clear.{clear_at, rounds_dealt, values_dealt}
use Rattle.beet_gates.specs.Deals.{deals_of}
use Rattle.beet_gates.specs.declared.Batch.{Batch}

-- the runs of a script of at most so many rounds, on two lists of inputs and with two kinds of deals: they have the
-- same rounds, and have opened the same numbers in the end and after each batch
pub record OpenAlike (next : ℕ → List ℕ → Batch) (most : ℕ) (inputs : List ℕ) (deals : ℕ → List ℕ) (inputs' : List ℕ)
    (deals' : ℕ → List ℕ) :
    Type 0 where
  pub rounds : rounds_dealt next most inputs' deals' ≡ rounds_dealt next most inputs deals
  pub in_the_end : (values_dealt next most inputs' deals').opened ≡ (values_dealt next most inputs deals).opened
  pub all_along : (t : ℕ) → t ≤ rounds_dealt next most inputs deals →
      (clear_at next deals' inputs' t).opened ≡ (clear_at next deals inputs t).opened

-- the same with two trios of mask words
abbrev pub OpensAlike : (ℕ → List ℕ → Batch) → ℕ → List ℕ → Trio (List ℕ) → List ℕ → Trio (List ℕ) → Type 0
OpensAlike next most inputs words inputs' words' = OpenAlike next most inputs (deals_of words) inputs' (deals_of words')
