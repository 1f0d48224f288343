-- Where a script has ended.
use Rattle.std.specs.Prelude.{◌≡◌, ◌≢◌, ◌↔◌, ℕ, zero, suc, List, [], ◌++◌, length, Option, IsSome}
use Rattle.beet_gates.specs.declared.Act.TheVariants.{End}
use Rattle.beet_gates.specs.declared.Batch.{Batch}
use Rattle.beet_gates.specs.Scripts.{revealed}

-- after so many batches, none of which is the end, the script may have opened these numbers
abbrev pub ComesTo : (ℕ → List ℕ → Batch) → ℕ → List ℕ → Type 0
ComesTo next zero opened = opened ≡ []
ComesTo next (suc n) opened =
    (before : List ℕ) × (new : List ℕ) × ComesTo next n before × ((next n before).act ≢ End)
    × (length new ≡ revealed (next n before).act) × (opened ≡ before ++ new)

-- the answer is there exactly if the next batch is the end, after any number of batches at which these may be the
-- opened numbers
abbrev pub TellsEnd : {F : Type 0} → (ℕ → List ℕ → Batch) → List ℕ → Option F → Type 0
TellsEnd next opened answer = (done : ℕ) → ComesTo next done opened → IsSome answer ↔ ((next done opened).act ≡ End)
