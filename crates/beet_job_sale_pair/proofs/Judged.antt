-- What holds of a value that was read holds of it once it is judged.
use Rattle.std.proofs.Common.{◌≡◌, ℕ, List, Result, Ok, Err, IfOk, subst}
use Rattle.beet_forms.specs.declared.faults.ReadFault.{ReadFault}
use Rattle.beet_errand.specs.Fetches.{Judges}
use Rattle.beet_errand.specs.declared.answer.Stop.{Stop}

pub judged-holds : {T : Type 0} (P : T → Type 0) (name : List ℕ) (read : Result T ReadFault) (result : Result T Stop) → IfOk read P →
    Judges name read result → IfOk result P
judged-holds P name (Ok value) (Ok same) h j = let e : value ≡ same = cc in subst P e h
judged-holds P name (Err fault) (Ok same) h j = absurd cc
judged-holds P name read (Err stop) h j = tt
