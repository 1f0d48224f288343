-- The entry of a row, where its name is read first.
use Rattle.std.proofs.Common.{◌≡◌, ℕ, List, [], ◌∷◌, Some, None, Ok, Result, ap}
use Rattle.std.specs.Prelude.{Option}
use Rattle.std.specs.Option.{ok_or}
use Rattle.beet_forms.specs.declared.row.Row.{Row}
use Rattle.beet_forms.specs.declared.faults.ReadFault.{ReadFault}
use Rattle.beet_forms.specs.declared.faults.TheConstants.{BAD_ROW}
use Rattle.beet_forms.specs.Faults.{Answers}
use Rattle.beet_book.specs.Entries.{name_of}
use Rattle.beet_book.specs.NamedRows.{reading_at}
use Rattle.beet_farmer.specs.declared.list_file.ListEntry.{ListEntry}
use Rattle.beet_farmer.specs.Lists.{entry_in, entry_of}

-- a name that was read is there
name-there : (number : ℕ) (found : Option (List ℕ)) (name : List ℕ) → reading_at number (ok_or found BAD_ROW) ≡ Ok name → found ≡ Some name
name-there number (Some own) name read = let same : own ≡ name = cc read in ap Some same
name-there number None name read = cc read

-- what the names behind the first read as is what the row reads as
pub entry-answers : (number : ℕ) (row : Row) (first one two three name : List ℕ) (result : Result ListEntry ReadFault) →
    row ≡ first ∷ one ∷ two ∷ three ∷ [] → reading_at number (ok_or (name_of first) BAD_ROW) ≡ Ok name →
    Answers (λ (entry : ListEntry). entry) (reading_at number (entry_of (Some name) (name_of one) (name_of two) (name_of three))) result →
    Answers (λ (entry : ListEntry). entry) (reading_at number (entry_in row)) result
entry-answers number row first one two three name result fields read answers =
    rw (fields, name-there number (name_of first) name read) answers
