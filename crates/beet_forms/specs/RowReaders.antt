-- A reader of rows: which rows it has yet to give.
use Rattle.std.specs.Prelude.{◌≡◌, ℕ, ◌+◌, Bool, true, false, List, [], ◌∷◌, length, drop, Option, Some, None, IsSome}
use Rattle.std.proofs.Common.{Bor}
use Rattle.beet_forms.specs.Rows.{begins_with}
use Rattle.csv.specs.Reading.{default_config, records_from, source_of, has_failed, is_flexible, reader_config}
use Rattle.csv.specs.Reading.{reader_state, reader_trim, Ready}
use Rattle.csv.specs.declared.parser.State.{State}
use Rattle.csv.specs.declared.reader.Reader.{Reader}
use Rattle.csv.specs.declared.reader.Trim.TheVariants as trim

-- all records of csv of a text, from a state on: each takes a byte at least, but one that the state alone may give
abbrev pub rows_from : State → Option (List ℕ) → List (List (List ℕ))
rows_from s None = []
rows_from s (Some text) = records_from default_config (length text + 2) s text

-- the text that a reader of a slice has left
abbrev pub text_left : Reader (Bor (List ℕ)) → Option (List ℕ)
text_left reader = source_of (λ s. Some s.now) reader

-- the rows that a reader has yet to give
abbrev pub rows_left : Reader (Bor (List ℕ)) → List (List (List ℕ))
rows_left reader = rows_from (reader_state reader) (text_left reader)

-- a reader that reads rows as `rows_of` does
pub record Reads (reader : Reader (Bor (List ℕ))) : Type 0 where
  pub config : reader_config reader ≡ default_config
  pub trim : reader_trim reader ≡ trim.None
  pub flexible : is_flexible reader ≡ true
  pub ready : Ready reader
  pub known : IsSome (text_left reader)

-- the same, of a reader that has not failed
abbrev pub IsReading : Reader (Bor (List ℕ)) → Type 0
IsReading reader = has_failed reader ≡ false → Reads reader

-- if a row was found, it is the first of those that were left
abbrev pub Gives : Bool → List (List (List ℕ)) → List (List ℕ) → List (List (List ℕ)) → Type 0
Gives true old row new = old ≡ row ∷ new
Gives false old row new = old ≡ []

-- the first of the rows that were left is this one, and those after it are left
abbrev pub Passes : Bool → List (List (List ℕ)) → List (List ℕ) → List (List (List ℕ)) → Type 0
Passes same old header new = (same ≡ begins_with old header) × (same ≡ true → new ≡ drop 1 old)
