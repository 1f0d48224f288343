-- The file of the servers: the row beet-servers,1 and then a row for each server, or one for a bundle of words.
use Rattle.std.specs.Prelude.{ℕ, Bool, false, if◌then◌else◌, List, [], ◌∷◌, drop, Option, Some, None, option_map}
use Rattle.std.specs.Prelude.{Result, Ok, Err, bytes_eq, codes}
use Rattle.std.specs.List.{slice_get}
use Rattle.std.specs.Option.{ok_or}
use Rattle.beet_forms.specs.declared.row.Row.{Row}
use Rattle.beet_forms.specs.Faults.{Reading, at_row}
use Rattle.beet_forms.specs.Rows.{rows_of, begins_with}
use Rattle.beet_words.specs.Seeds.{seed_of}
use Rattle.beet_book.specs.declared.sources.ServerSource.{ServerSource}
use Rattle.beet_book.specs.declared.sources.ServerSource.TheVariants.{Seed, Tapes}
use Rattle.beet_book.specs.declared.sources.Servers.{Servers}
use Rattle.beet_book.specs.declared.sources.Servers.TheVariants.{Three, Bundle}
use Rattle.beet_forms.specs.declared.faults.TheConstants.{BAD_HEADER, BAD_ROW}
use Rattle.beet_book.specs.declared.entries.TheConstants.{BAD_SOURCE}
use Rattle.beet_book.specs.declared.named_file.TheConstants.{TOO_MANY}
use Rattle.beet_book.specs.Entries.{name_of}
use Rattle.beet_book.specs.NamedRows.{reading_at}

-- whether the first field of a row is this text
abbrev pub begins : List ℕ → Row → Bool
begins text [] = false
begins text (field ∷ fields) = bytes_eq field text

-- the two tapes of a server
abbrev pub tapes_of : Option (List ℕ) → Option (List ℕ) → Option ServerSource
tapes_of (Some coefficients) (Some masks) = Some (Tapes coefficients masks)
tapes_of _ _ = None

-- where a server's words come from: S,seed,HEX or S,tape,COEFFICIENTS,MASKS
abbrev pub source_in : Row → Option ServerSource
source_in (server ∷ kind ∷ text ∷ []) = if bytes_eq kind (codes "seed") then option_map Seed (seed_of text) else None
source_in (server ∷ kind ∷ coefficients ∷ masks ∷ []) =
    if bytes_eq kind (codes "tape") then tapes_of (name_of coefficients) (name_of masks) else None
source_in _ = None

-- the source of the server with this digit, or the reason against its row
abbrev pub server_in : List ℕ → Option Row → Result ServerSource ℕ
server_in digit None = Err BAD_ROW
server_in digit (Some row) = if begins digit row then ok_or (source_in row) BAD_SOURCE else Err BAD_ROW

-- the three servers, or the first row that is refused
abbrev pub three_of : Reading ServerSource → Reading ServerSource → Reading ServerSource → Reading Servers
three_of (Ok one) (Ok two) (Ok three) = Ok (Three (record { one = one; two = two; three = three }))
three_of (Ok one) (Ok two) (Err fault) = Err fault
three_of (Ok one) (Err fault) _ = Err fault
three_of (Err fault) _ _ = Err fault

-- the three servers of the rows after the first
abbrev pub three_in : List Row → Reading Servers
three_in rows =
    three_of (reading_at 2 (server_in (codes "1") (slice_get rows 0)))
    (reading_at 3 (server_in (codes "2") (slice_get rows 1)))
    (reading_at 4 (server_in (codes "3") (slice_get rows 2)))

-- the bundle of a row that begins so: bundle,NAME
abbrev pub bundle_in : Row → Result Servers ℕ
bundle_in (key ∷ name ∷ []) = ok_or (option_map Bundle (name_of name)) BAD_SOURCE
bundle_in _ = Err BAD_SOURCE

-- the reading, unless it is whole and one more row is there, with this number
abbrev pub last_before : ℕ → Option Row → Reading Servers → Reading Servers
last_before number None reading = reading
last_before number (Some row) (Ok servers) = Err (at_row number TOO_MANY)
last_before number (Some row) (Err fault) = Err fault

-- what the rows after the first read as, where the first of them decides whether there is a bundle
abbrev pub sources_from : List Row → Option Row → Reading Servers
sources_from rows None = Err (at_row 2 BAD_ROW)
sources_from rows (Some row) =
    if begins (codes "bundle") row then last_before 3 (slice_get rows 1) (reading_at 2 (bundle_in row))
    else last_before 5 (slice_get rows 3) (three_in rows)

-- what the rows after the first read as
abbrev pub sources_in : List Row → Reading Servers
sources_in rows = sources_from rows (slice_get rows 0)

-- what the rows of a servers file read as
abbrev pub servers_in : List Row → Reading Servers
servers_in rows = if begins_with rows (codes "beet-servers" ∷ codes "1" ∷ []) then sources_in (drop 1 rows)
    else Err (at_row 1 BAD_HEADER)

-- what a servers file reads as
abbrev pub servers_of : List ℕ → Reading Servers
servers_of bytes = servers_in (rows_of bytes)
