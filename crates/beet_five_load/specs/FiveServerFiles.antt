-- The file of five servers: the row beet-servers,5 and then a row for each server, with its seed.
use Rattle.std.specs.Prelude.{ℕ, Bool, false, if◌then◌else◌, List, [], ◌∷◌, Option, Some, None, option_and_then}
use Rattle.std.specs.Prelude.{Result, Ok, Err, codes, slice_get}
use Rattle.std.specs.Option.{ok_or}
use Rattle.beet_forms.specs.declared.row.Row.{Row}
use Rattle.beet_forms.specs.Faults.{Reading, at_row}
use Rattle.beet_forms.specs.Rows.{rows_of, begins_with}
use Rattle.beet_forms.specs.declared.faults.TheConstants.{BAD_HEADER, BAD_ROW}
use Rattle.beet_book.specs.NamedRows.{reading_at}
use Rattle.beet_book.specs.ServerFiles.{begins, source_in}
use Rattle.beet_book.specs.declared.entries.TheConstants.{BAD_SOURCE}
use Rattle.beet_book.specs.declared.named_file.TheConstants.{TOO_MANY}
use Rattle.beet_book.specs.declared.sources.ServerSource.{ServerSource}
use Rattle.beet_book.specs.declared.sources.ServerSource.TheVariants.{Seed, Tapes}

-- the seed of a source, or none if it is another one
abbrev pub seed_of_source : ServerSource → Option (List ℕ)
seed_of_source (Seed seed) = Some seed
seed_of_source (Tapes coefficients masks) = None

-- the seed of a row S,seed,HEX, or none if it is another row
abbrev pub seed_in : Row → Option (List ℕ)
seed_in row = option_and_then seed_of_source (source_in row)

-- the seed of the server with this digit, or the reason against its row
abbrev pub seed_at : List ℕ → Option Row → Result (List ℕ) ℕ
seed_at digit None = Err BAD_ROW
seed_at digit (Some row) = if begins digit row then ok_or (seed_in row) BAD_SOURCE else Err BAD_ROW

-- whether there is a row that begins as that of a bundle
abbrev pub is_bundle : Option Row → Bool
is_bundle None = false
is_bundle (Some row) = begins (codes "bundle") row

-- the seed of the first server: a bundle in its row is a source, but no seed
abbrev pub first_seed_at : Option Row → Result (List ℕ) ℕ
first_seed_at row = if is_bundle row then Err BAD_SOURCE else seed_at (codes "1") row

-- one seed before others
abbrev pub before_seeds : List ℕ → Reading (List (List ℕ)) → Reading (List (List ℕ))
before_seeds seed (Ok seeds) = Ok (seed ∷ seeds)
before_seeds seed (Err fault) = Err fault

-- all seeds, or the first fault
abbrev pub all_seeds : List (Reading (List ℕ)) → Reading (List (List ℕ))
all_seeds [] = Ok []
all_seeds (Ok seed ∷ readings) = before_seeds seed (all_seeds readings)
all_seeds (Err fault ∷ readings) = Err fault

-- the seeds of five servers, of the rows from row 2 on
abbrev pub seeds_in : List Row → Reading (List (List ℕ))
seeds_in rows =
    all_seeds
    (reading_at 2 (first_seed_at (slice_get rows 1))
    ∷ reading_at 3 (seed_at (codes "2") (slice_get rows 2))
    ∷ reading_at 4 (seed_at (codes "3") (slice_get rows 3))
    ∷ reading_at 5 (seed_at (codes "4") (slice_get rows 4))
    ∷ reading_at 6 (seed_at (codes "5") (slice_get rows 5))
    ∷ [])

-- the seeds, unless a row comes after that of the last server
abbrev pub seeds_before : Option Row → Reading (List (List ℕ)) → Reading (List (List ℕ))
seeds_before None reading = reading
seeds_before (Some row) (Ok seeds) = Err (at_row 7 TOO_MANY)
seeds_before (Some row) (Err fault) = Err fault

-- what the rows of a file of five servers read as
abbrev pub five_seeds_in : List Row → Reading (List (List ℕ))
five_seeds_in rows =
    if begins_with rows (codes "beet-servers" ∷ codes "5" ∷ [])
    then seeds_before (slice_get rows 6) (seeds_in rows)
    else Err (at_row 1 BAD_HEADER)

-- what a file of five servers reads as
abbrev pub five_seeds_of : List ℕ → Reading (List (List ℕ))
five_seeds_of bytes = five_seeds_in (rows_of bytes)
