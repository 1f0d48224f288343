-- The servers file of a session: each server has a seed.
use Rattle.std.specs.Prelude.{ℕ, Bool, true, false, if◌then◌else◌, List, Option, Some, None, option_map, Ok, Err}
use Rattle.beet_forms.specs.Faults.{Reading, at_row, reading_of}
use Rattle.beet_book.specs.ServerFiles.{servers_of}
use Rattle.beet_book.specs.declared.sources.ServerSource.{ServerSource}
use Rattle.beet_book.specs.declared.sources.ServerSource.TheVariants.{Seed, Tapes}
use Rattle.beet_book.specs.declared.sources.Servers.{Servers}
use Rattle.beet_book.specs.declared.sources.Servers.TheVariants.{Three, Bundle}
use Rattle.beet_lot_files.specs.declared.seed_file.TheConstants.{NOT_SEED}

-- whether the words of a server come from a seed
abbrev pub is_seed : ServerSource → Bool
is_seed (Seed seed) = true
is_seed (Tapes coefficients masks) = false

-- the first row that has no seed, if there is one: the servers stand in rows 2 to 4, and a bundle in row 2
abbrev pub row_without_seed : Servers → Option ℕ
row_without_seed (Bundle name) = Some 2
row_without_seed (Three sources) =
    if is_seed sources.one then
    (if is_seed sources.two then (if is_seed sources.three then None else Some 4) else Some 3)
    else Some 2

-- the servers, which all have seeds, or the first row that has none
abbrev pub seeded : Reading Servers → Reading Servers
seeded (Ok servers) = reading_of (option_map (λ row. at_row row NOT_SEED) (row_without_seed servers)) servers
seeded (Err fault) = Err fault

-- what the servers file of a session reads as
abbrev pub seed_servers_of : List ℕ → Reading Servers
seed_servers_of bytes = seeded (servers_of bytes)
