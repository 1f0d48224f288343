-- Seeds that come twice in the files that a job fetches.
use Rattle.std.specs.Prelude.{◌||◌, ℕ, Bool, false, List, [], ◌∷◌, ◌++◌, bytes_eq, drop, if◌then◌else◌, length}
use Rattle.std.specs.Prelude.{Ok, Err, nat_lt, take}
use Rattle.std.specs.List.{flat_map, list_any}
use Rattle.beet_store.specs.Files.{Bytes, Fetch, FetchAnswer, Longer, Nothing}
use Rattle.beet_forms.specs.Faults.{Reading}
use Rattle.beet_forms.specs.declared.faults.TheConstants.{LONGEST_FILE}
use Rattle.beet_book.specs.BookFiles.{book_of}
use Rattle.beet_book.specs.ServerFiles.{servers_of}
use Rattle.beet_book.specs.declared.entries.BidderSource.{BidderSource}
use Rattle.beet_book.specs.declared.entries.BidderSource.TheVariants.{Seed as BidderSeed, Tape}
use Rattle.beet_book.specs.declared.entries.Entry.{Entry}
use Rattle.beet_book.specs.declared.sources.ServerSource.{ServerSource}
use Rattle.beet_book.specs.declared.sources.ServerSource.TheVariants.{Seed as ServerSeed, Tapes}
use Rattle.beet_book.specs.declared.sources.Servers.{Servers}
use Rattle.beet_book.specs.declared.sources.Servers.TheVariants.{Three, Bundle}

-- the seed of a server, if its words are those of one
abbrev pub seed_of_server : ServerSource → List (List ℕ)
seed_of_server (ServerSeed seed) = seed ∷ []
seed_of_server (Tapes coefficients masks) = []

abbrev pub seed_of_bidder : BidderSource → List (List ℕ)
seed_of_bidder (BidderSeed seed) = seed ∷ []
seed_of_bidder (Tape name) = []

abbrev pub seeds_of_servers : Servers → List (List ℕ)
seeds_of_servers (Three sources) =
    seed_of_server sources.one ++ (seed_of_server sources.two ++ seed_of_server sources.three)
seeds_of_servers (Bundle name) = []

-- those of the bidders of a book
abbrev pub seeds_of_entries : List Entry → List (List ℕ)
seeds_of_entries entries = flat_map (λ entry. seed_of_bidder entry.source) entries

-- what is told of a file that is read, and nothing of one that is refused
abbrev pub if_read : {A : Type 0} → (A → List (List ℕ)) → Reading A → List (List ℕ)
if_read seeds (Ok value) = seeds value
if_read seeds (Err fault) = []

-- the seeds in a file: of servers, if it is their file, or of bidders, if it is a book
abbrev pub seeds_in : List ℕ → List (List ℕ)
seeds_in bytes = if_read seeds_of_servers (servers_of bytes) ++ if_read seeds_of_entries (book_of bytes)

-- those in a file that is fetched; no file of these kinds is longer than the longest
abbrev pub seeds_fetched : FetchAnswer → List (List ℕ)
seeds_fetched (Bytes bytes) = if nat_lt LONGEST_FILE (length bytes) then [] else seeds_in bytes
seeds_fetched (Longer n) = []
seeds_fetched Nothing = []

-- a job fetches its auction first, and then, if it has them, its servers and its book. The seeds in these two files
-- count, and those in no other: a second book stands in the place of the first, with words of its own
abbrev pub seeds_seen : List Fetch → List (List ℕ)
seeds_seen fetches = flat_map (λ fetch. seeds_fetched fetch.answer) (take 2 (drop 1 fetches))

-- whether a seed is among others
abbrev pub is_among : List ℕ → List (List ℕ) → Bool
is_among seed seeds = list_any (bytes_eq seed) seeds

-- whether one seed comes twice
abbrev pub come_twice : List (List ℕ) → Bool
come_twice [] = false
come_twice (seed ∷ seeds) = is_among seed seeds || come_twice seeds
