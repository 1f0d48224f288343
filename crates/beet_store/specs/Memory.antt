-- What the memory types tell, and at which calls they fail.
use Rattle.std.specs.Prelude.{◌≡◌, ℕ, List, Bool, true, nat_eq, if◌then◌else◌, is_none, Some, None, slice_get, take}
use Rattle.std.specs.List.{list_any}
use Rattle.beet_store.specs.Causes.{next_count}
use Rattle.beet_store.specs.Files.{Fetch, File, Seen, bytes_of}
use Rattle.beet_store.specs.Desks.{DeskCall, DeskSeen, Given}

-- the calls of a memory type: the numbers that are to fail, the calls made, the count of faults
pub record CallsSeen : Type 0 where
  pub failing : List ℕ
  pub made : ℕ
  pub faults : ℕ

-- the call that begins now is listed; the first call has the number 1
abbrev pub is_listed : CallsSeen → Bool
is_listed calls = list_any (λ n. nat_eq n (next_count calls.made)) calls.failing

-- one call more, and one fault more if it fails
abbrev pub after_call : CallsSeen → Bool → CallsSeen
after_call calls fails =
    record calls { made = next_count calls.made; faults = if fails then next_count calls.faults else calls.faults }

-- a memory shelf: its files, its record of the fetches, and its calls
pub record ShelfInMemory : Type 0 where
  pub files : List File
  pub fetches : List Fetch
  pub calls : CallsSeen

abbrev pub shelf_seen : ShelfInMemory → Seen
shelf_seen shelf =
    record { told = record { files = Some shelf.files; fetches = shelf.fetches }; faults = shelf.calls.faults }

-- a fetch fails if the name is not held, or if its call is listed
abbrev pub fetch_fails : ShelfInMemory → List ℕ → Bool
fetch_fails shelf name = if is_none (bytes_of shelf.files name) then true else is_listed shelf.calls

-- the file at the place has the name, and none before it has
abbrev pub IsFirstOf : List File → List ℕ → ℕ → Type 0
IsFirstOf files name i =
    (file : File) × (slice_get files i ≡ Some file) × (file.0 ≡ name) × (bytes_of (take i files) name ≡ None)

-- a memory desk: what it was given, its record of the calls, and which fail
pub record DeskInMemory : Type 0 where
  pub given : Given
  pub history : List DeskCall
  pub calls : CallsSeen

abbrev pub desk_seen : DeskInMemory → DeskSeen
desk_seen desk = record { told = record { given = Some desk.given; calls = desk.history }; faults = desk.calls.faults }
