-- What the host types tell and count, how far a reader is read, and what a writer gets.
use Rattle.std.specs.Prelude.{◌≡◌, ◌≤◌, ◌+◌, ℕ, List, Bool, if◌then◌else◌, length, take, Option, None, Ok, Err, ⊤}
use Rattle.std.specs.Io.KnownBytes.{Appends, Consumes, IsAtEnd}
use Rattle.beet_store.specs.Causes.{next_count}
use Rattle.beet_store.specs.Files.{Fetch, Fetched, Seen}
use Rattle.beet_store.specs.Desks.{DeskCall, DeskSeen, Done}
use Rattle.beet_store.specs.declared.shelf.FetchFault.TheVariants.{Failed, TooLong, OutOfMemory}

-- the count of faults after a call: one more if it failed
abbrev pub count_after : ℕ → Bool → ℕ
count_after before failed = if failed then next_count before else before

-- the bytes that were read are the whole, or more than the limit
abbrev pub IsWhole : Option (List ℕ) → List ℕ → Fetched → Type 0
IsWhole left bytes (Ok whole) = (whole.items ≡ bytes) × IsAtEnd left
IsWhole left bytes (Err (TooLong n)) = n ≡ length bytes
IsWhole left bytes (Err Failed) = ⊤
IsWhole left bytes (Err OutOfMemory) = ⊤

-- what was read of a reader, told or not: no more than one byte beyond the limit
pub record ReadsWithin (old new : Option (List ℕ)) (limit : ℕ) (result : Fetched) : Type 0 where
  pub bytes : List ℕ
  pub consumed : Consumes old new bytes
  pub within : length bytes ≤ limit + 1
  pub whole : IsWhole new bytes result

-- a file is read to one byte beyond the limit, and no further
abbrev pub StopsBeyond : ℕ → Fetched → Type 0
StopsBeyond limit (Ok whole) = ⊤
StopsBeyond limit (Err (TooLong n)) = n ≡ limit + 1
StopsBeyond limit (Err Failed) = ⊤
StopsBeyond limit (Err OutOfMemory) = ⊤

-- what a writer got, told or not: all the bytes, in order and once, if it is done, and else some front of them
abbrev pub WritesAll : Option (List ℕ) → Option (List ℕ) → List ℕ → Done → Type 0
WritesAll old new bytes (Ok done) = Appends old new bytes
WritesAll old new bytes (Err fault) = (n : ℕ) × Appends old new (take n bytes)

-- a host shelf tells its record of the fetches, and not its files
abbrev pub host_shelf : List Fetch → ℕ → Seen
host_shelf fetches faults = record { told = record { files = None; fetches = fetches }; faults = faults }

-- a host desk tells its record of the calls, and not what it was given
abbrev pub host_desk : List DeskCall → ℕ → DeskSeen
host_desk calls faults = record { told = record { given = None; calls = calls }; faults = faults }
