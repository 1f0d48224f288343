-- Files by name, and what a fetch of one answers.
use Rattle.std.specs.Prelude.{◌≡◌, ◌≤◌, ◌<◌, ℕ, List, [], ◌∷◌, ◌++◌, Option, Some, None, if◌then◌else◌, Result, Ok, Err}
use Rattle.std.specs.Prelude.{Vec, bytes_eq, IfSome, IsSomeAnd, length, ⊤}
use Rattle.std.specs.Global.{Global}
use Rattle.beet_store.specs.Causes.{Rose}
use Rattle.beet_store.specs.declared.shelf.FetchFault.{FetchFault}
use Rattle.beet_store.specs.declared.shelf.FetchFault.TheVariants.{Failed, TooLong, OutOfMemory}

-- a name and its bytes
abbrev pub File : Type 0
File = List ℕ × List ℕ

-- the bytes that are held under the name; of two files with one name the first
abbrev pub bytes_of : List File → List ℕ → Option (List ℕ)
bytes_of [] name = None
bytes_of (file ∷ files) name = if bytes_eq file.0 name then Some file.1 else bytes_of files name

-- what a fetch answers
abbrev pub Fetched : Type 0
Fetched = Result (Vec ℕ Global) FetchFault

-- the answer of a fetch, as it is recorded: the bytes of a whole file, a length above the limit, or that it failed
pub data FetchAnswer : Type 0 where
  Bytes : List ℕ → FetchAnswer
  Longer : ℕ → FetchAnswer
  Nothing : FetchAnswer

-- the answer that is recorded: none if memory ran out
abbrev pub answer_of : Fetched → Option FetchAnswer
answer_of (Ok bytes) = Some (Bytes bytes.items)
answer_of (Err (TooLong n)) = Some (Longer n)
answer_of (Err Failed) = Some Nothing
answer_of (Err OutOfMemory) = None

-- a file that is answered is within the limit, and a length that is refused is above it
abbrev pub FitsLimit : ℕ → FetchAnswer → Type 0
FitsLimit limit (Bytes bytes) = length bytes ≤ limit
FitsLimit limit (Longer n) = limit < n
FitsLimit limit Nothing = ⊤

-- it answers the whole of what is held, or its length; a fetch of whatever is held may fail
abbrev pub Answers : Option (List ℕ) → FetchAnswer → Type 0
Answers held (Bytes bytes) = held ≡ Some bytes
Answers held (Longer n) = IsSomeAnd held (λ bytes. length bytes ≡ n)
Answers held Nothing = ⊤

-- the count rises with a fetch that failed, and with no other
abbrev pub CountsFetch : ℕ → ℕ → Fetched → Type 0
CountsFetch before now (Ok bytes) = now ≡ before
CountsFetch before now (Err (TooLong n)) = now ≡ before
CountsFetch before now (Err Failed) = Rose before now
CountsFetch before now (Err OutOfMemory) = now ≡ before

-- why a fetch answers as it does, whatever the shelf tells of its files
pub record HasCause (before now limit : ℕ) (result : Fetched) : Type 0 where
  pub later : before ≤ now
  pub count : CountsFetch before now result
  pub limited : IfSome (answer_of result) (FitsLimit limit)

-- a fetch that is recorded: the name and the limit that were asked for, and what was answered
pub record Fetch : Type 0 where
  pub name : List ℕ
  pub limit : ℕ
  pub answer : FetchAnswer

-- the entry of a fetch of this name and limit
abbrev pub fetch_of : List ℕ → ℕ → FetchAnswer → Fetch
fetch_of name limit answer = record { name = name; limit = limit; answer = answer }

-- the fetches so far and one more, unless memory ran out
abbrev pub fetches_after : List Fetch → List ℕ → ℕ → Option FetchAnswer → List Fetch
fetches_after before name limit None = before
fetches_after before name limit (Some answer) = before ++ fetch_of name limit answer ∷ []

-- what a shelf tells: its record of the fetches so far, with their answers; and its files, if it tells them
pub record Told : Type 0 where
  pub files : Option (List File)
  pub fetches : List Fetch

-- what is seen of a shelf: what it tells, and its count of faults
pub record Seen : Type 0 where
  pub told : Told
  pub faults : ℕ

-- what a shelf tells after more fetches
abbrev pub with_fetches : Told → List Fetch → Told
with_fetches told fetches = record told { fetches = fetches }

-- what a fetch records, and, if the shelf tells its files, what it answers; what it holds never changes
pub record TellsFetch (old new : Told) (name : List ℕ) (limit : ℕ) (result : Fetched) : Type 0 where
  pub recorded : new ≡ with_fetches old (fetches_after old.fetches name limit (answer_of result))
  pub held : IfSome old.files (λ files. IfSome (answer_of result) (Answers (bytes_of files name)))
