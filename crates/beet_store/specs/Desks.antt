-- What a desk is given: files by name, and a printed text.
use Rattle.std.specs.Prelude.{◌≡◌, ◌≤◌, ◌≢◌, ℕ, List, [], ◌∷◌, ◌++◌, take, Option, Some, None, Result, Ok, Err}
use Rattle.std.specs.Prelude.{IsSomeAnd}
use Rattle.beet_store.specs.Causes.{Rose}
use Rattle.beet_store.specs.Files.{File, bytes_of}
use Rattle.beet_store.specs.declared.desk.PutFault.{PutFault}
use Rattle.beet_store.specs.declared.desk.PutFault.TheVariants.{Failed, OutOfMemory}

-- what a put or a say answers
abbrev pub Done : Type 0
Done = Result (Unit {0}) PutFault

-- a call of a desk: what it was asked to put under a name, or to say, and what it answered
pub data DeskCall : Type 0 where
  Put : List ℕ → List ℕ → Done → DeskCall
  Say : List ℕ → Done → DeskCall

-- the files that a desk was given, and the text printed so far
pub record Given : Type 0 where
  pub files : List File
  pub said : List ℕ

-- what a desk tells: its record of the calls so far, with their answers; and what it was given, if it tells that
pub record DeskTold : Type 0 where
  pub given : Option Given
  pub calls : List DeskCall

-- what is seen of a desk: what it tells, and its count of faults
pub record DeskSeen : Type 0 where
  pub told : DeskTold
  pub faults : ℕ

-- the count rises with a call that failed, and with no other
abbrev pub CountsCall : ℕ → ℕ → Done → Type 0
CountsCall before now (Ok done) = now ≡ before
CountsCall before now (Err Failed) = Rose before now
CountsCall before now (Err OutOfMemory) = now ≡ before

-- why a put or a say answers as it does, whatever the desk tells
pub record HasPutCause (before now : ℕ) (result : Done) : Type 0 where
  pub later : before ≤ now
  pub count : CountsCall before now result

-- every other name and the printed text stand
pub record StandsBut (name : List ℕ) (old new : Given) : Type 0 where
  pub others : (other : List ℕ) → other ≢ name → bytes_of new.files other ≡ bytes_of old.files other
  pub said : new.said ≡ old.said

-- the whole file of the name is replaced, and all else stands
pub record Replaced (name bytes : List ℕ) (old new : Given) : Type 0 where
  pub file : bytes_of new.files name ≡ Some bytes
  pub rest : StandsBut name old new

-- files and text stand
pub record Stands (old new : Given) : Type 0 where
  pub files : new.files ≡ old.files
  pub said : new.said ≡ old.said

-- the text grew by some front of these bytes, and no file changed
pub record SaysSome (bytes : List ℕ) (old new : Given) : Type 0 where
  pub files : new.files ≡ old.files
  pub said : (n : ℕ) × (new.said ≡ old.said ++ take n bytes)

-- the text grew by these bytes, and no file changed
pub record SaysAll (bytes : List ℕ) (old new : Given) : Type 0 where
  pub files : new.files ≡ old.files
  pub said : new.said ≡ old.said ++ bytes

-- what a call leaves of files and text: what was asked for if it is taken, and for want of memory what stood; after
-- a failure nothing is known of the name, or it is not known how much of the text went out
abbrev pub Leaves : DeskCall → Given → Given → Type 0
Leaves (Put name bytes (Ok done)) old new = Replaced name bytes old new
Leaves (Put name bytes (Err Failed)) old new = StandsBut name old new
Leaves (Put name bytes (Err OutOfMemory)) old new = Stands old new
Leaves (Say bytes (Ok done)) old new = SaysAll bytes old new
Leaves (Say bytes (Err Failed)) old new = SaysSome bytes old new
Leaves (Say bytes (Err OutOfMemory)) old new = Stands old new

-- what a call leaves, if the desk tells it
abbrev pub LeavesGiven : Option Given → Option Given → DeskCall → Type 0
LeavesGiven None new call = new ≡ None
LeavesGiven (Some old) new call = IsSomeAnd new (Leaves call old)

-- one call more was made, this one, and what it left
pub record GivesCall (old new : DeskTold) (call : DeskCall) : Type 0 where
  pub recorded : new.calls ≡ old.calls ++ call ∷ []
  pub left : LeavesGiven old.given new.given call

abbrev pub answer_of : DeskCall → Done
answer_of (Put name bytes answer) = answer
answer_of (Say bytes answer) = answer

-- a desk was called: why it answered as it did, and what the call left
pub record Called (old new : DeskSeen) (call : DeskCall) : Type 0 where
  pub cause : HasPutCause old.faults new.faults (answer_of call)
  pub content : GivesCall old.told new.told call
