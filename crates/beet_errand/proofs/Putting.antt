-- Files that are put in order, and the text that is said after them.
use Rattle.std.proofs.Common.{◌≡◌, ◌≤◌, ◌<◌, ◌⊎◌, inl, inr, ℕ, List, [], ◌∷◌, ◌+◌, length, drop, get_or, Ok, Err, refl, sym, ◌∙◌, ap}
use Rattle.std.proofs.Common.{Option}
use Rattle.std.proofs.lemmas.List.{drop_more, drop_all}
use Rattle.beet_store.specs.Causes.{Rose}
use Rattle.beet_store.specs.Files.{File}
use Rattle.beet_store.specs.Desks.{DeskTold, Put, Say, Done, Given, HasPutCause, GivesCall, LeavesGiven}
use Rattle.beet_store.specs.declared.desk.PutFault.{PutFault}
use Rattle.beet_store.specs.declared.desk.PutFault.TheVariants.{Failed, OutOfMemory}
use Rattle.beet_errand.specs.Statuses.{code_of}
use Rattle.beet_errand.specs.declared.answer.Status.{Status}
use Rattle.beet_errand.specs.declared.answer.Status.TheVariants.{WriteFault, OutOfMemory as NoMemory}
use Rattle.beet_errand.specs.Runs.{CallsAll, GivesAll, status_after}

-- what calls that give files and a text leave, if the desk tells it
abbrev pub LeavesAll : Option Given → Option Given → List File → List ℕ → Done → Type 0
LeavesAll = CallsAll LeavesGiven

-- what the calls of a desk left
pub leaves_all : (old now : DeskTold) (files : List File) (text : List ℕ) (done : Done) →
    GivesAll old now files text done → LeavesAll old.given now.given files text done
leaves_all old now [] text done call = call.left
leaves_all old now (file ∷ files) text done (inl (middle, call, rest)) =
    inl (middle.given, call.left, leaves_all middle now files text done rest)
leaves_all old now (file ∷ files) text done (inr (fault, e, call)) = inr (fault, e, call.left)

next_file : (files : List File) (i : ℕ) (file : File) → i < length files → file ≡ get_or files i file →
    drop i files ≡ file ∷ drop (i + 1) files
next_file files i file h e = drop_more files i file h ∙ ap (λ f. f ∷ drop (i + 1) files) (sym e)

-- one more file is put
pub put_more : (files : List File) (i : ℕ) (file : File) (text : List ℕ) (old given middle : DeskTold) →
    i < length files → file ≡ get_or files i file →
    ((now : DeskTold) (done : Done) → GivesAll given now (drop i files) text done → GivesAll old now files text done) →
    GivesCall given middle (Put file.0 file.1 (Ok tt)) →
    (now : DeskTold) (done : Done) → GivesAll middle now (drop (i + 1) files) text done →
    GivesAll old now files text done
put_more files i file text old given middle h e before put = λ now done rest.
    before now done (rw (next_file files i file h e) (inl (middle, put, rest)))

-- the next file is refused
pub put_refused : (files : List File) (i : ℕ) (file : File) (text : List ℕ) (old given now : DeskTold)
    (fault : PutFault) → i < length files → file ≡ get_or files i file →
    ((now : DeskTold) (done : Done) → GivesAll given now (drop i files) text done → GivesAll old now files text done) →
    GivesCall given now (Put file.0 file.1 (Err fault)) → GivesAll old now files text (Err fault)
put_refused files i file text old given now fault h e before put =
    before now (Err fault) (rw (next_file files i file h e) (inr (fault, refl, put)))

-- all files are put, and the text is next
pub said_last : (files : List File) (i : ℕ) (text : List ℕ) (old given now : DeskTold) (done : Done) →
    length files ≤ i →
    ((now : DeskTold) (done : Done) → GivesAll given now (drop i files) text done → GivesAll old now files text done) →
    GivesCall given now (Say text done) → GivesAll old now files text done
said_last files i text old given now done h before said = before now done (rw (drop_all i files h) said)

-- the status of an answer that went out or was refused
pub status_cases : (due end : Status) (before now : ℕ) (done : Done) → HasPutCause before now done → end ≡ status_after due done →
    (end ≡ due) ⊎ ((end ≡ WriteFault) × Rose before now) ⊎ (end ≡ NoMemory)
status_cases due end before now (Ok x) c e = inl e
status_cases due end before now (Err Failed) c e = inr (inl (e, c.count))
status_cases due end before now (Err OutOfMemory) c e = inr (inr e)

-- the status, or an answer that leaves the desk's count of faults as it was
pub left_or_told : (due end : Status) (before now : ℕ) (done : Done) → HasPutCause before now done → end ≡ status_after due done →
    (code_of end ≡ 4) ⊎ (now ≡ before)
left_or_told due end before now (Ok x) c e = inr c.count
left_or_told due end before now (Err Failed) c e = inl (ap code_of e)
left_or_told due end before now (Err OutOfMemory) c e = inr c.count

-- a count of faults that is as it was before a call rose in no other
pub cause_since : (old before now : ℕ) (done : Done) → before ≡ old → HasPutCause before now done → HasPutCause old now done
cause_since old before now done e c = rw e at c
