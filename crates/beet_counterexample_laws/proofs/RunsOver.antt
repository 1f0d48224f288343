-- Fetches that are answered from files, and a run that makes them.
use Rattle.std.proofs.Common.{◌≡◌, ◌++◌, inl, ℕ, List, [], ◌∷◌, Bool, true, false, Option, Some, None, Ok}
use Rattle.std.proofs.Common.{length, nat_lt, if◌then◌else◌, refl, sym, append_assoc}
use Rattle.std.proofs.lemmas.Bool.{ltb-false, ltb-true}
use Rattle.beet_store.specs.Files.{Bytes, Fetch, File, Longer, Nothing, Told, bytes_of, fetch_of}
use Rattle.beet_store.specs.Desks.{DeskCall, DeskTold, Put}
use Rattle.beet_errand.specs.Errands.{Answer, Errand, Ends, Wants, bad_file, too_long}
use Rattle.beet_errand.specs.Fetches.{AreAnswered, Leads}
use Rattle.beet_errand.specs.Overs.{answer_over, answer_with}
use Rattle.beet_errand.specs.Records.{calls_of}
use Rattle.beet_errand.specs.Runs.{GivesAll, Runs}
use Rattle.beet_errand.specs.Statuses.{code_of}

-- a shelf of these files that was asked this
abbrev pub shelf_of : List File → List Fetch → Told
shelf_of files fetches = record { files = Some files; fetches = fetches }

-- a desk that got these calls, and does not tell what it was given
abbrev pub desk_of : List DeskCall → DeskTold
desk_of calls = record { given = None; calls = calls }

-- a desk takes files and a text
pub given-all : (before : List DeskCall) (files : List File) (text : List ℕ) →
    GivesAll (desk_of before) (desk_of (before ++ calls_of files text)) files text (Ok tt)
given-all before [] text = record { recorded = refl; left = refl }
given-all before (file ∷ files) text =
    let put : List DeskCall = before ++ Put file.0 file.1 (Ok tt) ∷ [] in
    inl (
      desk_of put,
      record { recorded = refl; left = refl },
      rw (sym (append_assoc before (Put file.0 file.1 (Ok tt) ∷ []) (calls_of files text))) (given-all put files text),
    )

module _ (files : List File) where
  -- fetches that are answered from the files lead an errand to its answer over them
  abbrev Led : Errand → Answer → Type 0
  Led errand answer =
      (fetches : List Fetch) × AreAnswered (Some files) fetches × Leads fetches errand (Ends answer)

  one-more : (name : List ℕ) (limit : ℕ) (next : List ℕ → Errand) (answer : Answer) (bytes : List ℕ) (long : Bool) →
      bytes_of files name ≡ Some bytes → nat_lt limit (length bytes) ≡ long → Led (next bytes) answer →
      Led (Wants name limit next)
      (if long then (answer_over files (bad_file name too_long)) else answer)
  one-more name limit next answer bytes true held is (fetches, answered, leads) = (
    fetch_of name limit (Longer (length bytes)) ∷ [],
    (record { limited = ltb-true limit (length bytes) is; held = rw held refl }, tt),
    (refl, refl, refl),
  )
  one-more name limit next answer bytes false held is (fetches, answered, leads) = (
    fetch_of name limit (Bytes bytes) ∷ fetches,
    (record { limited = ltb-false limit (length bytes) is; held = held }, answered),
    (refl, refl, leads),
  )

  fetched : (name : List ℕ) (limit : ℕ) (next : List ℕ → Errand)
      (all : (bytes : List ℕ) → Led (next bytes) (answer_over files (next bytes))) (held : Option (List ℕ)) →
      bytes_of files name ≡ held →
      Led (Wants name limit next) (answer_with name limit (λ bytes. answer_over files (next bytes)) held)
  fetched name limit next all None is = (
    fetch_of name limit Nothing ∷ [],
    (record { limited = tt; held = tt }, tt),
    (refl, refl, refl),
  )
  fetched name limit next all (Some bytes) is =
      one-more name limit next (answer_over files (next bytes)) bytes (nat_lt limit (length bytes)) is refl (all bytes)

  pub led-over : (errand : Errand) → Led errand (answer_over files errand)
  led-over (Ends answer) = ([], tt, refl)
  led-over (Wants name limit next) =
      fetched name limit next (λ bytes. led-over (next bytes)) (bytes_of files name) refl

  -- an errand that is led so has a run, over a shelf of these files and a desk that takes all
  pub run-over : (errand : Errand) (answer : Answer) (l : Led errand answer) →
      Runs errand (shelf_of files []) (shelf_of files l.0) (desk_of []) (desk_of (calls_of answer.files answer.text))
      (code_of answer.status)
  run-over errand answer (fetches, answered, leads) = record {
    rest = Ends answer;
    went = record { fetches = fetches; recorded = refl; answered = answered; leads = leads };
    ends = inl (record { done = Ok tt; calls = given-all [] answer.files answer.text; code = refl });
  }
