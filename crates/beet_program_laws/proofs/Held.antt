-- Where a job is done that reads a file, the file is held and right.
use Rattle.std.proofs.Common.{◌≡◌, ◌≤◌, ℕ, List, length, nat_lt, Bool, true, false, Option, Some, None, Ok, Err}
use Rattle.std.proofs.Common.{if◌then◌else◌, refl}
use Rattle.std.proofs.lemmas.Bool.{ltb-false}
use Rattle.beet_store.specs.Files.{File, bytes_of}
use Rattle.beet_forms.specs.Faults.{Reading}
use Rattle.beet_errand.specs.Errands.{judged, reads}
use Rattle.beet_errand.specs.Fetches.{IsDone}
use Rattle.beet_errand.specs.declared.answer.Refusal.TheVariants.{ReadFault, BadFile}
use Rattle.beet_errand.proofs.Statuses.{not_done}
use Rattle.beet_errand.specs.Overs.{ReadsTo, answer_over, answer_with}
use Rattle.beet_app_laws.specs.Held.{IsHeld}
use Rattle.beet_app_laws.proofs.Reading.{after_bytes, reads-to, refusal}
use Rattle.beet_program_laws.proofs.Steps.{Yields}

module _ (files : List File) {A : Type 0} (name : List ℕ) (limit : ℕ) (grammar : List ℕ → Reading A) where
  abbrev IsHeldValue : Type 0
  IsHeldValue = (a : A) × ReadsTo files (reads name limit grammar) a × IsHeld files name limit grammar a

  -- where a job is done that reads a file, the file was held
  pub held-yield : Yields files (reads name limit grammar) (IsHeld files name limit grammar)
  held-yield next done = by-held (bytes_of files name) refl done where
    by-reading : (bytes : List ℕ) → bytes_of files name ≡ Some bytes → length bytes ≤ limit → (reading : Reading A) →
        grammar bytes ≡ reading →
        IsDone (answer_over files (judged name reading next)).status → IsHeldValue
    by-reading bytes held short (Ok a) is done =
        let h : IsHeld files name limit grammar a = record { bytes = bytes; held = held; short = short; is = is } in
        (a, reads-to files name limit grammar a h, h)
    by-reading bytes held short (Err fault) is done = absurd (not_done BadFile done)

    by-length : (bytes : List ℕ) → bytes_of files name ≡ Some bytes → (long : Bool) →
        nat_lt limit (length bytes) ≡ long →
        IsDone (if long then refusal files name limit grammar
        else after_bytes files name limit grammar next bytes).status → IsHeldValue
    by-length bytes held true is done = absurd (not_done BadFile done)
    by-length bytes held false is done =
        by-reading bytes held (ltb-false limit (length bytes) is) (grammar bytes) refl done

    by-held : (held : Option (List ℕ)) → bytes_of files name ≡ held →
        IsDone (answer_with name limit (after_bytes files name limit grammar next) held).status → IsHeldValue
    by-held None is done = absurd (not_done ReadFault done)
    by-held (Some bytes) is done = by-length bytes is (nat_lt limit (length bytes)) refl done
