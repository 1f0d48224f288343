-- A file that is held and right reads to its value.
use Rattle.std.proofs.Common.{ℕ, List, Bool, length, if◌then◌else◌, ap, ◌∙◌}
use Rattle.std.proofs.lemmas.Bool.{le-ltb}
use Rattle.beet_store.specs.Files.{File}
use Rattle.beet_forms.specs.FaultLines.{fault_line_of}
use Rattle.beet_forms.specs.Faults.{Reading}
use Rattle.beet_errand.specs.Errands.{Answer, Errand, judged, reads, text_answer, too_long}
use Rattle.beet_errand.specs.declared.answer.Refusal.TheVariants.{BadFile}
use Rattle.beet_errand.specs.declared.answer.Status.TheVariants.{Refused}
use Rattle.beet_errand.specs.Overs.{ReadsTo, answer_over, answer_with}
use Rattle.beet_app_laws.specs.Held.{IsHeld}

module _ {A : Type 0} (files : List File) (name : List ℕ) (limit : ℕ) (grammar : List ℕ → Reading A) where
  abbrev pub refusal : Answer
  refusal = text_answer (Refused BadFile) (fault_line_of name too_long.place too_long.reason)

  abbrev pub after_bytes : (A → Errand) → List ℕ → Answer
  after_bytes next bytes = answer_over files (judged name (grammar bytes) next)

  pub reads-to : (value : A) → IsHeld files name limit grammar value → ReadsTo files (reads name limit grammar) value
  reads-to value h next =
      ap (answer_with name limit (after_bytes next)) h.held
      ∙ ap (λ (b : Bool). if b then refusal else after_bytes next h.bytes) (le-ltb limit (length h.bytes) h.short)
      ∙ ap (λ (r : Reading A). answer_over files (judged name r next)) h.is
