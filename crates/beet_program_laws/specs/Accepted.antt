-- An audit of the transcripts that a run has put.
use Rattle.std.specs.Prelude.{◌≡◌, ◌≢◌, ◌⊎◌, ◌++◌, ℕ, List, [], ◌∷◌, codes, Some, None}
use Rattle.beet_field.specs.declared.point.Point.TheVariants.{One, Two, Three}
use Rattle.beet_field.specs.declared.trio.Trio.{Trio}
use Rattle.beet_store.specs.Files.{File, bytes_of}
use Rattle.beet_store.specs.Desks.{Given}
use Rattle.beet_bids.specs.Grids.{Grid}
use Rattle.beet_errand.specs.Errands.{file_for}
use Rattle.beet_audit.specs.declared.fault.AuditFault.{AuditFault}
use Rattle.beet_job_audit.specs.Refusals.{fault_text}
use Rattle.beet_witness_laws.specs.PointAudits.{FindsOfPoints, IsOfPoints}
use Rattle.beet_witness_laws.specs.SealedCurves.{BidCurves}
use Rattle.beet_app.specs.Jobs.{job_of}
use Rattle.beet_app_laws.specs.Calls.{Call, IsOf, Puts, RunsJobOf, Says}
use Rattle.beet_app_laws.specs.Readings.{OpenRead}
use Rattle.beet_program_laws.specs.Outcomes.{three_files}

-- the words of an audit of four files
abbrev pub audit_words : List ℕ → List ℕ → List ℕ → List ℕ → List (List ℕ)
audit_words auction one two three = codes "audit" ∷ auction ∷ one ∷ two ∷ three ∷ []

-- the words of the auction of the envelopes of a list, whose transcripts are put
abbrev pub witness_words : List ℕ → List ℕ → List ℕ → List ℕ → List (List ℕ)
witness_words auction servers list out = codes "witness" ∷ auction ∷ servers ∷ list ∷ out ∷ []

-- under these names an auditor holds the file of the auction as it was when the run was recorded, and three transcripts
pub record HoldsRun (files held : List File) (auction : List ℕ) (transcripts : Trio (List ℕ))
    (name one two three : List ℕ) : Type 0 where
  pub auction_file : bytes_of held name ≡ bytes_of files auction
  pub first : bytes_of held one ≡ Some transcripts.one
  pub second : bytes_of held two ≡ Some transcripts.two
  pub third : bytes_of held three ≡ Some transcripts.three

-- an audit ends with the status of the run, unless memory ran out, a file could not be fetched or a call of the desk
-- failed; and then it says the text of the run, and puts nothing
pub record AuditsAlike (status : ℕ) (text : List ℕ) (audit : Call) : Type 0 where
  pub ends : (audit.status ≡ status) ⊎ (audit.status ≡ 1) ⊎ (audit.status ≡ 3) ⊎ (audit.status ≡ 4)
  pub says : audit.status ≡ status → Says audit text

-- a desk that tells its files holds three transcripts, each in its file, and a text was said
pub record Stand (out : List ℕ) (transcripts : Trio (List ℕ)) (text : List ℕ) (before after : Given) : Type 0 where
  pub first : bytes_of after.files (file_for out One) ≡ Some transcripts.one
  pub second : bytes_of after.files (file_for out Two) ≡ Some transcripts.two
  pub third : bytes_of after.files (file_for out Three) ≡ Some transcripts.three
  pub said : after.said ≡ before.said ++ text

-- a run has put three transcripts and said a text, and so ends each audit of these transcripts, by that text
pub record IsAudited (files : List File) (auction out : List ℕ) (call : Call) (Ends : List ℕ → Call → Type 0) :
    Type 0 where
  pub transcripts : Trio (List ℕ)
  pub text : List ℕ
  pub gives : Puts call (three_files out transcripts) text
  pub stand : (before after : Given) → call.desk.given ≡ Some before → call.desk_now.given ≡ Some after →
      Stand out transcripts text before after
  pub audited : (held : List File) (audit : Call) (name one two three : List ℕ) →
      HoldsRun files held auction transcripts name one two three →
      job_of (audit_words name one two three) ≢ None →
      IsOf held audit → RunsJobOf (audit_words name one two three) audit → Ends text audit

-- whoever audits what a recorded run has put is told what the run told
abbrev pub IsAccepted : List File → List ℕ → List ℕ → Call → Type 0
IsAccepted files auction out call = IsAudited files auction out call (AuditsAlike call.status)

-- an audit of what servers saw of these points ends with the status of their run or with 8, unless memory ran out, a
-- file could not be fetched or a call of the desk failed. With that of the run it has found curves, and says the text
-- of the run; with 8 it says the line of the first bidder whose points are those of no curve
pub record AuditsPoints (grid : Grid) (bidders : List (Trio (List ℕ))) (status : ℕ) (text : List ℕ) (audit : Call) :
    Type 0 where
  pub ends : (audit.status ≡ status) ⊎ (audit.status ≡ 8) ⊎ (audit.status ≡ 1) ⊎ (audit.status ≡ 3)
      ⊎ (audit.status ≡ 4)
  pub accepted : audit.status ≡ status → BidCurves grid bidders × Says audit text
  pub refused : audit.status ≡ 8 → (fault : AuditFault) × IsOfPoints fault × FindsOfPoints grid bidders (Some fault)
      × Says audit (fault_text fault)
  pub curves : BidCurves grid bidders → audit.status ≢ 8

-- the files of envelopes read as these, and an audit of what was put for their points ends as the points say
pub record IsAuditedByPoints (files : List File) (auction servers list out : List ℕ) (call : Call) : Type 0 where
  pub read : OpenRead files auction servers list
  pub audits : IsAudited files auction out call (AuditsPoints read.grid.value read.bidders.value call.status)
