-- What an audit finds of the transcripts that are put for points in envelopes.
use Rattle.std.specs.Prelude.{◌≡◌, ◌⊎◌, ℕ, List, length, slice_index_or, Option, Some, None}
use Rattle.beet_field.specs.Trio.{trio_of}
use Rattle.beet_field.specs.declared.trio.Trio.{Trio}
use Rattle.beet_bids.specs.Grids.{Grid}
use Rattle.beet_errand.specs.Errands.{Answer, text_answer}
use Rattle.beet_errand.specs.declared.answer.OwnRefusal.TheVariants.{OfAudit}
use Rattle.beet_errand.specs.declared.answer.Refusal.TheVariants.{Own}
use Rattle.beet_errand.specs.declared.answer.Status.TheVariants.{Refused}
use Rattle.beet_load.specs.Servers.{ServerWords}
use Rattle.beet_transcripts.specs.RunsOn.{view_of_points}
use Rattle.beet_audit.specs.Audits.{Lines, Monotone}
use Rattle.beet_audit.specs.Verdicts.{EachBelow, InTurn}
use Rattle.beet_audit.specs.declared.fault.AuditFault.{AuditFault}
use Rattle.beet_audit.specs.declared.fault.AuditFault.TheVariants.{NotALine, NotMonotone}
use Rattle.beet_audit.specs.declared.fault.Side.{Side}
use Rattle.beet_audit.specs.declared.fault.Side.TheVariants.{Buy, Sell}
use Rattle.beet_job_audit.specs.Refusals.{fault_text}
use Rattle.beet_job_audit.specs.declared.reading.ReadViews.{ReadViews}
use Rattle.beet_gathering.specs.Opened.{opened_answer}
use Rattle.beet_witness_laws.specs.SealedCurves.{no_points}

-- the points of one bidder: first whether they lie on lines, buy and then sell, and then whether the values are a curve
abbrev pub OnePoints : ℕ → ℕ → Trio (List ℕ) → Option AuditFault → Type 0
OnePoints prices i points =
    InTurn (Lines prices i points Buy) (InTurn (Lines prices i points Sell) (Monotone prices i points))

-- the first bidder whose points are those of no curve, by the first thing that is wrong with them; or that there is
-- none
abbrev pub FindsOfPoints : Grid → List (Trio (List ℕ)) → Option AuditFault → Type 0
FindsOfPoints grid bidders =
    EachBelow (length bidders) (λ i. OnePoints grid.prices i (slice_index_or bidders i no_points))

-- the refusals of the numbers 2 and 3: three points on no line, and a value that no curve has at its place
abbrev pub IsOfPoints : AuditFault → Type 0
IsOfPoints fault =
    ((bidder place : ℕ) × (side : Side) × (fault ≡ NotALine bidder place side))
    ⊎ ((bidder place : ℕ) × (fault ≡ NotMonotone bidder place))

-- what an auditor reads of the transcripts that are put for these points
abbrev pub views_of_points : Grid → List (Trio (List ℕ)) → Trio ServerWords → ReadViews
views_of_points grid bidders words = record { grid = grid; views = trio_of (view_of_points grid bidders words) }

-- the answer for them: what `witness` said if nothing is wrong with the points, and else the refusal of what is
abbrev pub points_answer : Grid → List (Trio (List ℕ)) → Trio ServerWords → Option AuditFault → Answer
points_answer grid bidders words None = opened_answer grid words bidders
points_answer grid bidders words (Some fault) = text_answer (Refused (Own OfAudit)) (fault_text fault)

-- an answer that tells the first thing that is wrong with the points, or that nothing is
pub record AnswersPoints (grid : Grid) (bidders : List (Trio (List ℕ))) (words : Trio ServerWords) (answer : Answer) :
    Type 0 where
  pub found : Option AuditFault
  pub finds : FindsOfPoints grid bidders found
  pub is : answer ≡ points_answer grid bidders words found
