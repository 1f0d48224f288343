-- What the servers begin with, and the answer of the job.
use Rattle.std.proofs.Common.{◌≡◌, ℕ, List, [], ◌∷◌, sym, ◌∙◌, ap, subst}
use Rattle.beet_field.specs.Trio.{member}
use Rattle.beet_field.specs.declared.point.Point.{Point}
use Rattle.beet_field.specs.declared.point.Point.TheVariants.{One, Two, Three}
use Rattle.beet_field.specs.declared.trio.Trio.{Trio}
use Rattle.beet_bids.specs.Grids.{Grid}
use Rattle.beet_book.specs.PointSums.{inputs_at}
use Rattle.beet_book.specs.Totals.{Totals, wires_of}
use Rattle.beet_masking.specs.Masks.{AreMasks}
use Rattle.beet_plan.specs.Auction.{auction_over}
use Rattle.beet_errand.specs.Errands.{file_for}
use Rattle.beet_auction.specs.AnyPoints.{points_finish, points_rounds}
use Rattle.beet_load.specs.Servers.{ServerWords, masks_of}
use Rattle.beet_run.specs.Runs.{EndsAuction}
use Rattle.beet_view.specs.Transcripts.{view_bytes}
use Rattle.beet_view.specs.declared.view.Seen.{Seen}
use Rattle.beet_transcripts.specs.RunsOn.{answer_on, file_on, view_of_points, view_on}
use Rattle.beet_gathering.proofs.PointRuns.{points-end, sums-first}
use Rattle.beet_gathering.specs.Opened.{opened_answer}
use Rattle.beet_job_witness.specs.Witness.{KeepsPoints, witnessed_answer, witnessed_file}

module _ (grid : Grid) (totals : Totals) (seen : Trio (List Seen)) (bidders : List (Trio (List ℕ)))
    (kept : KeepsPoints grid totals seen bidders) where
  module _ (inputs : Trio (List ℕ)) (are : inputs ≡ wires_of totals) (words : Trio ServerWords) where
    first : inputs ≡ inputs_at grid.prices bidders
    first = sums-first grid totals bidders inputs kept.sums are

    -- their run ends with what the points open
    pub ends-kept : AreMasks (masks_of words) →
        EndsAuction grid inputs words (points_finish (auction_over grid) (inputs_at grid.prices bidders) (masks_of words))
        (points_rounds (auction_over grid) (inputs_at grid.prices bidders) (masks_of words))
    ends-kept masks =
        subst (λ (x : Trio (List ℕ)). EndsAuction grid x words
        (points_finish (auction_over grid) (inputs_at grid.prices bidders) (masks_of words))
        (points_rounds (auction_over grid) (inputs_at grid.prices bidders) (masks_of words)))
        (sym first) (points-end grid bidders words masks)

    -- and what is answered for it is the answer of the job
    pub answer-witnessed : (out : List ℕ) →
        answer_on out grid inputs words seen (points_finish (auction_over grid) (inputs_at grid.prices bidders) (masks_of words))
        (points_rounds (auction_over grid) (inputs_at grid.prices bidders) (masks_of words))
        ≡ witnessed_answer out grid words bidders
    answer-witnessed out =
        let view : (s : Point) → view_on grid inputs words (member seen s) s ≡ view_of_points grid bidders words s = λ s.
        ap (λ (x : Trio (List ℕ)). view_on grid x words (member seen s) s) first
        ∙ ap (λ (l : List Seen). view_on grid (inputs_at grid.prices bidders) words l s) (kept.shown s) in
        let file : (s : Point) → file_on out grid inputs words seen s ≡ witnessed_file out grid words bidders s = λ s j.
        (file_for out s, view_bytes (view s j)) in
        λ j. record (opened_answer grid words bidders) { files = file One j ∷ file Two j ∷ file Three j ∷ [] }
