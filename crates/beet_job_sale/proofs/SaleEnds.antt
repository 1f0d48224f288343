-- How a sale that is read ends: its winner is one of its bidders.
use Rattle.std.proofs.Common.{◌≡◌, length, inl, inr, refl, arith, ◌∙◌}
use Rattle.std.proofs.lemmas.Bool.{cases_Bool}
use Rattle.std.proofs.lemmas.List.{length-map}
use Rattle.beet_masking.specs.Masks.{is_spent, mask_at}
use Rattle.beet_sale_plan.specs.Outcome.{IsSale}
use Rattle.beet_sale_plan.specs.Sale.{IsSaleSize, comparisons}
use Rattle.beet_sale_plan.specs.declared.SaleEnd.{SaleEnd}
use Rattle.beet_sale_plan.specs.declared.SaleEnd.TheVariants.{Sold, MasksSpent}
use Rattle.beet_sale_file.specs.Sales.{bids_of as bids_in}
use Rattle.beet_sale_map.specs.Bids.{bids_of, sale_over}
use Rattle.beet_errand.specs.Fetches.{IsDone}
use Rattle.beet_sale_load.specs.SaleLoading.{SaleRead}
use Rattle.beet_sale_run.specs.Results.{price_of, winner_of}
use Rattle.beet_sale_run.specs.SaleRuns.{finish_read}
use Rattle.beet_sale_run.proofs.ResultFacts.{sells-so}
use Rattle.beet_job_sale.specs.SaleAnswers.{status_of}
use Rattle.beet_job_sale.specs.SaleTexts.{IsOfBidders}

-- an end of a sale ends the job as one that is done
pub status-done : (end : SaleEnd) → IsDone (status_of end)
status-done (Sold winner price) = inl refl
status-done MasksSpent = inr refl

-- the winner of a sale that is read is one of its bidders
pub of-bidders : (read : SaleRead) → IsSaleSize (length read.sale.rows) → IsOfBidders read.sale.rows (finish_read read)
of-bidders read size =
    let bids = bids_of (bids_in read.sale.rows) in
    let many : length bids ≡ length read.sale.rows =
    length-map (bids_in read.sale.rows) (λ b. b.bid) ∙ length-map read.sale.rows (λ row. row.bid) in
    let s : IsSale bids (winner_of bids) (price_of bids) = sells-so bids (omega (arith, many, size.some)) in
    elim (cases_Bool (is_spent (mask_at read.words.masks) (comparisons (sale_over read.sale.gates (bids_in read.sale.rows))))) [
      | inl spent ↦ rw spent tt
      | inr sold ↦ rw sold (omega (arith, s.wins.counted), omega (arith, s.wins.counted, s.wins.there, many))
    ]
