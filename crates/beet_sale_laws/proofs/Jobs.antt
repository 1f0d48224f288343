-- What is right for a job leads it to its end, job by job.
use Rattle.std.proofs.Common.{◌≡◌, ◌⊎◌, inl, inr, ◌∷◌, ℕ, Bool, List, [], Option, Some, if◌then◌else◌, ap, sym, subst, ◌∙◌}
use Rattle.beet_store.specs.Files.{File}
use Rattle.beet_sale_map.specs.Bids.{bids_of}
use Rattle.beet_sale_map.specs.declared.agreeing.SaleFault.{SaleFault}
use Rattle.beet_sale_plan.specs.declared.SaleEnd.TheVariants.{Sold, MasksSpent}
use Rattle.beet_command.specs.Words.{are_names}
use Rattle.beet_errand.specs.Errands.{Answer, Ends, Errand, answers}
use Rattle.beet_errand.specs.Fetches.{IsDone}
use Rattle.beet_errand.specs.Overs.{ReadsTo, answer_over}
use Rattle.beet_errand.specs.Statuses.{IsDoneCode, code_of}
use Rattle.beet_errand.specs.declared.answer.OwnRefusal.TheVariants.{OfWorlds}
use Rattle.beet_errand.specs.declared.answer.Status.{Status}
use Rattle.beet_errand.specs.declared.answer.Status.TheVariants.{Done}
use Rattle.beet_sale_load.specs.SaleLoading.{SaleRead, sale_errand as read_errand}
use Rattle.beet_sale_run.specs.Results.{price_of, winner_of}
use Rattle.beet_sale_run.specs.SaleRuns.{finish_read}
use Rattle.beet_job_sale.specs.SaleAnswers.{sold, status_of}
use Rattle.beet_job_sale.specs.Sales.{sale_errand}
use Rattle.beet_job_sale.proofs.SaleEnds.{status-done}
use Rattle.beet_job_sale_pair.specs.Ending.{ShowsPair, compared_errand, difference_read}
use Rattle.beet_job_sale_pair.specs.Reading.{Both, both_errand}
use Rattle.beet_job_sale_pair.proofs.DifferenceFacts.{no-difference, unless_differing}
use Rattle.beet_pair_words.specs.Jobs.{Comparing}
use Rattle.beet_pair_words.proofs.Naming.{errand-named, pair-named}
use Rattle.beet_app_laws.specs.Calls.{Call}
use Rattle.beet_app_laws.specs.Dues.{EndsAsDue}
use Rattle.beet_app_laws.proofs.Led.{read-to, run-led, shows-led}
use Rattle.beet_completeness_laws.specs.WithoutFault.{IsDoneOrShort}
use Rattle.beet_completeness_laws.proofs.Leading.{undisturbed, undisturbed-by}
use Rattle.beet_sale_laws.specs.Commands.{PutsBothSales, SaysTheSale, bids_in, pair_words, sale_words, second_bids}
use Rattle.beet_sale_laws.specs.Complete.{CanPair, CanHoldSale, IsWholeOrShort, MasksSufficeIn, RunsSaleWithoutFault}
use Rattle.beet_sale_laws.proofs.Saying.{RunsJob, puts-both, says}

-- a sale whose masks suffice is sold
masks-done : (read : SaleRead) → MasksSufficeIn read → Done ≡ status_of (finish_read read)
masks-done read few =
    let bids = bids_of (bids_in read) in
    ap (λ (b : Bool). status_of (if b then MasksSpent else Sold (winner_of bids) (price_of bids))) (sym few)

-- the status that is due is that of a job that is done
due-code : (status : ℕ) (due : Status) → IsDone due → status ≡ code_of due → IsDoneCode status
due-code status due (inl is) e = inl (e ∙ ap code_of is)
due-code status due (inr is) e = inr (e ∙ ap code_of is)

module _ (files : List File) (call : Call) where
  -- ---- sale

  module _ (name servers : List ℕ) (w : RunsSaleWithoutFault files (sale_words name servers) call) (read : SaleRead)
      (reads : ReadsTo files (read_errand name servers) read) where
    sale-due : EndsAsDue (status_of (finish_read read)) call.status
    sale-due =
        let errand = sale_errand name servers in
        run-led files call.shelf call.shelf_now w.from errand call.desk call.desk_now call.status (status_of (finish_read read))
        (ap (λ (a : Answer). a.status) (sym (reads (λ read. Ends (sold read)))))
        (errand-named (λ job. RunsJob job call) (are_names (name ∷ servers ∷ [])) errand w.job w.named w.runs)

    ends-whole : (call.status ≡ code_of (status_of (finish_read read))) ⊎ (call.status ≡ 1) →
        IsWholeOrShort (SaysTheSale files name servers call) call
    ends-whole (inl e) =
        let code = due-code call.status (status_of (finish_read read)) (status-done (finish_read read)) e in
        inl (code, says files call name servers (record { ran = record { from = w.from; runs = w.runs }; code = code }))
    ends-whole (inr e) = inr e

    pub sale-whole : IsWholeOrShort (SaysTheSale files name servers call) call
    sale-whole = ends-whole (undisturbed-by (status_of (finish_read read)) files (sale_words name servers) call w sale-due)

  pub sale : (name servers : List ℕ) → RunsSaleWithoutFault files (sale_words name servers) call →
      CanHoldSale files name servers → IsDoneOrShort call
  sale name servers w can =
      undisturbed files (sale_words name servers) call w
      (subst (λ (due : Status). EndsAsDue due call.status) (sym (masks-done can.read.value can.masks))
      (sale-due name servers w can.read.value can.read.is))

  -- ---- pair

  module _ (sale1 sale2 servers server out : List ℕ) (can : CanPair files sale1 sale2 servers server)
      (w : RunsSaleWithoutFault files (pair_words sale1 sale2 servers server out) call) where
    abbrev first : SaleRead
    first = can.both.value.first

    abbrev due : Status
    due = status_of (finish_read first)

    runs : RunsJob (Some (Comparing sale1 sale2 servers can.s out)) call
    runs = pair-named Comparing (λ job. RunsJob job call) sale1 sale2 servers server out can.s w.job can.server_is w.named w.runs

    -- what goes on from both sales to the end of the first
    abbrev ended : Both → Errand
    ended both = answers (status_of (finish_read both.first)) []

    compared-ends : due ≡ (answer_over files (compared_errand sale1 sale2 servers can.s ended)).status
    compared-ends =
        let next : Both → Errand = λ both. unless_differing (difference_read can.s both) (ended both) in
        sym (ap (λ (a : Answer). a.status) (can.both.is next
        ∙ ap (λ (d : Option SaleFault). answer_over files (unless_differing d (ended can.both.value)))
        (no-difference can.s (bids_in first) (second_bids can.both.value) can.agree)))

    pair-due : EndsAsDue due call.status
    pair-due =
        shows-led files call w.from due OfWorlds (compared_errand sale1 sale2 servers can.s) (ShowsPair sale1 sale2 servers can.s out)
        ended compared-ends (λ answer shows.
        let again = read-to files call.shelf call.shelf_now w.from (both_errand sale1 sale2 servers) shows.value shows.read in
        ap (λ (a : Answer). a.status) (sym (can.both.is ended) ∙ again ended) ∙ sym (ap (λ (a : Answer). a.status) shows.shown.is)) runs

    both-whole : (call.status ≡ code_of due) ⊎ (call.status ≡ 1) →
        IsWholeOrShort (PutsBothSales files sale1 sale2 servers can.s out call) call
    both-whole (inl e) =
        let code = due-code call.status due (status-done (finish_read first)) e in
        inl (code, puts-both files call w.from sale1 sale2 servers can.s out code runs)
    both-whole (inr e) = inr e

    pub pair-whole : IsWholeOrShort (PutsBothSales files sale1 sale2 servers can.s out call) call
    pair-whole = both-whole (undisturbed-by due files (pair_words sale1 sale2 servers server out) call w pair-due)

    pub pair : MasksSufficeIn first → IsDoneOrShort call
    pair masks =
        undisturbed files (pair_words sale1 sale2 servers server out) call w
        (subst (λ (due : Status). EndsAsDue due call.status) (sym (masks-done first masks)) pair-due)
