-- What each command of the program of sales has read, put and said.
use Rattle.std.proofs.Common.{◌≡◌, ℕ, List, [], ◌∷◌, ◌++◌, Bool, true, false, Option, Some, Ok}
use Rattle.std.proofs.Common.{if◌then◌else◌, refl, sym, ap, subst, ◌∙◌, arith}
use Rattle.std.specs.Prelude.{codes, option_map}
use Rattle.std.proofs.lemmas.List.{length-map}
use Rattle.beet_field.specs.Point.{server_of}
use Rattle.beet_field.specs.declared.point.Point.{Point}
use Rattle.beet_store.specs.Files.{File}
use Rattle.beet_words.specs.Bundles.{Words, bundle_bytes}
use Rattle.beet_gates.specs.declared.Gates.{Gates}
use Rattle.beet_sale_plan.specs.declared.SaleEnd.TheVariants.{Sold, MasksSpent}
use Rattle.beet_sale_file.specs.declared.rows.SaleBid.{SaleBid}
use Rattle.beet_sale_map.specs.Bids.{Agree, AreTwoSales, bids_of as numbers_of}
use Rattle.beet_highbid.specs.SalePairs.{AreOneSalePair}
use Rattle.beet_highbid.proofs.Pairs.{mapped-pair}
use Rattle.beet_command.specs.Words.{are_names}
use Rattle.beet_errand.specs.Errands.{Answer}
use Rattle.beet_errand.specs.Fetches.{IsRead}
use Rattle.beet_errand.specs.Statuses.{IsDoneCode, code_of}
use Rattle.beet_errand.specs.Overs.{ReadsTo}
use Rattle.beet_errand.specs.Worlds.{equal_text}
use Rattle.beet_errand.specs.declared.answer.OwnRefusal.TheVariants.{OfWorlds}
use Rattle.beet_sale_load.specs.SaleLoading.{SaleRead, sale_errand as read_errand}
use Rattle.beet_sale_run.specs.Results.{price_of, winner_of}
use Rattle.beet_sale_run.specs.SaleRuns.{finish_read, rounds_read}
use Rattle.beet_sale_run.proofs.ResultFacts.{sells-so}
use Rattle.beet_sale_run.proofs.Standings.{stands-right}
use Rattle.beet_job_sale.specs.SaleAnswers.{sold, status_of}
use Rattle.beet_job_sale.specs.SaleTexts.{sale_text}
use Rattle.beet_job_sale.specs.Sales.{sale_errand}
use Rattle.beet_job_sale_pair.specs.Answering.{ShowsTheSameSale, transcript_of}
use Rattle.beet_job_sale_pair.specs.Differences.{refused_text}
use Rattle.beet_job_sale_pair.specs.Ending.{ShowsPair, compared_errand, difference_read}
use Rattle.beet_job_sale_pair.specs.Reading.{Both, both_errand}
use Rattle.beet_job_sale_pair.proofs.DifferenceFacts.{no-difference}
use Rattle.beet_job_sale_pair.proofs.SaleAnswers.{answered-done}
use Rattle.beet_pair_words.specs.Jobs.{Answering, Comparing, Job}
use Rattle.beet_pair_words.proofs.Naming.{pair-at-server}
use Rattle.beet_sale_app.specs.Doing.{task_of}
use Rattle.beet_app_laws.specs.Calls.{Call, IsOf, Puts}
use Rattle.beet_app_laws.specs.Tables.{RunsJobBy}
use Rattle.beet_app_laws.proofs.Led.{read-to}
use Rattle.beet_program_laws.proofs.Compared.{undone}
use Rattle.beet_program_laws.proofs.Refusing.{refuses-worlds}
use Rattle.beet_program_laws.proofs.Ends.{WentOut, found, named-in, no-job, no-usage}
use Rattle.beet_program_laws.proofs.Ends.{shown-ends}
use Rattle.beet_sale_laws.specs.Commands.{IsDoneSale, PutsBothSales, RefusesBothSales, RunsSale, SaysTheSale}
use Rattle.beet_sale_laws.specs.Commands.{ServersSell, TellsTheSale, bids_in, is_spent, pair_words, sale_words, second_bids}
use Rattle.beet_sale_laws.proofs.Reading.{CanBeHeld, IsBoth, IsHeldSale, both-yield, is-both, sale-yield}

-- the call ran this job of the program of sales
abbrev pub RunsJob : Option Job → Call → Type 0
RunsJob = RunsJobBy task_of

-- ---- what is told of a sale

pub servers-sell : (gates : Gates) (bids : List SaleBid) (words : Words) → CanBeHeld bids words → ServersSell gates bids words
servers-sell gates bids words h = record {
  are_bids = h.are_bids;
  can_sell = h.can_sell;
  stands = λ es w s c given core. stands-right gates bids words h.are_bids h.can_sell es w s c given core;
}

end-tells : (spent : Bool) (winner price status : ℕ) → status ≡ code_of (status_of (if spent then MasksSpent else Sold winner price)) →
    (status ≡ 0 → spent ≡ false) × (status ≡ 6 → spent ≡ true)
end-tells true winner price status e = (λ f. absurd (omega (arith, e, f)), λ f. refl)
end-tells false winner price status e = (λ f. refl, λ f. absurd (omega (arith, e, f)))

pub tells : (read : SaleRead) (status : ℕ) → IsHeldSale read → status ≡ code_of (status_of (finish_read read)) →
    TellsTheSale read status (sale_text read.sale.rows (finish_read read) (rounds_read read))
tells read status h e =
    let bids = numbers_of (bids_in read) in
    let winner = winner_of bids in
    let price = price_of bids in
    let end = end-tells (is_spent read) winner price status e in
    let many = length-map (bids_in read) (λ (b : SaleBid). b.bid) in
    let some = h.are_bids.size.some in
    record {
      sold = λ f. (
        end.0 f,
        record {
          winner = winner;
          price = price;
          sale = sells-so bids (omega (arith, many, some));
          is = λ i. sale_text read.sale.rows (if end.0 f i then MasksSpent else Sold winner price) (rounds_read read);
        },
      );
      spent = λ f. (
        end.1 f,
        λ i. sale_text read.sale.rows (if end.1 f i then MasksSpent else Sold winner price) (rounds_read read),
      );
    }

module _ (files : List File) (call : Call) (name servers : List ℕ) where
  pub says : IsDoneSale files (sale_words name servers) call → SaysTheSale files name servers call
  says done =
      let from = done.ran.from in
      let r = named-in files call from done.code (λ e. task_of (option_map Answering e)) refl
      (are_names (name ∷ servers ∷ [])) (Some (sale_errand name servers)) done.ran.runs in
      let f = found files call from done.code (read_errand name servers) sold IsHeldSale (sale-yield files name servers) r in
      record {
        read = record { value = f.value; is = f.read };
        run = servers-sell f.value.sale.gates (bids_in f.value) f.value.words f.holds;
        text = sale_text f.value.sale.rows (finish_read f.value) (rounds_read f.value);
        tells = tells f.value call.status f.holds f.out.code;
        said = f.out.calls;
      }

-- ---- two sales

module _ (files : List File) (call : Call) (from : IsOf files call) (sale1 sale2 servers : List ℕ) (s : Point) (out : List ℕ) where
  module _ (both : Both) (read : ReadsTo files (both_errand sale1 sale2 servers) both) (h : IsBoth both) (answer : Answer)
      (same : ShowsTheSameSale s out both.first both.second answer) where
    abbrev gates : Gates
    gates = both.first.sale.gates

    abbrev first : List SaleBid
    first = bids_in both.first

    abbrev second : List SaleBid
    second = second_bids both

    abbrev words : Words
    words = both.first.words

    two : AreTwoSales s first second
    two = record { first_bids = h.one.are_bids; second_bids = h.other; agree = same.agree }

    pair : AreOneSalePair s gates first words second same.second_words
    pair = mapped-pair s gates first second words same.second_words two h.one.can_sell same.mapped

    pub puts : IsDoneCode call.status → WentOut answer call → PutsBothSales files sale1 sale2 servers s out call
    puts code put =
        let calls = subst (λ (a : Answer). Puts call a.files a.text) same.is put.calls in
        let own : same.seen ≡ transcript_of both.first.sale words s = sym same.first_seen in
        let other : same.seen ≡ transcript_of both.second same.second_words s = sym same.second_seen in
        record {
          read = record { value = both; is = read };
          gates = h.same;
          two = two;
          run = servers-sell gates first words h.one;
          second_words = same.second_words;
          pair = pair;
          same = same.second_seen ∙ own;
          text = sale_text both.first.sale.rows (finish_read both.first) (rounds_read both.first);
          tells = tells both.first call.status h.one (put.code ∙ ap (λ (a : Answer). code_of a.status) same.is);
          gives = subst (λ (l : List File). Puts call l (sale_text both.first.sale.rows (finish_read both.first)
              (rounds_read both.first) ++ equal_text))
              (λ i. (out ++ codes ".first", own i) ∷ (out ++ codes ".second", other i)
              ∷ (out ++ codes ".words", bundle_bytes same.second_words) ∷ []) calls;
        }

  shown : IsDoneCode call.status → (both : Both) (answer : Answer) →
      IsRead call.shelf call.shelf_now (both_errand sale1 sale2 servers) both →
      ShowsTheSameSale s out both.first both.second answer → WentOut answer call →
      PutsBothSales files sale1 sale2 servers s out call
  shown code both answer is-read same put =
      let read = read-to files call.shelf call.shelf_now from (both_errand sale1 sale2 servers) both is-read in
      puts both read (is-both files sale1 sale2 servers both read) answer same code put

  pub puts-both : IsDoneCode call.status → RunsJob (Some (Comparing sale1 sale2 servers s out)) call →
      PutsBothSales files sale1 sale2 servers s out call
  puts-both code r =
      shown-ends files call from code {C = PutsBothSales files sale1 sale2 servers s out call} OfWorlds
      (compared_errand sale1 sale2 servers s) (ShowsPair sale1 sale2 servers s out)
      (undone refused_text (difference_read s) (both_errand sale1 sale2 servers) files IsBoth
      (both-yield files sale1 sale2 servers))
      (λ answer shows put. shown code shows.value answer shows.read shows.shown put) r

  -- ---- a refusal

  refuses-both : (both : Both) → ReadsTo files (both_errand sale1 sale2 servers) both → call.status ≡ 7 →
      RunsJob (Some (Comparing sale1 sale2 servers s out)) call → RefusesBothSales s both call
  refuses-both both read e r =
      refuses-worlds refused_text (difference_read s) (both_errand sale1 sale2 servers) files call from both read e
      (Agree s (bids_in both.first) (second_bids both)) (no-difference s (bids_in both.first) (second_bids both))
      (ShowsPair sale1 sale2 servers s out)
      (λ answer shows. answered-done s out shows.value.first shows.value.second (Ok answer) shows.shown) r

module _ (files : List File) (call : Call) (sale1 sale2 servers server out : List ℕ) where
  pub puts-sales : IsDoneSale files (pair_words sale1 sale2 servers server out) call →
      (s : Point) × (server_of server ≡ Some s) × PutsBothSales files sale1 sale2 servers s out call
  puts-sales done =
      let from = done.ran.from in
      let (s, e, r) = pair-at-server Comparing (λ job. RunsJob job call) sale1 sale2 servers server out
      (λ r. no-job files call from done.code r) done.ran.runs in
      (s, e, puts-both files call from sale1 sale2 servers s out done.code r)

  pub refuses-sales : (both : Both) → RunsSale files (pair_words sale1 sale2 servers server out) call →
      ReadsTo files (both_errand sale1 sale2 servers) both → call.status ≡ 7 →
      (s : Point) × (server_of server ≡ Some s) × RefusesBothSales s both call
  refuses-sales both ran read e =
      let (s, is, r) = pair-at-server Comparing (λ job. RunsJob job call) sale1 sale2 servers server out
      (λ r. no-usage files call ran.from e r) ran.runs in
      (s, is, refuses-both files call ran.from sale1 sale2 servers s out both read e r)
