-- The answer for two sales.
use Rattle.std.proofs.Common.{◌≡◌, ◌≤◌, ℕ, List, [], ◌∷◌, map, take, length, Result, Ok, Err, IfOk, IfErr, refl, ap, arith}
use Rattle.std.specs.Prelude.{All}
use Rattle.std.proofs.lemmas.Result.{IfOk-weaker}
use Rattle.std.proofs.lemmas.List.{length-take}
use Rattle.std.proofs.lemmas.List.Elements.{All-cons, All-nil}
use Rattle.beet_field.specs.declared.point.Point.{Point}
use Rattle.beet_words.specs.Bundles.{FitsBundle, IsShort, Words, bundle_bytes}
use Rattle.beet_sale_plan.specs.declared.SaleEnd.{SaleEnd}
use Rattle.beet_sale_file.specs.Sales.{SaleRecord, bids_of}
use Rattle.beet_sale_file.specs.declared.rows.SaleBid.{SaleBid}
use Rattle.beet_sale_map.specs.Bids.{Agree, AreSaleBids}
use Rattle.beet_sale_map.specs.Disagreement.{RefusesMap}
use Rattle.beet_sale_map.specs.Enough.{AreEnough, cut_words}
use Rattle.beet_sale_map.specs.Worlds.{IsOnlyFirst, IsOnlySecond, Mapped}
use Rattle.beet_sale_map.specs.declared.agreeing.SaleFault.{SaleFault}
use Rattle.beet_sale_map.specs.declared.agreeing.SaleFault.TheVariants.{ShapeDiffers, OwnBidsDiffer, SalesDiffer}
use Rattle.beet_sale_map.specs.declared.agreeing.SaleFault.TheVariants.{OutOfMemory as MemoryOut}
use Rattle.beet_errand.specs.Errands.{Answer}
use Rattle.beet_errand.specs.Fetches.{IsDone}
use Rattle.beet_errand.specs.Worlds.{files_of_worlds, telling_equal}
use Rattle.beet_errand.specs.declared.answer.Stop.{Stop}
use Rattle.beet_errand.specs.declared.answer.Stop.TheVariants.{OutOfMemory}
use Rattle.beet_differences.specs.Comparing.{TellsApart}
use Rattle.beet_differences.proofs.Comparing.{apart-memory, apart-told, both-answers}
use Rattle.beet_sale_load.specs.SaleLoading.{SaleRead}
use Rattle.beet_sale_run.specs.SaleRuns.{finish_read, rounds_read}
use Rattle.beet_job_sale.specs.SaleAnswers.{end_answer}
use Rattle.beet_job_sale.proofs.SaleEnds.{status-done}
use Rattle.beet_job_sale_pair.specs.Differences.{difference_between, refused_text}
use Rattle.beet_job_sale_pair.specs.Answering.{ShowsTheSameSale, agreed_answer, transcript_of}
use Rattle.beet_job_sale_pair.specs.Ending.{AnswersSales, TellsRefusal}
use Rattle.beet_job_sale_pair.proofs.DifferenceFacts.{the-difference}

module _ (s : Point) (out : List ℕ) (first : SaleRead) (second : SaleRecord) where
  -- the answer for sales that agree
  pub agreed-answers : (mapped : Words) → Agree s (bids_of first.sale.rows) (bids_of second.rows) →
      Mapped s first.sale.gates (bids_of first.sale.rows) first.words (bids_of second.rows) mapped →
      transcript_of second mapped s ≡ transcript_of first.sale first.words s →
      IsOnlySecond s first.sale.gates (bids_of first.sale.rows) first.words (bids_of second.rows) mapped →
      IsOnlyFirst s first.sale.gates (bids_of first.sale.rows) first.words (bids_of second.rows) mapped →
      (result : Result Answer Stop) → IfErr result (λ stop. stop ≡ OutOfMemory) →
      IfOk result (λ answer. answer ≡ agreed_answer out first (transcript_of first.sale first.words s) mapped) →
      AnswersSales s out first second result
  agreed-answers mapped a m t only back result h e =
      both-answers refused_text (ShowsTheSameSale s out first second) (difference_between s (bids_of first.sale.rows) (bids_of second.rows))
      result h
      (IfOk-weaker result _ _ (λ answer is. record {
        agree = a;
        second_words = mapped;
        mapped = m;
        only = only;
        back = back;
        seen = transcript_of first.sale first.words s;
        first_seen = refl;
        second_seen = t;
        is = is;
      }) e)

  -- and it is that of a job that is done
  pub answered-done : (result : Result Answer Stop) → AnswersSales s out first second result →
      IfOk result (λ answer. IsDone answer.status)
  answered-done (Ok answer) h = rw h.is (status-done (finish_read first))
  answered-done (Err stop) h = tt

-- the reply for sales that agree
pub replies-agreed : (out : List ℕ) (first : SaleRead) (mapped : Words) (seen one two bytes : List ℕ) (end : SaleEnd) (rounds : ℕ)
    (told reply : Answer) →
    end ≡ finish_read first → rounds ≡ rounds_read first → one ≡ seen → two ≡ seen → bytes ≡ bundle_bytes mapped →
    told ≡ end_answer first.sale.rows end rounds → reply ≡ telling_equal told (files_of_worlds out one two bytes) →
    reply ≡ agreed_answer out first seen mapped
replies-agreed out first mapped seen one two bytes end rounds told reply f r a b w t is = rw (is, t, f, r, a, b, w) refl

-- the line of a refusal tells the sales apart
pub refused-answers : (s : Point) (first second : List SaleBid) (fault : SaleFault) → RefusesMap s first second fault →
    (stop : Stop) → TellsRefusal fault stop → TellsApart refused_text (difference_between s first second) stop
refused-answers s first second (ShapeDiffers bidder) r stop t =
    apart-told refused_text _ (ShapeDiffers bidder) stop (the-difference s first second (ShapeDiffers bidder) r) t
refused-answers s first second (OwnBidsDiffer bidder) r stop t =
    apart-told refused_text _ (OwnBidsDiffer bidder) stop (the-difference s first second (OwnBidsDiffer bidder) r) t
refused-answers s first second (SalesDiffer one other) r stop t =
    apart-told refused_text _ (SalesDiffer one other) stop (the-difference s first second (SalesDiffer one other) r) t
refused-answers s first second MemoryOut r stop t = rw t (apart-memory refused_text (difference_between s first second))

-- a list that is cut to so many has no more
few : (n : ℕ) (words : List ℕ) → take n words ≡ words → length words ≤ n
few n words cut = omega (arith, length-take n words, ap length cut)

lists-few : (n : ℕ) (lists : List (List ℕ)) → n ≤ 16384 → map (take n) lists ≡ lists → All IsShort lists
lists-few n [] le e = All-nil IsShort
lists-few n (l ∷ ls) le e =
    let here : take n l ≡ l = cc e in
    let rest : map (take n) ls ≡ ls = cc e in
    All-cons IsShort l ls (omega (arith, few n l here, le)) (lists-few n ls le rest)

-- words that are enough and no more than are kept can stand in a bundle
pub bundle-fits : (bids : List SaleBid) (words : Words) → AreSaleBids bids → AreEnough bids words → cut_words bids words ≡ words →
    FitsBundle words
bundle-fits bids words are enough cut = record {
  count = omega (arith, enough.count, are.size.few);
  masks = (
    omega (arith, few _ words.masks.one (ap (λ (w : Words). w.masks.one) cut), are.size.few),
    omega (arith, few _ words.masks.two (ap (λ (w : Words). w.masks.two) cut), are.size.few),
    omega (arith, few _ words.masks.three (ap (λ (w : Words). w.masks.three) cut), are.size.few),
  );
  coefficients = (
    omega (arith, few _ words.coefficients.one (ap (λ (w : Words). w.coefficients.one) cut), are.size.few),
    omega (arith, few _ words.coefficients.two (ap (λ (w : Words). w.coefficients.two) cut), are.size.few),
    omega (arith, few _ words.coefficients.three (ap (λ (w : Words). w.coefficients.three) cut), are.size.few),
  );
  bidders = lists-few 9 words.bidders (omega arith) (ap (λ (w : Words). w.bidders) cut);
}
