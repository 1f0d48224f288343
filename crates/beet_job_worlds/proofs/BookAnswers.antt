-- The answer for two books.
use Rattle.std.proofs.Common.{◌≡◌, ℕ, List, Result, Ok, Err, IfOk, IfErr, refl}
use Rattle.std.proofs.lemmas.Result.{IfOk-weaker}
use Rattle.beet_field.specs.declared.point.Point.{Point}
use Rattle.beet_words.specs.Bundles.{Words, bundle_bytes}
use Rattle.beet_bids.specs.Books.{Book}
use Rattle.beet_auction.specs.Endings.{book_finish, book_rounds}
use Rattle.beet_run.specs.Outcomes.{outcome_answer}
use Rattle.beet_errand.specs.Worlds.{files_of_worlds, telling_equal}
use Rattle.beet_errand.specs.Errands.{Answer}
use Rattle.beet_errand.specs.Fetches.{IsDone}
use Rattle.beet_errand.specs.declared.answer.Stop.{Stop}
use Rattle.beet_errand.specs.declared.answer.Stop.TheVariants.{OutOfMemory}
use Rattle.beet_differences.specs.Comparing.{TellsApart}
use Rattle.beet_differences.proofs.Comparing.{apart-memory, apart-told, both-answers}
use Rattle.beet_two_books.specs.Agreement.{Agree}
use Rattle.beet_auction_map.specs.Disagreement.{RefusesMap}
use Rattle.beet_auction_map.specs.MappedWords.{IsOnlyFirst, IsOnlySecond, Mapped}
use Rattle.beet_two_books.specs.declared.agreeing.MapFault.{MapFault}
use Rattle.beet_two_books.specs.declared.agreeing.MapFault.TheVariants.{ShapeDiffers, OwnBidsDiffer, OutcomesDiffer}
use Rattle.beet_two_books.specs.declared.agreeing.MapFault.TheVariants.{OutOfMemory as MemoryOut}
use Rattle.beet_book_differences.specs.Differences.{difference_between, refused_text}
use Rattle.beet_job_worlds.specs.Answering.{ShowsTheSame, agreed_answer}
use Rattle.beet_view.specs.BookViews.{transcript_for}
use Rattle.beet_job_worlds.specs.Ending.{AnswersBooks}
use Rattle.beet_book_differences.specs.Refusals.{TellsRefusal}
use Rattle.beet_job_worlds.proofs.DifferenceFacts.{the-difference}
use Rattle.beet_run.proofs.StatusFacts.{status-done}

module _ (s : Point) (out : List ℕ) (first : Book) (words : Words) (second : Book) where
  -- the answer for books that agree
  pub agreed-answers : (mapped : Words) → Agree s first second → Mapped s first words second mapped →
      transcript_for second mapped s ≡ transcript_for first words s → IsOnlySecond s first words second mapped →
      IsOnlyFirst s first words second mapped → (result : Result Answer Stop) → IfErr result (λ stop. stop ≡ OutOfMemory) →
      IfOk result (λ answer. answer ≡ agreed_answer out first words (transcript_for first words s) mapped) →
      AnswersBooks s out first words second result
  agreed-answers mapped a m t only back result h e =
      both-answers refused_text (ShowsTheSame s out first words second) (difference_between s first second) result h
      (IfOk-weaker result _ _ (λ answer is. record {
        agree = a;
        second_words = mapped;
        mapped = m;
        only = only;
        back = back;
        seen = transcript_for first words s;
        first_seen = refl;
        second_seen = t;
        is = is;
      }) e)

  -- and it is that of a job that is done
  pub answered-done : (result : Result Answer Stop) → AnswersBooks s out first words second result →
      IfOk result (λ answer. IsDone answer.status)
  answered-done (Ok answer) h = rw h.is (status-done _)
  answered-done (Err stop) h = tt

-- the reply for books that agree
pub replies-agreed : (out : List ℕ) (first : Book) (words mapped : Words) (seen one two bytes : List ℕ) (told reply : Answer) →
    told ≡ outcome_answer first.grid (book_finish first words.masks) (book_rounds first words.masks) →
    one ≡ seen → two ≡ seen → bytes ≡ bundle_bytes mapped →
    reply ≡ telling_equal told (files_of_worlds out one two bytes) →
    reply ≡ agreed_answer out first words seen mapped
replies-agreed out first words mapped seen one two bytes told reply t a b w is = rw (is, t, a, b, w) refl

-- the line of a refusal tells the books apart
pub refused-answers : (s : Point) (first second : Book) (fault : MapFault) → RefusesMap s first second fault → (stop : Stop) →
    TellsRefusal fault stop → TellsApart refused_text (difference_between s first second) stop
refused-answers s first second (ShapeDiffers bidder) r stop t =
    apart-told refused_text _ (ShapeDiffers bidder) stop (the-difference s first second (ShapeDiffers bidder) r) t
refused-answers s first second (OwnBidsDiffer bidder) r stop t =
    apart-told refused_text _ (OwnBidsDiffer bidder) stop (the-difference s first second (OwnBidsDiffer bidder) r) t
refused-answers s first second (OutcomesDiffer one other) r stop t =
    apart-told refused_text _ (OutcomesDiffer one other) stop (the-difference s first second (OutcomesDiffer one other) r) t
refused-answers s first second MemoryOut r stop t = rw t (apart-memory refused_text (difference_between s first second))
