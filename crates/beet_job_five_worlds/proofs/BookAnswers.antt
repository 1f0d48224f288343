-- The answer for two books.
use Rattle.std.proofs.Common.{◌≡◌, ◌≤◌, ◌<◌, ℕ, List, Result, Ok, Err, IfOk, IfErr}
use Rattle.std.proofs.lemmas.Result.{IfOk-weaker}
use Rattle.beet_bids.specs.Books.{Book, IsBook}
use Rattle.beet_errand.specs.Errands.{Answer}
use Rattle.beet_errand.specs.Fetches.{IsDone}
use Rattle.beet_errand.specs.declared.answer.Stop.{Stop}
use Rattle.beet_errand.specs.declared.answer.Stop.TheVariants.{OutOfMemory}
use Rattle.beet_differences.proofs.Comparing.{both-answers}
use Rattle.beet_run.proofs.StatusFacts.{status-done}
use Rattle.beet_five_dealing.specs.FiveWords.{FiveWords}
use Rattle.beet_five_map.specs.FiveWorlds.{Agree, AreOnePair}
use Rattle.beet_five_view.proofs.SameViews.{joint-same}
use Rattle.beet_five_load.specs.FiveLoading.{FiveRead}
use Rattle.beet_job_five_worlds.specs.Answering.{ShowsTheSameForTwo, agreed_answer}
use Rattle.beet_book_differences.specs.Differences.{refused_text}
use Rattle.beet_job_five_worlds.specs.Ending.{AnswersForTwo, difference_for_two}

module _ (a b : ℕ) (out : List ℕ) (first : FiveRead) (second : Book) where
  -- the answer for books that agree shows that they look the same
  pub agreed-answers : 1 ≤ a → a < b → b ≤ 5 → IsBook first.book → IsBook second → (mapped : FiveWords) → Agree a b first.book second →
      AreOnePair a b first.book first.words second mapped → (result : Result Answer Stop) → IfErr result (λ stop. stop ≡ OutOfMemory) →
      IfOk result (λ answer. answer ≡ agreed_answer a b out first second mapped) → AnswersForTwo a b out first second result
  agreed-answers some less few one two mapped agree pair result memory made =
      both-answers refused_text (ShowsTheSameForTwo a b out first second) (difference_for_two a b first.book second) result memory
      (IfOk-weaker result _ _
      (λ answer is. record {
        agree = agree;
        second_words = mapped;
        pair = pair;
        views = joint-same a b some less few first.book second first.words mapped
            (record { first_book = one; second_book = two; agree = agree }) pair;
        is = is;
      }) made)

  -- and it is that of a job that is done
  pub answered-done : (result : Result Answer Stop) → AnswersForTwo a b out first second result →
      IfOk result (λ answer. IsDone answer.status)
  answered-done (Ok answer) h = rw h.is (status-done _)
  answered-done (Err stop) h = tt
