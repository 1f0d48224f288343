-- What the job `five_worlds` has read, put and said.
use Rattle.std.proofs.Common.{◌≡◌, ℕ, List, [], ◌∷◌, Option, Some, Bool}
use Rattle.std.proofs.Common.{sym, ap, subst, ◌∙◌}
use Rattle.beet_store.specs.Files.{File}
use Rattle.beet_bids.specs.Books.{IsBook}
use Rattle.beet_two_books.specs.declared.agreeing.MapFault.{MapFault}
use Rattle.beet_five_view.specs.JointViews.{joint_bytes}
use Rattle.beet_errand.specs.Errands.{Answer}
use Rattle.beet_errand.specs.Fetches.{IsDone, IsRead}
use Rattle.beet_errand.specs.Overs.{ReadsTo}
use Rattle.beet_errand.specs.Statuses.{IsDoneCode, code_of}
use Rattle.beet_errand.specs.declared.answer.OwnRefusal.TheVariants.{OfWorlds}
use Rattle.beet_five_load.specs.FiveLoading.{five_limited_errand}
use Rattle.beet_run.proofs.StatusFacts.{status-done}
use Rattle.beet_coalition.specs.Lists.{at_server}
use Rattle.beet_five_map.specs.FiveWorlds.{Agree}
use Rattle.beet_five_auction.specs.FiveEndings.{book_finish}
use Rattle.beet_five_run.specs.FiveOutcomes.{cleared_by_five}
use Rattle.beet_book_differences.specs.Differences.{refused_text}
use Rattle.beet_job_five_worlds.specs.Answering.{ShowsTheSameForTwo}
use Rattle.beet_job_five_worlds.specs.Ending.{ShowsFiveWorlds, compared_errand, difference_for_two}
use Rattle.beet_job_five_worlds.specs.Reading.{BothOfFive, both_errand, second_book}
use Rattle.beet_job_five_worlds.proofs.DifferenceForTwo.{no-difference}
use Rattle.beet_command.specs.Words.{are_names}
use Rattle.beet_app.specs.Jobs.{ComparingForTwo, Job, two_of_five}
use Rattle.beet_app_laws.proofs.Led.{read-to}
use Rattle.beet_app_laws.proofs.Telling.{told-both-of-five}
use Rattle.beet_app_laws.specs.Calls.{Call, IsDoneCall, IsOf, Puts, RunsJob, RunsJobOf}
use Rattle.beet_program_laws.specs.Commands.{PutsBothWorldsForTwo, five_worlds_words}
use Rattle.beet_program_laws.specs.Refusals.{RefusesBooksForTwo}
use Rattle.beet_program_laws.proofs.Compared.{is-right, undone}
use Rattle.beet_program_laws.proofs.Refusing.{by-words, refuses-worlds}
use Rattle.beet_program_laws.proofs.Ends.{WentOut, no-job, no-usage, shown-ends}
use Rattle.beet_program_laws.proofs.Ends.{tells-of-five}
use Rattle.beet_program_laws.proofs.Fives.{IsRight, five-limited-yield, five-open}
use Rattle.beet_program_laws.proofs.Read.{second-yield}
use Rattle.beet_program_laws.proofs.Steps.{AreBoth, Yields}

-- ---- both books

abbrev pub IsBoth : BothOfFive → Type 0
IsBoth both = AreBoth IsRight IsBook both.first (second_book both)

both-yield : (files : List File) (auction servers list1 list2 : List ℕ) →
    Yields files (both_errand auction servers list1 list2) IsBoth
unfolding both_errand
both-yield files auction servers list1 list2 =
    second-yield files (five_limited_errand auction servers list1) (λ first. first.book.grid) list2
    (λ first second. record { first = first; second = second }) IsRight IsBoth (five-limited-yield files auction servers list1)
    (λ first second h k. record { first = h; second = k })

-- what was read of both books is right
pub is-both : (files : List File) (auction servers list1 list2 : List ℕ) (both : BothOfFive) →
    ReadsTo files (both_errand auction servers list1 list2) both → IsBoth both
is-both files auction servers list1 list2 =
    is-right (both_errand auction servers list1 list2) files IsBoth (both-yield files auction servers list1 list2)
    told-both-of-five

-- the first thing by which two servers tell both books apart
abbrev pub difference_read : ℕ × ℕ → BothOfFive → Option MapFault
difference_read two both = difference_for_two two.0 two.1 both.first.book (second_book both)

module _ (files : List File) (call : Call) (from : IsOf files call) (auction servers list1 list2 : List ℕ) (two : ℕ × ℕ)
    (out : List ℕ) where
  abbrev Compared : Type 0
  Compared = PutsBothWorldsForTwo files auction servers list1 list2 two.0 two.1 out call

  shown : (both : BothOfFive) (answer : Answer) →
      IsRead call.shelf call.shelf_now (both_errand auction servers list1 list2) both →
      ShowsTheSameForTwo two.0 two.1 out both.first (second_book both) answer → WentOut answer call → Compared
  shown both answer is-read same put =
      let read = read-to files call.shelf call.shelf_now from (both_errand auction servers list1 list2) both is-read in
      let h = is-both files auction servers list1 list2 both read in
      record {
        both = both;
        read = read;
        two = record { first_book = h.first.0; second_book = h.second; agree = same.agree };
        run = five-open both.first h.first;
        second_words = same.second_words;
        look = record { pair = same.pair; views = same.views; transcripts = ap joint_bytes same.views };
        text = (cleared_by_five both.first).text;
        tells = tells-of-five both.first.book both.first.words call.status
            (put.code ∙ ap (λ (a : Answer). code_of a.status) same.is);
        gives = subst (λ (a : Answer). Puts call a.files a.text) same.is put.calls;
      }

  puts-both : IsDoneCode call.status → RunsJob (Some (ComparingForTwo auction servers list1 list2 two out)) call → Compared
  puts-both w r =
      shown-ends files call from w {C = Compared} OfWorlds (compared_errand auction servers list1 list2 two.0 two.1)
      (ShowsFiveWorlds auction servers list1 list2 two.0 two.1 out)
      (undone refused_text (difference_read two) (both_errand auction servers list1 list2) files IsBoth
      (both-yield files auction servers list1 list2))
      (λ answer shows put. shown shows.value answer shows.read shows.shown put) r

  -- ---- a refusal

  refuses-both : (both : BothOfFive) → ReadsTo files (both_errand auction servers list1 list2) both → call.status ≡ 7 →
      RunsJob (Some (ComparingForTwo auction servers list1 list2 two out)) call → RefusesBooksForTwo two.0 two.1 both call
  refuses-both both read e r =
      refuses-worlds refused_text (difference_read two) (both_errand auction servers list1 list2) files call from both read e
      (Agree two.0 two.1 both.first.book (second_book both))
      (no-difference two.0 two.1 both.first.book (second_book both))
      (ShowsFiveWorlds auction servers list1 list2 two.0 two.1 out)
      (λ answer shows. subst IsDone (sym (ap (λ (a : Answer). a.status) shows.shown.is))
      (status-done (book_finish shows.value.first.book (at_server shows.value.first.words.masks)))) r

-- ---- the words

module _ (files : List File) (call : Call) (auction servers list1 list2 one other out : List ℕ) where
  abbrev job_for : ℕ × ℕ → Job
  job_for two = ComparingForTwo auction servers list1 list2 two out

  abbrev names : Bool
  names = are_names (auction ∷ servers ∷ list1 ∷ list2 ∷ out ∷ [])

  pub puts-for-two : IsDoneCall files (five_worlds_words auction servers list1 list2 one other out) call →
      (two : ℕ × ℕ) × (two_of_five one other ≡ Some two)
      × PutsBothWorldsForTwo files auction servers list1 list2 two.0 two.1 out call
  puts-for-two done =
      let (two, e, r) =
      by-words job_for call (two_of_five one other) (λ r. no-job files call done.from done.code r) names done.runs in
      (two, e, puts-both files call done.from auction servers list1 list2 two out done.code r)

  pub refuses-for-two : (both : BothOfFive) → IsOf files call →
      RunsJobOf (five_worlds_words auction servers list1 list2 one other out) call →
      ReadsTo files (both_errand auction servers list1 list2) both → call.status ≡ 7 →
      (two : ℕ × ℕ) × (two_of_five one other ≡ Some two) × RefusesBooksForTwo two.0 two.1 both call
  refuses-for-two both from ran read seven =
      let (two, e, r) = by-words job_for call (two_of_five one other) (λ r. no-usage files call from seven r) names ran in
      (two, e, refuses-both files call from auction servers list1 list2 two out both read seven r)
