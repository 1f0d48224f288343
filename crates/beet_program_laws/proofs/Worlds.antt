-- What the job `worlds` has read, put and said.
use Rattle.std.proofs.Common.{◌≡◌, ℕ, List, [], ◌∷◌, ◌++◌, Some, Bool, sym, ap, subst, ◌∙◌}
use Rattle.std.specs.Prelude.{codes}
use Rattle.beet_field.specs.Point.{server_of}
use Rattle.beet_field.specs.declared.point.Point.{Point}
use Rattle.beet_store.specs.Files.{File}
use Rattle.beet_words.specs.Bundles.{Words, bundle_bytes}
use Rattle.beet_bids.specs.Books.{IsBook}
use Rattle.beet_two_books.specs.Agreement.{Agree}
use Rattle.beet_auction.specs.Endings.{book_finish, book_rounds}
use Rattle.beet_view.specs.BookViews.{transcript_for}
use Rattle.beet_auction_map.specs.ViewsWith.{transcript_with}
use Rattle.beet_headline.specs.Statements.{AreOnePair, AreTwoBooks}
use Rattle.beet_headline.proofs.Pairing.{mapped-pair}
use Rattle.beet_errand.specs.Errands.{Answer, refuses}
use Rattle.beet_errand.specs.Fetches.{IsDone, IsRead}
use Rattle.beet_errand.specs.Statuses.{IsDoneCode, code_of}
use Rattle.beet_errand.specs.declared.answer.OwnRefusal.TheVariants.{OfWorlds}
use Rattle.beet_errand.specs.declared.answer.Refusal.TheVariants.{Own}
use Rattle.beet_load.specs.Loading.{AuctionWithBidders}
use Rattle.beet_load.specs.Wholes.{limited_errand}
use Rattle.beet_run.specs.OutcomeTexts.{outcome_text}
use Rattle.beet_run.proofs.StatusFacts.{status-done}
use Rattle.beet_job_worlds.specs.Answering.{ShowsTheSame, worlds_text}
use Rattle.beet_book_differences.specs.Differences.{refused_text}
use Rattle.beet_job_worlds.specs.Ending.{ShowsWorlds, compared_errand, difference_read}
use Rattle.beet_job_worlds.specs.Reading.{Both, both_errand, first_book, second_book, words_read}
use Rattle.beet_job_worlds.proofs.DifferenceFacts.{no-difference}
use Rattle.beet_job_worlds.proofs.SecondWords.{words-uncut}
use Rattle.beet_command.specs.Words.{are_names}
use Rattle.beet_app.specs.Jobs.{Comparing, Job}
use Rattle.beet_errand.specs.Overs.{ReadsTo, answer_over}
use Rattle.beet_app_laws.proofs.Led.{read-to}
use Rattle.beet_app_laws.proofs.Telling.{told-both}
use Rattle.beet_app_laws.specs.Calls.{Call, IsOf, Puts, RunsJob, RunsJobOf}
use Rattle.beet_program_laws.specs.Commands.{PutsBothWorlds}
use Rattle.beet_program_laws.specs.Refusals.{RefusesBooks}
use Rattle.beet_program_laws.proofs.Compared.{is-right, undone as never-done}
use Rattle.beet_program_laws.proofs.Ends.{WentOut, no-job, no-usage, shown-ends, tells}
use Rattle.beet_program_laws.proofs.Refusing.{by-words, refuses-worlds}
use Rattle.beet_program_laws.proofs.Jobs.{runs-in}
use Rattle.beet_program_laws.proofs.Read.{IsLoaded, back, can-run-cut, limited-yield, second-yield}
use Rattle.beet_program_laws.proofs.Steps.{AreBoth, Yields}

-- ---- both books

abbrev pub IsBoth : Both → Type 0
IsBoth both = AreBoth IsLoaded IsBook both.first (second_book both)

both-yield : (files : List File) (auction servers list1 list2 : List ℕ) →
    Yields files (both_errand auction servers list1 list2) IsBoth
unfolding both_errand
both-yield files auction servers list1 list2 =
    second-yield files (limited_errand auction servers list1) (λ first. first.grid) list2
    (λ first second. record { first = first; second = second }) IsLoaded IsBoth (limited-yield files auction servers list1)
    (λ first second h k. record { first = h; second = k })

-- what was read of both books is right
pub is-both : (files : List File) (auction servers list1 list2 : List ℕ) (both : Both) →
    ReadsTo files (both_errand auction servers list1 list2) both → IsBoth both
is-both files auction servers list1 list2 =
    is-right (both_errand auction servers list1 list2) files IsBoth (both-yield files auction servers list1 list2) told-both

-- an errand that goes on from both books to a refusal is not done
pub undone : (files : List File) (auction servers list1 list2 : List ℕ) (s : Point) →
    IsDone
    (answer_over files (compared_errand auction servers list1 list2 s (λ both. refuses (Own OfWorlds) []))).status → ⊥
undone files auction servers list1 list2 s =
    never-done refused_text (difference_read s) (both_errand auction servers list1 list2) files IsBoth
    (both-yield files auction servers list1 list2)

module _ (files : List File) (call : Call) (from : IsOf files call) (w : IsDoneCode call.status)
    (auction servers list1 list2 : List ℕ) (s : Point) (out : List ℕ) where
  abbrev Compared : Type 0
  Compared = PutsBothWorlds files auction servers list1 list2 s out call

  shown : (both : Both) (answer : Answer) → IsRead call.shelf call.shelf_now (both_errand auction servers list1 list2) both →
      ShowsTheSame s out (first_book both) (words_read both) (second_book both) answer →
      WentOut answer call → Compared
  shown both answer is-read same put =
      let step = both_errand auction servers list1 list2 in
      let read = read-to files call.shelf call.shelf_now from step both is-read in
      let h = is-both files auction servers list1 list2 both read in
      let run = runs-in both.first h.first in
      let loaded = both.first in
      let first = first_book both in
      let words = words_read both in
      let second = second_book both in
      let two : AreTwoBooks s first second =
      record { first_book = run.is_book; second_book = h.second; agree = same.agree } in
      let pair : AreOnePair s first words second same.second_words =
      mapped-pair s first second words same.second_words two run.can_run same.mapped in
      let cut = words-uncut first words
      (can-run-cut loaded.grid loaded.servers loaded.farmers h.first.few h.first.farmers h.first.servers) in
      let own : same.seen ≡ transcript_with first words s =
      sym same.first_seen ∙ ap (λ (x : Words). transcript_for first x s) (sym cut) in
      let other : same.seen ≡ transcript_with second same.second_words s = own ∙ sym pair.transcripts in
      let calls = subst (λ (a : Answer). Puts call a.files a.text) same.is put.calls in
      record {
        first = first;
        words = words;
        second = second;
        read = subst (λ (l : AuctionWithBidders). ReadsTo files step (record { first = l; second = both.second }))
            (sym (back loaded.grid loaded.servers loaded.farmers)) read;
        two = two;
        run = run;
        second_words = same.second_words;
        pair = pair;
        text = outcome_text first.grid (book_finish first words.masks) (book_rounds first words.masks);
        tells = tells first words call.status (put.code ∙ ap (λ (a : Answer). code_of a.status) same.is);
        gives = subst (λ (l : List File). Puts call l (worlds_text first words))
            (λ i. (out ++ codes ".first", own i) ∷ (out ++ codes ".second", other i)
            ∷ (out ++ codes ".words", bundle_bytes same.second_words) ∷ []) calls;
      }

  compares : RunsJob (Some (Comparing auction servers list1 list2 s out)) call →
      Compared
  compares r =
      shown-ends files call from w {C = Compared} OfWorlds
      (compared_errand auction servers list1 list2 s)
      (ShowsWorlds auction servers list1 list2 s out)
      (undone files auction servers list1 list2 s)
      (λ answer shows put. shown shows.value answer shows.read shows.shown put) r

module _ (files : List File) (call : Call) (from : IsOf files call)
    (auction servers list1 list2 server out : List ℕ) where
  abbrev job_at : Point → Job
  job_at s = Comparing auction servers list1 list2 s out

  abbrev names : Bool
  names = are_names (auction ∷ servers ∷ list1 ∷ list2 ∷ out ∷ [])

  pub compares-worlds : IsDoneCode call.status →
      RunsJobOf (codes "worlds" ∷ auction ∷ servers ∷ list1 ∷ list2 ∷ server ∷ out ∷ []) call →
      (s : Point) × (server_of server ≡ Some s)
      × PutsBothWorlds files auction servers list1 list2 s out call
  compares-worlds w ran =
      let (s, e, r) = by-words job_at call (server_of server) (λ r. no-job files call from w r) names ran in
      (s, e, compares files call from w auction servers list1 list2 s out r)

  refuses-both : (s : Point) (both : Both) → ReadsTo files (both_errand auction servers list1 list2) both →
      call.status ≡ 7 → RunsJob (Some (Comparing auction servers list1 list2 s out)) call → RefusesBooks s both call
  refuses-both s both read e r =
      refuses-worlds refused_text (difference_read s) (both_errand auction servers list1 list2) files call from both read e
      (Agree s (first_book both) (second_book both)) (no-difference s (first_book both) (second_book both))
      (ShowsWorlds auction servers list1 list2 s out)
      (λ answer shows. subst IsDone (sym (ap (λ (a : Answer). a.status) shows.shown.is))
      (status-done (book_finish (first_book shows.value) (words_read shows.value).masks))) r

  pub refuses-server : (both : Both) →
      RunsJobOf (codes "worlds" ∷ auction ∷ servers ∷ list1 ∷ list2 ∷ server ∷ out ∷ []) call →
      ReadsTo files (both_errand auction servers list1 list2) both → call.status ≡ 7 →
      (s : Point) × (server_of server ≡ Some s) × RefusesBooks s both call
  refuses-server both ran read seven =
      let (s, e, r) = by-words job_at call (server_of server) (λ r. no-usage files call from seven r) names ran in
      (s, e, refuses-both s both read seven r)
