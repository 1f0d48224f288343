-- What is right for a command has a run in which it is done.
use Rattle.std.proofs.Common.{◌≡◌, ◌≢◌, ◌<◌, inl, inr, ℕ, List, [], ◌∷◌, Option, Some, None, Ok}
use Rattle.std.proofs.Common.{refl, sym, ap, subst, ◌∙◌, arith}
use Rattle.std.specs.Prelude.{codes, if◌then◌else◌, option_map}
use Rattle.beet_field.specs.Point.{server_of}
use Rattle.beet_field.specs.Trio.{of_each}
use Rattle.beet_field.specs.declared.point.Point.{Point}
use Rattle.beet_store.specs.Causes.{Rose}
use Rattle.beet_store.specs.Files.{File, Told}
use Rattle.beet_forms.specs.Names.{is_name_of}
use Rattle.beet_words.specs.Bundles.{Words}
use Rattle.beet_bids.specs.Books.{Book}
use Rattle.beet_book.specs.declared.entries.BidderSource.{BidderSource}
use Rattle.beet_world.specs.declared.schedule.Delivery.{Delivery}
use Rattle.beet_view.specs.BookViews.{transcript_for}
use Rattle.beet_headline.specs.Statements.{AreTwoBooks}
use Rattle.beet_headline.proofs.Pairing.{second-there}
use Rattle.beet_errand.specs.Errands.{Answer, Errand, Ends, Step, answers, text_answer}
use Rattle.beet_errand.specs.Fetches.{IsRead, Went}
use Rattle.beet_errand.specs.Overs.{ReadsTo, answer_over}
use Rattle.beet_errand.specs.Records.{calls_of}
use Rattle.beet_errand.specs.Runs.{Runs}
use Rattle.beet_errand.specs.Statuses.{code_of}
use Rattle.beet_errand.specs.declared.answer.OwnRefusal.TheVariants.{OfWorlds}
use Rattle.beet_errand.specs.declared.answer.Refusal.TheVariants.{Own}
use Rattle.beet_errand.specs.declared.answer.Status.TheVariants.{Done, Refused}
use Rattle.beet_errand.proofs.Steps.{went_none}
use Rattle.beet_differences.specs.Comparing.{unless_apart}
use Rattle.beet_two_books.specs.declared.agreeing.MapFault.{MapFault}
use Rattle.beet_book_differences.specs.Differences.{refused_text}
use Rattle.beet_load.specs.Loading.{AuctionWithBidders, loaded_errand}
use Rattle.beet_load.specs.Wholes.{limited_errand}
use Rattle.beet_audit.specs.Audits.{recombined_book}
use Rattle.beet_audit.proofs.OneRunFacts.{right-from_one}
use Rattle.beet_job_tally.specs.Tally.{tally_errand}
use Rattle.beet_job_clear.specs.Clear.{clear_errand}
use Rattle.beet_job_five.specs.Five.{five_errand}
use Rattle.beet_job_rehearse.specs.Rehearse.{rehearse_errand}
use Rattle.beet_job_watch.specs.Watch.{watch_errand}
use Rattle.beet_job_record.specs.Records.{record_errand}
use Rattle.beet_job_witness.specs.Witness.{witness_errand}
use Rattle.beet_job_envelopes.specs.Open.{open_errand}
use Rattle.beet_job_envelopes.specs.Seal.{seal_errand}
use Rattle.beet_job_trial.specs.Trial.{trial_errand}
use Rattle.beet_job_audit.specs.Ending.{TellsFinding, run_answer}
use Rattle.beet_job_audit.specs.Reading.{read_errand}
use Rattle.beet_job_audit.specs.declared.reading.ReadViews.{ReadViews}
use Rattle.beet_job_worlds.specs.Answering.{ShowsTheSame, agreed_answer}
use Rattle.beet_job_worlds.specs.Reading.{Both, both_errand, first_book, second_book, words_read}
use Rattle.beet_job_worlds.proofs.SecondWords.{can-run, same-transcripts}
use Rattle.beet_command.specs.Words.{are_names}
use Rattle.beet_masking.specs.Masks.{mask_among}
use Rattle.beet_weights.specs.Quadratics.{of_five}
use Rattle.beet_coalition.specs.Lists.{at_server}
use Rattle.beet_five_load.specs.FiveLoading.{FiveRead}
use Rattle.beet_five_map.specs.FiveWorlds.{AreTwoBooks as AreTwoBooksForTwo}
use Rattle.beet_five_map.proofs.Joined.{second-pair as second-of-pair}
use Rattle.beet_five_view.proofs.SameViews.{joint-same}
use Rattle.beet_job_five_worlds.specs.Answering.{ShowsTheSameForTwo, agreed_answer as agreed_for_two}
use Rattle.beet_job_five_worlds.specs.Reading.{BothOfFive, both_errand as both_of_five, second_book as second_of_five}
use Rattle.beet_app.specs.Jobs.{Answering, Auditing, Comparing, ComparingForTwo, Job, job_of, seal_of, two_of_five}
use Rattle.beet_app.proofs.TwoServers.{are-two}
use Rattle.beet_app_laws.specs.Calls.{Call, IsOf, RunsJob}
use Rattle.beet_app_laws.proofs.Led.{from-told, past, past-both}
use Rattle.beet_app_laws.proofs.Telling.{one-value, told-both, told-both-of-five, told-views}
use Rattle.beet_program_laws.specs.Accepted.{witness_words}
use Rattle.beet_program_laws.specs.Commands.{five_worlds_words}
use Rattle.beet_program_laws.proofs.FiveWorlds.{difference_read as difference_of_five, is-both as both-of-five-right}
use Rattle.beet_program_laws.proofs.Jobs.{runs-in}
use Rattle.beet_program_laws.proofs.Read.{can-run-cut}
use Rattle.beet_program_laws.proofs.Worlds.{is-both}
use Rattle.beet_completeness_laws.specs.Complete.{CanAudit, CanClear, CanCompare, CanOpen, CanRehearse, CanRunFive}
use Rattle.beet_completeness_laws.specs.Complete.{CanCompareForTwo, CanRunTrial, CanSeal, CanTally, CanWitness}
use Rattle.beet_completeness_laws.proofs.Jobs.{clear-done, five-done, open-done, record-done, rehearse-done, seal-done}
use Rattle.beet_completeness_laws.proofs.Jobs.{tally-done, trial-done, watch-done, witness-done}
use Rattle.beet_completeness_laws.proofs.Leading.{IsDoneOver, book-done, search-done}
use Rattle.beet_counterexample_laws.specs.HasRun.{HasRun, HasRunTo}
use Rattle.beet_counterexample_laws.proofs.Deciding.{passes-to}
use Rattle.beet_counterexample_laws.proofs.Loading.{both-decides, both-of-five-decides, read-decides}
use Rattle.beet_counterexample_laws.proofs.RunsOver.{desk_of, given-all, led-over, run-over, shelf_of}

no-rise : Rose 0 0 → ⊥
no-rise rose =
    let never : 0 < 0 = rose (λ e. absurd (omega (arith, e))) in absurd (omega (arith, never))

module _ (files : List File) (words : List (List ℕ)) where
  -- a call that ran a job and ended with a status that tells no fault of the outside
  has-run-to : (status : ℕ) → status ≢ 3 → status ≢ 4 → (job : Job) (call : Call) → job_of words ≡ Some job →
      IsOf files call → RunsJob (Some job) call → call.status ≡ status → HasRunTo files words status
  has-run-to status read written job call named from ran ends = record {
    call = call;
    runs = record {
      job = job;
      named = named;
      from = from;
      runs = subst (λ (j : Option Job). RunsJob j call) (sym named) ran;
      shelf_faults = 0;
      shelf_faults_now = 0;
      read = λ e. absurd (read (sym ends ∙ e));
      shelf_rests = no-rise;
      desk_faults = 0;
      desk_faults_now = 0;
      write = λ e. absurd (written (sym ends ∙ e));
      desk_rests = no-rise;
    };
    ends = ends;
  }

  -- so it is for one that is done
  has-run : (job : Job) (call : Call) → job_of words ≡ Some job → IsOf files call → RunsJob (Some job) call →
      call.status ≡ 0 → HasRun files words
  has-run job call named from ran zero =
      has-run-to 0 (λ e. absurd (omega (arith, e))) (λ e. absurd (omega (arith, e))) job call named from ran zero

  -- a call in which the shelf has answered so, and the desk has taken this answer
  abbrev pub call_with : Told → Answer → Call
  call_with now answer = record {
    shelf = shelf_of files [];
    shelf_now = now;
    desk = desk_of [];
    desk_now = desk_of (calls_of answer.files answer.text);
    status = code_of answer.status;
  }

  -- the call in which an errand is led by the files
  abbrev pub call_over : Errand → Call
  call_over errand = call_with (shelf_of files (led-over files errand).0) (answer_over files errand)

  pub over-is : (errand : Errand) → IsOf files (call_over errand)
  over-is errand = record {
    fetches = (led-over files errand).0;
    recorded = refl;
    answered = (led-over files errand).1;
  }

  pub over-runs : (errand : Errand) → RunsJob (Some (Answering errand)) (call_over errand)
  over-runs errand = run-over files errand (answer_over files errand) (led-over files errand)

  -- an errand that the files lead to its end has a run
  errand-run : (errand : Errand) → job_of words ≡ Some (Answering errand) → IsDoneOver files errand →
      HasRun files words
  errand-run errand named done =
      has-run (Answering errand) (call_over errand) named (over-is errand) (over-runs errand) (sym (ap code_of done))

  -- so has an answer, after what was read
  answer-runs : (now : Told) (answer : Answer) →
      Runs (Ends answer) now now (desk_of []) (desk_of (calls_of answer.files answer.text)) (code_of answer.status)
  answer-runs now answer = record {
    rest = Ends answer;
    went = went_none now (Ends answer);
    ends = inl (record { done = Ok tt; calls = given-all [] answer.files answer.text; code = refl });
  }

  -- what was read of the files is of them
  read-is : {A : Type 0} (now : Told) (answer : Answer) (step : Step A) (value : A) →
      IsRead (shelf_of files []) now step value → IsOf files (call_with now answer)
  read-is now answer step value is =
      from-told files (shelf_of files []) now _ _ refl (is (λ value. answers Done []))

-- ---- errands

module _ (files : List File) where
  pub tally : (auction list : List ℕ) → job_of (codes "tally" ∷ auction ∷ list ∷ []) ≢ None →
      CanTally files auction list → HasRun files (codes "tally" ∷ auction ∷ list ∷ [])
  tally auction list not can =
      let errand = tally_errand auction list in
      errand-run files (codes "tally" ∷ auction ∷ list ∷ []) errand
      (past (are_names (auction ∷ list ∷ [])) (Some (Answering errand)) not) (tally-done files auction list can)

  -- a command with three files has a run if these lead its errand to its end
  three-files : (command one two three : List ℕ) (errand : Errand) →
      job_of (command ∷ one ∷ two ∷ three ∷ [])
      ≡ (if are_names (one ∷ two ∷ three ∷ []) then Some (Answering errand) else None) →
      job_of (command ∷ one ∷ two ∷ three ∷ []) ≢ None → IsDoneOver files errand →
      HasRun files (command ∷ one ∷ two ∷ three ∷ [])
  three-files command one two three errand is not done =
      errand-run files (command ∷ one ∷ two ∷ three ∷ []) errand
      (is ∙ past (are_names (one ∷ two ∷ three ∷ [])) (Some (Answering errand)) (λ e. not (is ∙ e))) done

  -- and so has one with four
  four-files : (command one two three four : List ℕ) (errand : Errand) →
      job_of (command ∷ one ∷ two ∷ three ∷ four ∷ [])
      ≡ (if are_names (one ∷ two ∷ four ∷ []) then if is_name_of three then Some (Answering errand) else None else None) →
      job_of (command ∷ one ∷ two ∷ three ∷ four ∷ []) ≢ None → IsDoneOver files errand →
      HasRun files (command ∷ one ∷ two ∷ three ∷ four ∷ [])
  four-files command one two three four errand is not done =
      errand-run files (command ∷ one ∷ two ∷ three ∷ four ∷ []) errand
      (is ∙ past-both (are_names (one ∷ two ∷ four ∷ [])) (is_name_of three) (Some (Answering errand)) (λ e. not (is ∙ e)))
      done

  pub clear : (auction servers list : List ℕ) → job_of (codes "clear" ∷ auction ∷ servers ∷ list ∷ []) ≢ None →
      CanClear files (loaded_errand auction servers list) →
      HasRun files (codes "clear" ∷ auction ∷ servers ∷ list ∷ [])
  clear auction servers list not can =
      three-files (codes "clear") auction servers list (clear_errand auction servers list) refl not
      (clear-done files auction servers list can)

  pub watch : (auction servers list : List ℕ) → job_of (codes "watch" ∷ auction ∷ servers ∷ list ∷ []) ≢ None →
      CanClear files (loaded_errand auction servers list) →
      HasRun files (codes "watch" ∷ auction ∷ servers ∷ list ∷ [])
  watch auction servers list not can =
      three-files (codes "watch") auction servers list (watch_errand auction servers list) refl not
      (watch-done files auction servers list can)

  pub five : (auction servers list : List ℕ) → job_of (codes "five" ∷ auction ∷ servers ∷ list ∷ []) ≢ None →
      CanRunFive files auction servers list → HasRun files (codes "five" ∷ auction ∷ servers ∷ list ∷ [])
  five auction servers list not can =
      three-files (codes "five") auction servers list (five_errand auction servers list) refl not
      (five-done files auction servers list can)

  pub opened : (auction servers list : List ℕ) → job_of (codes "open" ∷ auction ∷ servers ∷ list ∷ []) ≢ None →
      CanOpen files auction servers list → HasRun files (codes "open" ∷ auction ∷ servers ∷ list ∷ [])
  opened auction servers list not can =
      three-files (codes "open") auction servers list (open_errand auction servers list) refl not
      (open-done files auction servers list can)

  pub rehearse : (auction servers list name : List ℕ) (loaded : AuctionWithBidders) (schedule : List Delivery) →
      job_of (codes "rehearse" ∷ auction ∷ servers ∷ list ∷ name ∷ []) ≢ None →
      CanRehearse files auction servers list name loaded schedule →
      HasRun files (codes "rehearse" ∷ auction ∷ servers ∷ list ∷ name ∷ [])
  rehearse auction servers list name loaded schedule not can =
      four-files (codes "rehearse") auction servers list name (rehearse_errand auction servers list name) refl not
      (rehearse-done files auction servers list name loaded schedule can)

  pub recorded : (auction servers list out : List ℕ) →
      job_of (codes "record" ∷ auction ∷ servers ∷ list ∷ out ∷ []) ≢ None →
      CanClear files (limited_errand auction servers list) →
      HasRun files (codes "record" ∷ auction ∷ servers ∷ list ∷ out ∷ [])
  recorded auction servers list out not can =
      four-files (codes "record") auction servers list out (record_errand auction servers list out) refl not
      (record-done files auction servers list out can)

  pub witness : (auction servers list out : List ℕ) → job_of (witness_words auction servers list out) ≢ None →
      CanWitness files auction servers list → HasRun files (witness_words auction servers list out)
  witness auction servers list out not can =
      four-files (codes "witness") auction servers list out (witness_errand auction servers list out) refl not
      (witness-done files auction servers list out can)

  pub seal : (auction bid source out : List ℕ) →
      job_of (codes "seal" ∷ auction ∷ bid ∷ source ∷ out ∷ []) ≢ None → CanSeal files auction bid source →
      HasRun files (codes "seal" ∷ auction ∷ bid ∷ source ∷ out ∷ [])
  seal auction bid source out not can =
      let job_from : BidderSource → Job = λ from. Answering (seal_errand auction bid from out) in
      errand-run files (codes "seal" ∷ auction ∷ bid ∷ source ∷ out ∷ []) (seal_errand auction bid can.from out)
      (past (are_names (auction ∷ bid ∷ out ∷ [])) (seal_of auction bid source out) not
      ∙ ap (option_map job_from) can.from_is)
      (seal-done files auction bid source out can)

  pub trial : (first second : List ℕ) → CanRunTrial first second →
      HasRun files (codes "trial" ∷ first ∷ second ∷ [])
  trial first second can =
      let job_of_sizes : ℕ × ℕ → Job = λ sizes. Answering (trial_errand sizes.0 sizes.1) in
      errand-run files (codes "trial" ∷ first ∷ second ∷ []) (trial_errand can.bidders can.prices)
      (ap (option_map job_of_sizes) can.sizes) (trial-done files first second can)

  -- ---- two worlds

  worlds-at : (auction servers list1 list2 server out : List ℕ)
      (can : CanCompare files auction servers list1 list2 server) →
      job_of (codes "worlds" ∷ auction ∷ servers ∷ list1 ∷ list2 ∷ server ∷ out ∷ [])
      ≡ Some (Comparing auction servers list1 list2 can.s out) →
      HasRun files (codes "worlds" ∷ auction ∷ servers ∷ list1 ∷ list2 ∷ server ∷ out ∷ [])
  worlds-at auction servers list1 list2 server out can named =
      let step = both_errand auction servers list1 list2 in
      let both : Both = can.both in
      let first : Book = first_book both in
      let second : Book = second_book both in
      let words : Words = words_read both in
      let h = is-both files auction servers list1 list2 both can.both_read in
      let run = runs-in both.first h.first in
      let starts = can-run-cut both.first.grid both.first.servers both.first.farmers h.first.few h.first.farmers
      h.first.servers in
      let two : AreTwoBooks can.s first second =
      record { first_book = run.is_book; second_book = h.second; agree = can.agree } in
      let (mapped, pair) = second-there can.s first second words two run.can_run in
      let answer : Answer = agreed_answer out first words (transcript_for first words can.s) mapped in
      let shown : ShowsTheSame can.s out first words second answer = record {
        agree = can.agree;
        second_words = mapped;
        mapped = pair.mapped;
        only = pair.only_second;
        back = pair.only_first;
        seen = transcript_for first words can.s;
        first_seen = refl;
        second_seen = same-transcripts can.s first second words mapped starts
            (can-run can.s first second words mapped starts can.agree.grids pair.mapped pair.second_runs.enough)
            pair.transcripts;
        is = refl;
      } in
      let (now, same, read) = passes-to files step both (both-decides files auction servers list1 list2) can.both_read
      (λ other r. one-value files step other both r can.both_read told-both) (shelf_of files []) refl in
      has-run files (codes "worlds" ∷ auction ∷ servers ∷ list1 ∷ list2 ∷ server ∷ out ∷ [])
      (Comparing auction servers list1 list2 can.s out)
      (call_with files (codes "worlds" ∷ auction ∷ servers ∷ list1 ∷ list2 ∷ server ∷ out ∷ []) now answer) named
      (read-is files (codes "worlds" ∷ auction ∷ servers ∷ list1 ∷ list2 ∷ server ∷ out ∷ []) now answer step both read)
      (inl (
        answer,
        record { value = both; read = read; shown = shown },
        answer-runs files (codes "worlds" ∷ auction ∷ servers ∷ list1 ∷ list2 ∷ server ∷ out ∷ []) now answer,
      ))
      (sym (ap code_of (book-done first words.masks can.masks)))

  pub worlds : (auction servers list1 list2 server out : List ℕ) →
      job_of (codes "worlds" ∷ auction ∷ servers ∷ list1 ∷ list2 ∷ server ∷ out ∷ []) ≢ None →
      CanCompare files auction servers list1 list2 server →
      HasRun files (codes "worlds" ∷ auction ∷ servers ∷ list1 ∷ list2 ∷ server ∷ out ∷ [])
  worlds auction servers list1 list2 server out not can =
      let job_at : Point → Job = λ s. Comparing auction servers list1 list2 s out in
      worlds-at auction servers list1 list2 server out can
      (past (are_names (auction ∷ servers ∷ list1 ∷ list2 ∷ out ∷ [])) (option_map job_at (server_of server)) not
      ∙ ap (option_map job_at) can.server_is)

  -- two worlds of five servers
  of-two-named : (auction servers list1 list2 one other out : List ℕ) (two : ℕ × ℕ) →
      job_of (five_worlds_words auction servers list1 list2 one other out) ≢ None → two_of_five one other ≡ Some two →
      job_of (five_worlds_words auction servers list1 list2 one other out)
      ≡ Some (ComparingForTwo auction servers list1 list2 two out)
  of-two-named auction servers list1 list2 one other out two not are =
      let job_for : ℕ × ℕ → Job = λ two. ComparingForTwo auction servers list1 list2 two out in
      past (are_names (auction ∷ servers ∷ list1 ∷ list2 ∷ out ∷ [])) (option_map job_for (two_of_five one other)) not
      ∙ ap (option_map job_for) are

  worlds-of-five-at : (auction servers list1 list2 one other out : List ℕ)
      (can : CanCompareForTwo files auction servers list1 list2 one other) →
      job_of (five_worlds_words auction servers list1 list2 one other out)
      ≡ Some (ComparingForTwo auction servers list1 list2 can.two out) →
      HasRun files (five_worlds_words auction servers list1 list2 one other out)
  worlds-of-five-at auction servers list1 list2 one other out can named =
      let command = five_worlds_words auction servers list1 list2 one other out in
      let step = both_of_five auction servers list1 list2 in
      let both : BothOfFive = can.both in
      let first : FiveRead = both.first in
      let second : Book = second_of_five both in
      let a : ℕ = can.two.0 in
      let b : ℕ = can.two.1 in
      let are = are-two one other can.two can.two_are in
      let h = both-of-five-right files auction servers list1 list2 both can.both_read in
      let books : AreTwoBooksForTwo a b first.book second =
      record { first_book = h.first.0; second_book = h.second; agree = can.agree } in
      let (mapped, pair) = second-of-pair a b are.some are.less are.few first.book second books first.words h.first.1 in
      let answer : Answer = agreed_for_two a b out first second mapped in
      let shown : ShowsTheSameForTwo a b out first second answer = record {
        agree = can.agree;
        second_words = mapped;
        pair = pair;
        views = joint-same a b are.some are.less are.few first.book second first.words mapped books pair;
        is = refl;
      } in
      let (now, same, read) = passes-to files step both (both-of-five-decides files auction servers list1 list2) can.both_read
      (λ other r. one-value files step other both r can.both_read told-both-of-five) (shelf_of files []) refl in
      has-run files command (ComparingForTwo auction servers list1 list2 can.two out) (call_with files command now answer)
      named (read-is files command now answer step both read)
      (inl (answer, record { value = both; read = read; shown = shown }, answer-runs files command now answer))
      (sym (ap code_of (search-done first.book (mask_among (of_five (at_server first.words.masks))) can.masks)))

  pub five_worlds : (auction servers list1 list2 one other out : List ℕ) →
      job_of (five_worlds_words auction servers list1 list2 one other out) ≢ None →
      CanCompareForTwo files auction servers list1 list2 one other →
      HasRun files (five_worlds_words auction servers list1 list2 one other out)
  five_worlds auction servers list1 list2 one other out not can =
      worlds-of-five-at auction servers list1 list2 one other out can
      (of-two-named auction servers list1 list2 one other out can.two not can.two_are)

  -- two books that two servers of five tell apart are refused
  apart-of-five-at : (auction servers list1 list2 one other out : List ℕ) (two : ℕ × ℕ) (both : BothOfFive)
      (fault : MapFault) → ReadsTo files (both_of_five auction servers list1 list2) both →
      difference_of_five two both ≡ Some fault →
      job_of (five_worlds_words auction servers list1 list2 one other out)
      ≡ Some (ComparingForTwo auction servers list1 list2 two out) →
      HasRunTo files (five_worlds_words auction servers list1 list2 one other out) 7
  apart-of-five-at auction servers list1 list2 one other out two both fault reads apart named =
      let command = five_worlds_words auction servers list1 list2 one other out in
      let step = both_of_five auction servers list1 list2 in
      let answer : Answer = text_answer (Refused (Own OfWorlds)) (refused_text fault) in
      let (now, same, read) = passes-to files step both (both-of-five-decides files auction servers list1 list2) reads
      (λ other r. one-value files step other both r reads told-both-of-five) (shelf_of files []) refl in
      has-run-to files command 7 (λ e. absurd (omega (arith, e))) (λ e. absurd (omega (arith, e)))
      (ComparingForTwo auction servers list1 list2 two out) (call_with files command now answer) named
      (read-is files command now answer step both read)
      (inr (λ next.
      let go : BothOfFive → Errand = λ both. unless_apart refused_text (difference_of_five two both) (next both) in
      record {
        rest = Ends answer;
        went = subst (λ d. Went (shelf_of files []) now (step go) (unless_apart refused_text d (next both))) apart (read go);
        ends = inl (record { done = Ok tt; calls = given-all [] [] (refused_text fault); code = refl });
      }))
      refl

  pub apart_of_five : (auction servers list1 list2 one other out : List ℕ) (two : ℕ × ℕ) (both : BothOfFive)
      (fault : MapFault) → job_of (five_worlds_words auction servers list1 list2 one other out) ≢ None →
      two_of_five one other ≡ Some two → ReadsTo files (both_of_five auction servers list1 list2) both →
      difference_of_five two both ≡ Some fault →
      HasRunTo files (five_worlds_words auction servers list1 list2 one other out) 7
  apart_of_five auction servers list1 list2 one other out two both fault not are reads apart =
      apart-of-five-at auction servers list1 list2 one other out two both fault reads apart
      (of-two-named auction servers list1 list2 one other out two not are)

  -- ---- an audit

  pub audit : (auction one two three : List ℕ) → job_of (codes "audit" ∷ auction ∷ one ∷ two ∷ three ∷ []) ≢ None →
      CanAudit files auction one two three → HasRun files (codes "audit" ∷ auction ∷ one ∷ two ∷ three ∷ [])
  audit auction one two three not can =
      let step = read_errand auction one two three in
      let views : ReadViews = can.read in
      let answer : Answer = run_answer views in
      let shown : TellsFinding views answer = record {
        found = None;
        finds = right-from_one views.grid views.views can.one_run;
        one_run = can.one_run;
        is = refl;
      } in
      let (now, same, read) = passes-to files step views (read-decides files auction one two three) can.views_read
      (λ other r. one-value files step other views r can.views_read told-views) (shelf_of files []) refl in
      let job = Auditing auction one two three in
      has-run files (codes "audit" ∷ auction ∷ one ∷ two ∷ three ∷ []) job
      (call_with files (codes "audit" ∷ auction ∷ one ∷ two ∷ three ∷ []) now answer)
      (past-both (are_names (auction ∷ one ∷ three ∷ [])) (is_name_of two) (Some job) not)
      (read-is files (codes "audit" ∷ auction ∷ one ∷ two ∷ three ∷ []) now answer step views read)
      (inl (
        answer,
        record { value = views; read = read; shown = shown },
        answer-runs files (codes "audit" ∷ auction ∷ one ∷ two ∷ three ∷ []) now answer,
      ))
      (sym (ap code_of (book-done (recombined_book views.grid views.views)
      (of_each (λ view. view.masks) views.views) can.masks)))
