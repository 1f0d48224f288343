-- What is right for a job leads it to its end, job by job.
use Rattle.std.proofs.Common.{◌≡◌, ◌∷◌, ◌==◌, ◌≤◌, ◌+◌, ℕ, Bool, true, false, List, [], length, Option, Some, None}
use Rattle.std.proofs.Common.{if◌then◌else◌, ◌*◌, arith, refl, sym, ap, ◌∙◌}
use Rattle.std.specs.Prelude.{◌||◌, codes, option_map}
use Rattle.std.proofs.lemmas.Bool.{eq-eqb, le-ltb}
use Rattle.std.proofs.lemmas.List.Elements.{All-head, All-tail}
use Rattle.beet_field.specs.Point.{server_of}
use Rattle.beet_field.specs.declared.point.Point.{Point}
use Rattle.beet_field.specs.declared.point.Point.TheVariants.{One, Two, Three}
use Rattle.beet_field.specs.declared.trio.Trio.{Trio}
use Rattle.beet_store.specs.Files.{File}
use Rattle.beet_forms.specs.Names.{is_name_of}
use Rattle.beet_words.specs.Words.{accepted}
use Rattle.beet_bids.specs.AuctionFiles.{auction_of}
use Rattle.beet_bids.specs.BidFiles.{bid_of}
use Rattle.beet_bids.specs.Books.{Book}
use Rattle.beet_bids.specs.Grids.{Grid}
use Rattle.beet_bids.specs.Outcomes.{outcome_of}
use Rattle.beet_bids.specs.declared.auction_file.TheConstants.{AUCTION_LIMIT}
use Rattle.beet_bids.specs.declared.bid_file.TheConstants.{BID_LIMIT}
use Rattle.beet_bids.specs.declared.outcomes.Outcome.{Outcome}
use Rattle.beet_bids.specs.declared.outcomes.Outcome.TheVariants.{Price, No}
use Rattle.beet_book.specs.BookFiles.{book_of}
use Rattle.beet_book.specs.Farmers.{BidderWithWords, book_with}
use Rattle.beet_book.specs.PointSums.{inputs_at}
use Rattle.beet_book.specs.ServerFiles.{servers_of}
use Rattle.beet_book.specs.declared.book_file.TheConstants.{BOOK_LIMIT, MOST_PRODUCT}
use Rattle.beet_book.specs.declared.entries.BidderSource.{BidderSource}
use Rattle.beet_book.specs.declared.server_file.TheConstants.{SERVERS_LIMIT}
use Rattle.beet_farmer.specs.Lists.{list_of}
use Rattle.beet_farmer.specs.declared.list_file.ListEntry.{ListEntry}
use Rattle.beet_farmer.specs.declared.list_file.TheConstants.{LIST_LIMIT}
use Rattle.beet_plan.specs.Auction.{auction_over}
use Rattle.beet_plan.specs.Runs.{finish_of}
use Rattle.beet_delivery.specs.Events.{Delivered, after, passed}
use Rattle.beet_auction.specs.Endings.{book_finish, book_rounds}
use Rattle.beet_world.specs.Schedules.{schedule_of}
use Rattle.beet_world.specs.Worlds.{named_in}
use Rattle.beet_world.specs.declared.schedule.Delivery.{Delivery}
use Rattle.beet_world.specs.declared.schedule.TheConstants.{SCHEDULE_LIMIT}
use Rattle.beet_two_books.specs.declared.agreeing.MapFault.{MapFault}
use Rattle.beet_errand.specs.Errands.{Errand, Step, answers, bad_file, reads}
use Rattle.beet_errand.specs.Overs.{ReadsTo}
use Rattle.beet_errand.specs.declared.answer.Status.{Status}
use Rattle.beet_errand.specs.declared.answer.Status.TheVariants.{Done, MasksSpent as Spent}
use Rattle.beet_differences.specs.Comparing.{compared, unless_apart}
use Rattle.beet_load.specs.Counts.{counts_of, words_wanted}
use Rattle.beet_load.specs.Wanted.{wanted_of}
use Rattle.beet_load.specs.Farmers.{farmers_errand}
use Rattle.beet_load.specs.Loading.{AuctionWithBidders, loaded_errand}
use Rattle.beet_load.specs.Servers.{HaveEnough, ServerWords, all_words_errand, enough_of_all, masks_of}
use Rattle.beet_load.specs.Limits.{over_product, within_product}
use Rattle.beet_load.specs.Wholes.{limited_errand}
use Rattle.beet_load.proofs.Farming.{words_pass}
use Rattle.beet_load.proofs.ServerSteps.{counts_pass}
use Rattle.beet_job_tally.specs.Tally.{one_price, tally_errand, tally_job}
use Rattle.beet_job_clear.specs.Clear.{clear_errand}
use Rattle.beet_job_watch.specs.Watch.{watch_errand}
use Rattle.beet_job_rehearse.specs.Rehearse.{is_spent, rehearsal_status, rehearse_errand}
use Rattle.beet_job_rehearse.specs.Standings.{rehearsal_of}
use Rattle.beet_job_rehearse.specs.declared.standing.Standing.TheVariants.{Ended, Waiting}
use Rattle.beet_job_record.specs.Records.{record_errand}
use Rattle.beet_job_witness.specs.Witness.{kept_job, list_job, witness_errand, witness_job}
use Rattle.beet_gathering.specs.Gather.{bidders_errand}
use Rattle.beet_job_envelopes.specs.Open.{entries_job, open_errand, open_job}
use Rattle.beet_job_envelopes.specs.Seal.{own_words_errand, seal_errand, seal_job}
use Rattle.beet_job_envelopes.specs.SealedBooks.{HaveWords}
use Rattle.beet_job_trial.specs.Adding.{enough_of_each}
use Rattle.beet_job_trial.specs.Rules.{trial_book, trial_farmers, trial_grid, trial_servers}
use Rattle.beet_job_trial.specs.Trial.{trial_errand}
use Rattle.beet_masking.specs.Masks.{mask_among}
use Rattle.beet_weights.specs.Quadratics.{of_five}
use Rattle.beet_coalition.specs.Lists.{at_server}
use Rattle.beet_five_load.specs.FiveLoading.{five_loaded_errand}
use Rattle.beet_job_five.specs.Five.{five_errand}
use Rattle.beet_book_differences.specs.Differences.{refused_text}
use Rattle.beet_job_worlds.specs.Ending.{compared_errand, difference_read}
use Rattle.beet_job_worlds.specs.Reading.{both_errand, first_book, second_book, words_read}
use Rattle.beet_job_worlds.proofs.DifferenceFacts.{no-difference}
use Rattle.beet_job_five_worlds.specs.Ending.{compared_errand as compared_for_two, difference_for_two}
use Rattle.beet_job_five_worlds.specs.Reading.{BothOfFive, both_errand as both_of_five, second_book as second_of_five}
use Rattle.beet_job_five_worlds.proofs.DifferenceForTwo.{no-difference as none-for-two}
use Rattle.beet_command.specs.Words.{are_names}
use Rattle.beet_app.specs.Jobs.{Answering, Auditing, Comparing, ComparingForTwo, Job, job_of, seal_of, two_of_five}
use Rattle.beet_app_laws.specs.Calls.{Call}
use Rattle.beet_app_laws.specs.Dues.{IsDue}
use Rattle.beet_app_laws.specs.Dues.{status_of_first, status_of_first_of_five}
use Rattle.beet_completeness_laws.specs.Complete.{CanAudit, CanCompare, CanOpen, CanRehearse, CanClear, CanSeal, CanTally}
use Rattle.beet_completeness_laws.specs.Complete.{CanCompareForTwo, CanRunFive, CanRunTrial, CanWitness, MasksSufficeFor}
use Rattle.beet_completeness_laws.specs.WithoutFault.{IsDoneOrShort, RunsWithoutFault}
use Rattle.beet_completeness_laws.proofs.Audits.{audit-done}
use Rattle.beet_completeness_laws.proofs.Leading.{IsDoneOver, book-done, book-ends, done-or-short, passes, passes-both}
use Rattle.beet_completeness_laws.proofs.Leading.{passes-done, points-done, search-done, then-done}

-- ---- errands

module _ (files : List File) where
  pub tally-done : (auction list : List ℕ) → CanTally files auction list → IsDoneOver files (tally_errand auction list)
  unfolding tally_job
  tally-done auction list can =
      let grid : Grid = can.read.grid.value in
      then-done files (reads auction AUCTION_LIMIT auction_of) grid _ can.read.grid.is (
      passes-done files (one_price auction grid) _ (rw (eq-eqb grid.prices 1 can.one_price) refl) (
      then-done files (reads list BOOK_LIMIT book_of) can.read.entries.value _ can.read.entries.is (
      then-done files (farmers_errand (wanted_of None grid) grid None [] can.read.entries.value) can.read.farmers.value _
      can.read.farmers.is refl)))

  pub clear-done : (auction servers list : List ℕ) → CanClear files (loaded_errand auction servers list) →
      IsDoneOver files (clear_errand auction servers list)
  clear-done auction servers list can =
      then-done files (loaded_errand auction servers list) can.loaded _ can.loaded_read
      (book-done (book_with can.loaded.grid can.loaded.farmers) (masks_of can.loaded.servers) can.masks)

  pub watch-done : (auction servers list : List ℕ) → CanClear files (loaded_errand auction servers list) →
      IsDoneOver files (watch_errand auction servers list)
  watch-done auction servers list can =
      then-done files (loaded_errand auction servers list) can.loaded _ can.loaded_read
      (book-done (book_with can.loaded.grid can.loaded.farmers) (masks_of can.loaded.servers) can.masks)

  pub five-done : (auction servers list : List ℕ) → CanRunFive files auction servers list →
      IsDoneOver files (five_errand auction servers list)
  five-done auction servers list can =
      then-done files (five_loaded_errand auction servers list) can.read _ can.is_read
      (search-done can.read.book (mask_among (of_five (at_server can.read.words.masks))) can.masks)

  pub record-done : (auction servers list out : List ℕ) → CanClear files (limited_errand auction servers list) →
      IsDoneOver files (record_errand auction servers list out)
  record-done auction servers list out can =
      then-done files (limited_errand auction servers list) can.loaded _ can.loaded_read
      (book-done (book_with can.loaded.grid can.loaded.farmers) (masks_of can.loaded.servers) can.masks)

  pub seal-done : (auction bid source out : List ℕ) (can : CanSeal files auction bid source) →
      IsDoneOver files (seal_errand auction bid can.from out)
  unfolding seal_job
  seal-done auction bid source out can =
      then-done files (reads auction AUCTION_LIMIT auction_of) can.grid.value _ can.grid.is (
      then-done files (reads bid BID_LIMIT (bid_of can.grid.value)) can.curve.value _ can.curve.is (
      then-done files (own_words_errand can.grid.value can.from) can.words.value _ can.words.is refl))

  pub open-done : (auction servers list : List ℕ) → CanOpen files auction servers list →
      IsDoneOver files (open_errand auction servers list)
  unfolding open_job entries_job
  open-done auction servers list can =
      let grid : Grid = can.read.grid.value in
      let entries : List ListEntry = can.read.entries.value in
      then-done files (reads auction AUCTION_LIMIT auction_of) grid _ can.read.grid.is (
      then-done files (reads servers SERVERS_LIMIT servers_of) can.read.sources.value _ can.read.sources.is (
      then-done files (reads list LIST_LIMIT list_of) entries _ can.read.entries.is (
      then-done files (all_words_errand (wanted_of None grid) None can.read.sources.value) can.read.words.value _
      can.read.words.is (
      then-done files (bidders_errand grid [] entries) can.read.bidders.value _ can.read.bidders.is
      (points-done (auction_over grid) (inputs_at grid.prices can.read.bidders.value)
      (masks_of can.read.words.value.servers) can.masks)))))

  -- bidders within the limit pass it
  within-passes : (list : List ℕ) (grid : Grid) (count : ℕ) (next : Errand) → count * grid.prices ≤ MOST_PRODUCT →
      within_product 0 list grid count next ≡ next
  within-passes list grid count next few = ap (λ (b : Bool). if b then bad_file list over_product else next)
      (le-ltb MOST_PRODUCT (0 + count * grid.prices) (omega (arith, few)))

  pub witness-done : (auction servers list out : List ℕ) → CanWitness files auction servers list →
      IsDoneOver files (witness_errand auction servers list out)
  unfolding witness_job list_job kept_job
  witness-done auction servers list out can =
      let read = can.opens.read in
      let grid : Grid = read.grid.value in
      let entries : List ListEntry = read.entries.value in
      then-done files (reads auction AUCTION_LIMIT auction_of) grid _ read.grid.is (
      then-done files (reads servers SERVERS_LIMIT servers_of) read.sources.value _ read.sources.is (
      then-done files (reads list LIST_LIMIT list_of) entries _ read.entries.is (
      passes-done files (within_product 0 list grid (length entries)) _
      (within-passes list grid (length entries) _ can.within) (
      then-done files (all_words_errand (wanted_of None grid) None read.sources.value) read.words.value _
      read.words.is (
      then-done files (bidders_errand grid [] entries) read.bidders.value _ read.bidders.is
      (points-done (auction_over grid) (inputs_at grid.prices read.bidders.value)
      (masks_of read.words.value.servers) can.opens.masks))))))

  -- ---- a rehearsal

  not-spent : (o : Outcome) (ended : Bool) (round : ℕ) →
      is_spent (if ended then Ended (finish_of o) else Waiting round) ≡ false
  not-spent (Price place price volume supply) true round = refl
  not-spent No true round = refl
  not-spent o false round = refl

  stands-done : (o : Outcome) (rounds : ℕ) (x : Delivered) →
      Done ≡ rehearsal_status (rehearsal_of (finish_of o) rounds x)
  stands-done o rounds x =
      let one = not-spent o (passed rounds x One == rounds) (passed rounds x One) in
      let two = not-spent o (passed rounds x Two == rounds) (passed rounds x Two) in
      let three = not-spent o (passed rounds x Three == rounds) (passed rounds x Three) in
      λ i. if sym one i || sym two i || sym three i then Spent else Done

  -- of a book whose masks suffice no server has met the third rejected mask, whatever was delivered
  pub rehearsal-done : (book : Book) (masks : Trio (List ℕ)) → MasksSufficeFor book masks → (x : Delivered) →
      Done ≡ rehearsal_status (rehearsal_of (book_finish book masks) (book_rounds book masks) x)
  rehearsal-done book masks h x =
      let rounds = book_rounds book masks in
      stands-done (outcome_of book) rounds x
      ∙ ap (λ finish. rehearsal_status (rehearsal_of finish rounds x)) (sym (book-ends book masks h))

  pub rehearse-done : (auction servers list name : List ℕ) (loaded : AuctionWithBidders) (schedule : List Delivery) →
      CanRehearse files auction servers list name loaded schedule →
      IsDoneOver files (rehearse_errand auction servers list name)
  rehearse-done auction servers list name loaded schedule can =
      let book = book_with loaded.grid loaded.farmers in
      let masks = masks_of loaded.servers in
      then-done files (loaded_errand auction servers list) loaded _ can.loaded_read (
      then-done files (reads name SCHEDULE_LIMIT schedule_of) schedule _ can.schedule_read
      (rehearsal-done book masks can.masks (after (book_rounds book masks) (named_in schedule))))

  -- ---- a trial

  servers-pass : (grid : Grid) (servers : Trio ServerWords) → HaveEnough (counts_of grid) servers →
      (next : Errand) → enough_of_all
      (wanted_of None grid) servers next ≡ next
  servers-pass grid servers h next =
      (counts_pass (wanted_of None grid) 1 servers.one h.one.coefficients h.one.masks).passes _
      ∙ (counts_pass (wanted_of None grid) 2 servers.two h.two.coefficients h.two.masks).passes _
      ∙ (counts_pass (wanted_of None grid) 3 servers.three h.three.coefficients h.three.masks).passes next

  farmers-pass : (grid : Grid) (number : ℕ) (farmers : List BidderWithWords) → HaveWords grid farmers → (next : Errand) →
      enough_of_each grid number farmers next ≡ next
  farmers-pass grid number [] h next = refl
  farmers-pass grid number (farmer ∷ farmers) h next =
      let enough : BidderWithWords → Type 0 = λ farmer. words_wanted grid ≤ length (accepted farmer.words) in
      (words_pass None number (words_wanted grid) farmer.words (All-head enough farmer farmers h)).passes _
      ∙ farmers-pass grid (number + 1) farmers (All-tail enough farmer farmers h) next

  pub trial-done : (first second : List ℕ) (can : CanRunTrial first second) →
      IsDoneOver files (trial_errand can.bidders can.prices)
  trial-done first second can =
      let grid = trial_grid can.prices in
      let servers = trial_servers grid in
      let farmers = trial_farmers grid can.bidders in
      passes-done files (enough_of_all (wanted_of None grid) servers) _ (servers-pass grid servers can.servers _) (
      passes-done files (enough_of_each grid 1 farmers) _ (farmers-pass grid 1 farmers can.farmers _)
      (book-done (trial_book grid can.bidders) (masks_of servers) can.masks))

  -- ---- two worlds

  -- two worlds that are read, with no difference between them, go on to the status of a run that is done
  going-on : {A : Type 0} (step : Step A) (difference : A → Option MapFault) (end : A → Status) (both : A) →
      ReadsTo files step both → difference both ≡ None → Done ≡ end both →
      IsDoneOver files (compared refused_text difference step (λ both. answers (end both) []))
  going-on step difference end both read none done =
      then-done files step both _ read (
      passes-done files (unless_apart refused_text (difference both)) (answers (end both) [])
      (ap (λ (d : Option MapFault). unless_apart refused_text d (answers (end both) [])) none) done)

  pub compared-done : (auction servers list1 list2 server : List ℕ)
      (can : CanCompare files auction servers list1 list2 server) →
      IsDoneOver files (compared_errand auction servers list1 list2 can.s (λ both. answers (status_of_first both) []))
  compared-done auction servers list1 list2 server can =
      let first = first_book can.both in
      going-on (both_errand auction servers list1 list2) (difference_read can.s) status_of_first can.both can.both_read
      (no-difference can.s first (second_book can.both) can.agree) (book-done first (words_read can.both).masks can.masks)

  pub compared-for-two-done : (auction servers list1 list2 one other : List ℕ)
      (can : CanCompareForTwo files auction servers list1 list2 one other) →
      IsDoneOver files
      (compared_for_two auction servers list1 list2 can.two.0 can.two.1 (λ both. answers (status_of_first_of_five both) []))
  compared-for-two-done auction servers list1 list2 one other can =
      let first = can.both.first in
      going-on (both_of_five auction servers list1 list2)
      (λ (both : BothOfFive). difference_for_two can.two.0 can.two.1 both.first.book (second_of_five both))
      status_of_first_of_five can.both can.both_read
      (none-for-two can.two.0 can.two.1 first.book (second_of_five can.both) can.agree)
      (search-done first.book (mask_among (of_five (at_server first.words.masks))) can.masks)

-- ---- jobs

module _ (files : List File) (call : Call) where
  -- words that pass a test name this job, which is done
  by-test : {words : List (List ℕ)} (w : RunsWithoutFault files words call) (test : Bool) (job : Job) →
      job_of words ≡ (if test then Some job else None) → IsDue files (Some job) Done → IsDoneOrShort call
  by-test w test job is due =
      done-or-short files _ call w (Some job) (is ∙ passes test (Some job) w.job (sym is ∙ w.named)) due

  by-tests : {words : List (List ℕ)} (w : RunsWithoutFault files words call) (one other : Bool) (job : Job) →
      job_of words ≡ (if one then if other then Some job else None else None) → IsDue files (Some job) Done →
      IsDoneOrShort call
  by-tests w one other job is due =
      done-or-short files _ call w (Some job) (is ∙ passes-both one other (Some job) w.job (sym is ∙ w.named)) due

  pub tally : (auction list : List ℕ) → RunsWithoutFault files (codes "tally" ∷ auction ∷ list ∷ []) call →
      CanTally files auction list → IsDoneOrShort call
  tally auction list w can =
      by-test w (are_names (auction ∷ list ∷ [])) (Answering (tally_errand auction list)) refl
      (tally-done files auction list can)

  pub clear : (auction servers list : List ℕ) →
      RunsWithoutFault files (codes "clear" ∷ auction ∷ servers ∷ list ∷ []) call →
      CanClear files (loaded_errand auction servers list) → IsDoneOrShort call
  clear auction servers list w can =
      by-test w (are_names (auction ∷ servers ∷ list ∷ [])) (Answering (clear_errand auction servers list)) refl
      (clear-done files auction servers list can)

  pub watch : (auction servers list : List ℕ) →
      RunsWithoutFault files (codes "watch" ∷ auction ∷ servers ∷ list ∷ []) call →
      CanClear files (loaded_errand auction servers list) → IsDoneOrShort call
  watch auction servers list w can =
      by-test w (are_names (auction ∷ servers ∷ list ∷ [])) (Answering (watch_errand auction servers list)) refl
      (watch-done files auction servers list can)

  pub five : (auction servers list : List ℕ) →
      RunsWithoutFault files (codes "five" ∷ auction ∷ servers ∷ list ∷ []) call →
      CanRunFive files auction servers list → IsDoneOrShort call
  five auction servers list w can =
      by-test w (are_names (auction ∷ servers ∷ list ∷ [])) (Answering (five_errand auction servers list)) refl
      (five-done files auction servers list can)

  pub opened : (auction servers list : List ℕ) →
      RunsWithoutFault files (codes "open" ∷ auction ∷ servers ∷ list ∷ []) call →
      CanOpen files auction servers list → IsDoneOrShort call
  opened auction servers list w can =
      by-test w (are_names (auction ∷ servers ∷ list ∷ [])) (Answering (open_errand auction servers list)) refl
      (open-done files auction servers list can)

  pub rehearse : (auction servers list name : List ℕ) (loaded : AuctionWithBidders) (schedule : List Delivery) →
      RunsWithoutFault files (codes "rehearse" ∷ auction ∷ servers ∷ list ∷ name ∷ []) call →
      CanRehearse files auction servers list name loaded schedule → IsDoneOrShort call
  rehearse auction servers list name loaded schedule w can =
      by-tests w (are_names (auction ∷ servers ∷ name ∷ [])) (is_name_of list) (Answering (rehearse_errand auction servers list name)) refl
      (rehearse-done files auction servers list name loaded schedule can)

  pub recorded : (auction servers list out : List ℕ) →
      RunsWithoutFault files (codes "record" ∷ auction ∷ servers ∷ list ∷ out ∷ []) call →
      CanClear files (limited_errand auction servers list) → IsDoneOrShort call
  recorded auction servers list out w can =
      by-tests w (are_names (auction ∷ servers ∷ out ∷ [])) (is_name_of list) (Answering (record_errand auction servers list out)) refl
      (record-done files auction servers list out can)

  pub witness : (auction servers list out : List ℕ) →
      RunsWithoutFault files (codes "witness" ∷ auction ∷ servers ∷ list ∷ out ∷ []) call →
      CanWitness files auction servers list → IsDoneOrShort call
  witness auction servers list out w can =
      by-tests w (are_names (auction ∷ servers ∷ out ∷ [])) (is_name_of list) (Answering (witness_errand auction servers list out)) refl
      (witness-done files auction servers list out can)

  pub audit : (auction one two three : List ℕ) →
      RunsWithoutFault files (codes "audit" ∷ auction ∷ one ∷ two ∷ three ∷ []) call →
      CanAudit files auction one two three → IsDoneOrShort call
  audit auction one two three w can =
      by-tests w (are_names (auction ∷ one ∷ three ∷ [])) (is_name_of two) (Auditing auction one two three) refl
      (audit-done files auction one two three can)

  pub seal : (auction bid source out : List ℕ) →
      RunsWithoutFault files (codes "seal" ∷ auction ∷ bid ∷ source ∷ out ∷ []) call →
      CanSeal files auction bid source → IsDoneOrShort call
  seal auction bid source out w can =
      let job_from : BidderSource → Job = λ from. Answering (seal_errand auction bid from out) in
      done-or-short files _ call w (Some (job_from can.from))
      (passes (are_names (auction ∷ bid ∷ out ∷ [])) (seal_of auction bid source out) w.job w.named
      ∙ ap (option_map job_from) can.from_is)
      (seal-done files auction bid source out can)

  pub trial : (first second : List ℕ) → RunsWithoutFault files (codes "trial" ∷ first ∷ second ∷ []) call →
      CanRunTrial first second → IsDoneOrShort call
  trial first second w can =
      let job_of_sizes : ℕ × ℕ → Job = λ sizes. Answering (trial_errand sizes.0 sizes.1) in
      done-or-short files _ call w (Some (job_of_sizes (can.bidders, can.prices)))
      (ap (option_map job_of_sizes) can.sizes)
      (trial-done files first second can)

  pub worlds : (auction servers list1 list2 server out : List ℕ) →
      RunsWithoutFault files (codes "worlds" ∷ auction ∷ servers ∷ list1 ∷ list2 ∷ server ∷ out ∷ []) call →
      CanCompare files auction servers list1 list2 server → IsDoneOrShort call
  worlds auction servers list1 list2 server out w can =
      let job_at : Point → Job = λ s. Comparing auction servers list1 list2 s out in
      done-or-short files _ call w (Some (job_at can.s))
      (passes (are_names (auction ∷ servers ∷ list1 ∷ list2 ∷ out ∷ []))
      (option_map job_at (server_of server)) w.job w.named ∙ ap (option_map job_at) can.server_is)
      (compared-done files auction servers list1 list2 server can)

  pub five_worlds : (auction servers list1 list2 one other out : List ℕ) →
      RunsWithoutFault files (codes "five_worlds" ∷ auction ∷ servers ∷ list1 ∷ list2 ∷ one ∷ other ∷ out ∷ []) call →
      CanCompareForTwo files auction servers list1 list2 one other → IsDoneOrShort call
  five_worlds auction servers list1 list2 one other out w can =
      let job_of_two : ℕ × ℕ → Job = λ two. ComparingForTwo auction servers list1 list2 two out in
      done-or-short files _ call w (Some (job_of_two can.two))
      (passes (are_names (auction ∷ servers ∷ list1 ∷ list2 ∷ out ∷ []))
      (option_map job_of_two (two_of_five one other)) w.job w.named ∙ ap (option_map job_of_two) can.two_are)
      (compared-for-two-done files auction servers list1 list2 one other can)
