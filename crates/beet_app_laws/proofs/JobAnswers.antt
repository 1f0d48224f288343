-- The ends of the errand of each job.
use Rattle.std.proofs.Common.{◌≡◌, inl, inr, ℕ, List, [], ◌∷◌, ◌++◌, Option, Some, None, Bool, true, false}
use Rattle.std.proofs.Common.{if◌then◌else◌, option_map, IfSome, ap, refl, subst, sym}
use Rattle.std.specs.Prelude.{◌&&◌, codes, ◌==◌, ◌+◌, length, map}
use Rattle.beet_field.specs.Point.{server_of}
use Rattle.beet_field.specs.declared.point.Point.{Point}
use Rattle.beet_field.specs.declared.point.Point.TheVariants.{One, Two, Three as ThreeAt}
use Rattle.beet_field.specs.Trio.{of_each}
use Rattle.beet_field.specs.declared.trio.Trio.{Trio}
use Rattle.beet_auction.specs.AnyPoints.{points_finish}
use Rattle.beet_auction.specs.Endings.{book_finish}
use Rattle.beet_bids.specs.Grids.{Grid}
use Rattle.beet_bids.specs.AuctionFiles.{auction_of}
use Rattle.beet_bids.specs.BidFiles.{bid_of}
use Rattle.beet_bids.specs.declared.auction_file.TheConstants.{AUCTION_LIMIT}
use Rattle.beet_bids.specs.declared.bid_file.TheConstants.{BID_LIMIT}
use Rattle.beet_book.specs.BookFiles.{book_of}
use Rattle.beet_book.specs.ServerFiles.{servers_of}
use Rattle.beet_book.specs.Farmers.{BidderWithWords, book_with}
use Rattle.beet_book.specs.PointSums.{inputs_at}
use Rattle.beet_book.specs.declared.book_file.TheConstants.{BOOK_LIMIT}
use Rattle.beet_book.specs.declared.entries.BidderSource.{BidderSource}
use Rattle.beet_book.specs.declared.server_file.TheConstants.{SERVERS_LIMIT}
use Rattle.beet_book.specs.declared.sources.Servers.{Servers}
use Rattle.beet_farmer.specs.Envelopes.{envelope_of}
use Rattle.beet_farmer.specs.Lists.{list_of}
use Rattle.beet_farmer.specs.declared.envelope.TheConstants.{ENVELOPE_LIMIT}
use Rattle.beet_farmer.specs.declared.list_file.ListEntry.{ListEntry}
use Rattle.beet_farmer.specs.declared.list_file.TheConstants.{LIST_LIMIT}
use Rattle.beet_forms.specs.declared.faults.TheConstants.{LONGEST_FILE}
use Rattle.beet_plan.specs.Auction.{auction_over}
use Rattle.beet_plan.specs.Kept.{words_kept}
use Rattle.beet_view.specs.BookViews.{names}
use Rattle.beet_view.specs.Transcripts.{view_in}
use Rattle.beet_world.specs.Schedules.{schedule_of}
use Rattle.beet_world.specs.declared.schedule.TheConstants.{SCHEDULE_LIMIT}
use Rattle.beet_two_books.specs.Agreement.{is_known}
use Rattle.beet_two_books.specs.declared.agreeing.MapFault.{MapFault}
use Rattle.beet_differences.specs.Comparing.{compared, unless_apart}
use Rattle.beet_five_map.specs.FiveWorlds.{watching}
use Rattle.beet_five_load.specs.FiveLoading.{FiveRead}
use Rattle.beet_errand.specs.Errands.{Answer, Errand, Ends, Step, bad_file, reads}
use Rattle.beet_errand.specs.Fetches.{IsDone}
use Rattle.beet_errand.specs.declared.answer.OwnRefusal.TheVariants.{OfWorlds, OfAudit}
use Rattle.beet_errand.specs.declared.answer.Refusal.TheVariants.{BadFile, Own}
use Rattle.beet_errand.specs.declared.answer.Status.TheVariants.{Done, MasksSpent as Spent}
use Rattle.beet_load.specs.Counts.{counts_of, words_wanted}
use Rattle.beet_load.specs.Wanted.{wanted_of}
use Rattle.beet_load.specs.Farmers.{farmers_errand}
use Rattle.beet_load.specs.Servers.{masks_of}
use Rattle.beet_run.specs.Outcomes.{status_of}
use Rattle.beet_run.proofs.StatusFacts.{status-done}
use Rattle.beet_job_tally.specs.Tally.{not_one_price, tally_errand, tally_job, tallied}
use Rattle.beet_job_clear.specs.Clear.{clear_errand}
use Rattle.beet_job_watch.specs.Watch.{watch_errand}
use Rattle.beet_job_rehearse.specs.Rehearse.{rehearse_errand}
use Rattle.beet_job_record.specs.Records.{record_errand}
use Rattle.beet_job_witness.specs.Witness.{kept_job, list_job, witness_errand, witness_job}
use Rattle.beet_gathering.specs.Gather.{bidders_errand, envelopes_errand}
use Rattle.beet_job_envelopes.specs.Open.{entries_job, open_errand, open_job}
use Rattle.beet_job_envelopes.specs.Seal.{seal_errand, seal_job}
use Rattle.beet_job_envelopes.specs.SourceWords.{source_word}
use Rattle.beet_job_trial.specs.Adding.{enough_of_each}
use Rattle.beet_job_trial.specs.Rules.{trial_book, trial_farmers, trial_grid, trial_servers}
use Rattle.beet_job_trial.specs.Sizes.{sizes_of}
use Rattle.beet_job_trial.specs.Trial.{trial_errand}
use Rattle.beet_job_worlds.specs.Answering.{ShowsTheSame}
use Rattle.beet_book_differences.specs.Differences.{refused_text}
use Rattle.beet_job_worlds.specs.Ending.{compared_errand, difference_read}
use Rattle.beet_job_worlds.specs.Reading.{Both, both_errand, first_book, second_book, words_read}
use Rattle.beet_audit.specs.Audits.{Finds, recombined_book}
use Rattle.beet_audit.specs.declared.fault.AuditFault.{AuditFault}
use Rattle.beet_job_audit.specs.Ending.{TellsFinding, audit_answer}
use Rattle.beet_job_audit.specs.Reading.{read_errand}
use Rattle.beet_job_audit.specs.declared.reading.ReadViews.{ReadViews}
use Rattle.beet_coalition.specs.Lists.{at_server}
use Rattle.beet_five_auction.specs.FiveEndings.{book_finish as five_finish}
use Rattle.beet_job_five.specs.Five.{five_errand}
use Rattle.beet_job_five_worlds.specs.Answering.{ShowsTheSameForTwo}
use Rattle.beet_job_five_worlds.specs.Ending.{compared_errand as compared_for_two, difference_for_two}
use Rattle.beet_job_five_worlds.specs.Reading.{BothOfFive, both_errand as both_of_five, second_book as second_of_five}
use Rattle.beet_command.specs.Lines.{words_in}
use Rattle.beet_command.specs.Words.{are_names, is_word}
use Rattle.beet_app.specs.Jobs.{Job, Answering, Comparing, ComparingForTwo, Auditing, job_of, job_of_two}
use Rattle.beet_app.specs.Jobs.{five_job_of, five_job_of_seven, five_job_of_three, is_of_five, job_in, job_of_three, job_of_four}
use Rattle.beet_app.specs.Jobs.{job_of_six, two_of_five}
use Rattle.beet_app.specs.Jobs.{seal_of}
use Rattle.beet_forms.specs.Names.{is_name_of}
use Rattle.beet_app_laws.specs.Leavings.{last_word}
use Rattle.beet_app_laws.proofs.Faults.{HasLine, difference-line, finds-never}
use Rattle.beet_app_laws.proofs.Answers.{EndsWell, IsAnswer, StepsWell, all-words-well, bidders-well, curves-well}
use Rattle.beet_app_laws.proofs.Answers.{either, enough-well, five-limited-well, five-well, limited-well, loaded-well}
use Rattle.beet_app_laws.proofs.Answers.{product-well, reads-well}
use Rattle.beet_app_laws.proofs.Answers.{refused-well}
use Rattle.beet_app_laws.proofs.Answers.{servers-enough, words-well}

rehearsal-done : (one : Bool) → IsDone (if one then Spent else Done)
rehearsal-done true = inr refl
rehearsal-done false = inl refl

-- of a command that ends with this word
module _ (out : List ℕ) where
  tally-well : (auction book : List ℕ) → EndsWell out (tally_errand auction book)
  unfolding tally_job
  tally-well auction book =
      reads-well out auction AUCTION_LIMIT auction_of _ (λ grid.
      either out (grid.prices == 1)
      (reads book BOOK_LIMIT book_of (λ entries. farmers_errand (wanted_of None grid) grid None [] entries
      (λ farmers. Ends (tallied farmers))))
      (bad_file auction not_one_price) (
      reads-well out book BOOK_LIMIT book_of _ (λ entries.
      bidders-well out (counts_of grid) grid None entries _ (λ farmers. inl (inl refl, inl refl))))
      (refused-well out BadFile _ (record { name = auction; fault = not_one_price; is = refl })))

  clear-well : (auction servers book : List ℕ) → EndsWell out (clear_errand auction servers book)
  clear-well auction servers book = loaded-well out auction servers book _ (λ loaded.
      inl (status-done (book_finish (book_with loaded.grid loaded.farmers) (masks_of loaded.servers)), inl refl))

  watch-well : (auction servers book : List ℕ) → EndsWell out (watch_errand auction servers book)
  watch-well auction servers book = loaded-well out auction servers book _ (λ loaded.
      inl (status-done (book_finish (book_with loaded.grid loaded.farmers) (masks_of loaded.servers)), inl refl))

  five-ends-well : (auction servers book : List ℕ) → EndsWell out (five_errand auction servers book)
  five-ends-well auction servers book = five-well out auction servers book _ (λ read.
      inl (status-done (five_finish read.book (at_server read.words.masks)), inl refl))

  rehearse-well : (auction servers book schedule : List ℕ) →
      EndsWell out (rehearse_errand auction servers book schedule)
  rehearse-well auction servers book schedule = loaded-well out auction servers book _ (λ loaded.
      reads-well out schedule SCHEDULE_LIMIT schedule_of _ (λ deliveries. inl (rehearsal-done _, inl refl)))

  record-well : (auction servers book : List ℕ) → EndsWell out (record_errand auction servers book out)
  record-well auction servers book = limited-well out auction servers book _ (λ loaded.
      inl (status-done (book_finish (book_with loaded.grid loaded.farmers) (masks_of loaded.servers)), inr (inl refl)))

  seal-well : (auction bid : List ℕ) (source : BidderSource) → EndsWell out (seal_errand auction bid source out)
  unfolding seal_job
  seal-well auction bid source =
      reads-well out auction AUCTION_LIMIT auction_of _ (λ grid.
      reads-well out bid BID_LIMIT (bid_of grid) _ (λ curve.
      words-well out None source (words_kept grid.prices) _ (λ words.
      enough-well out 1 (words_wanted grid) words _ (inl (inl refl, inr (inl refl))))))

  envelopes-well : (grid : Grid) (names : Trio (List ℕ)) → StepsWell out (envelopes_errand grid names)
  envelopes-well grid names next h =
      reads-well out names.one ENVELOPE_LIMIT (envelope_of grid One) _ (λ one.
      reads-well out names.two ENVELOPE_LIMIT (envelope_of grid Two) _ (λ two.
      reads-well out names.three ENVELOPE_LIMIT (envelope_of grid ThreeAt) _ (λ three. h _)))

  sealed-well : (grid : Grid) (read : List (Trio (List ℕ))) (entries : List ListEntry) →
      StepsWell out (bidders_errand grid read entries)
  sealed-well grid read [] next h = h read
  sealed-well grid read (entry ∷ entries) next h =
      envelopes-well grid entry.envelopes _ (λ points. sealed-well grid (read ++ points ∷ []) entries next h)

  entries-well : (grid : Grid) (sources : Servers) (entries : List ListEntry) →
      EndsWell out (entries_job grid sources entries Ends)
  unfolding entries_job
  entries-well grid sources entries =
      all-words-well out (counts_of grid) None sources _ (λ words. sealed-well grid [] entries _ (λ bidders.
      inl (
        status-done (points_finish (auction_over grid) (inputs_at grid.prices bidders) (masks_of words.servers)),
        inl refl,
      )))

  open-well : (auction servers list : List ℕ) → EndsWell out (open_errand auction servers list)
  unfolding open_job
  open-well auction servers list =
      reads-well out auction AUCTION_LIMIT auction_of _ (λ grid.
      reads-well out servers SERVERS_LIMIT servers_of _ (λ sources.
      reads-well out list LIST_LIMIT list_of _ (λ entries. entries-well grid sources entries)))

  kept-well : (grid : Grid) (sources : Servers) (entries : List ListEntry) →
      EndsWell out (kept_job out grid sources entries Ends)
  unfolding kept_job
  kept-well grid sources entries =
      all-words-well out (counts_of grid) None sources _ (λ words. sealed-well grid [] entries _ (λ bidders.
      inl (
        status-done (points_finish (auction_over grid) (inputs_at grid.prices bidders) (masks_of words.servers)),
        inr (inl refl),
      )))

  list-well : (grid : Grid) (sources : Servers) (list : List ℕ) → EndsWell out (list_job out grid sources list Ends)
  unfolding list_job
  list-well grid sources list =
      reads-well out list LIST_LIMIT list_of _ (λ entries.
      product-well out list grid (length entries) _ (kept-well grid sources entries))

  witness-well : (auction servers list : List ℕ) → EndsWell out (witness_errand auction servers list out)
  unfolding witness_job
  witness-well auction servers list =
      reads-well out auction AUCTION_LIMIT auction_of _ (λ grid.
      reads-well out servers SERVERS_LIMIT servers_of _ (λ sources. list-well grid sources list))

  each-enough : (grid : Grid) (number : ℕ) (farmers : List BidderWithWords) (next : Errand) → EndsWell out next →
      EndsWell out (enough_of_each grid number farmers next)
  each-enough grid number [] next h = h
  each-enough grid number (farmer ∷ farmers) next h =
      enough-well out number (words_wanted grid) farmer.words _ (each-enough grid (number + 1) farmers next h)

  trial-well : (bidders prices : ℕ) → EndsWell out (trial_errand bidders prices)
  trial-well bidders prices =
      let grid = trial_grid prices in
      servers-enough out (counts_of grid) (trial_servers grid) _ (each-enough grid 1 (trial_farmers grid bidders) _
      (inl (status-done (book_finish (trial_book grid bidders) (masks_of (trial_servers grid))), inl refl)))

  differing-well : (difference : Option MapFault) → IfSome difference HasLine → (next : Errand) → EndsWell out next →
      EndsWell out (unless_apart refused_text difference next)
  differing-well None t next h = h
  differing-well (Some difference) t next h = refused-well out (Own OfWorlds) _ (difference, t)

  -- two worlds that are read go on, or are refused by the line of what tells them apart
  unless-apart-well : {A : Type 0} (step : Step A) (difference : A → Option MapFault) → StepsWell out step →
      ((both : A) → IfSome (difference both) HasLine) → StepsWell out (compared refused_text difference step)
  unless-apart-well step difference read lines next h =
      read _ (λ both. differing-well (difference both) (lines both) (next both) (h both))

  both-well : (auction servers first second : List ℕ) → StepsWell out (both_errand auction servers first second)
  unfolding both_errand
  both-well auction servers first second next h =
      limited-well out auction servers first _ (λ one. curves-well out second one.grid _ (λ bidders. h _))

  pub compared-well : (auction servers first second : List ℕ) (s : Point) →
      StepsWell out (compared_errand auction servers first second s)
  compared-well auction servers first second s =
      unless-apart-well (both_errand auction servers first second) (difference_read s)
      (both-well auction servers first second)
      (λ both. difference-line (λ mark. names mark s) (first_book both) (second_book both))

  both-of-five-well : (auction servers first second : List ℕ) → StepsWell out (both_of_five auction servers first second)
  unfolding both_of_five
  both-of-five-well auction servers first second next h =
      five-limited-well out auction servers first _ (λ one. curves-well out second one.book.grid _ (λ bidders. h _))

  pub compared-for-two-well : (auction servers first second : List ℕ) (a b : ℕ) →
      StepsWell out (compared_for_two auction servers first second a b)
  compared-for-two-well auction servers first second a b =
      unless-apart-well (both_of_five auction servers first second)
      (λ (both : BothOfFive). difference_for_two a b both.first.book (second_of_five both))
      (both-of-five-well auction servers first second)
      (λ both. difference-line (is_known (watching a b)) both.first.book (second_of_five both))

  pub read-well : (auction one two three : List ℕ) → StepsWell out (read_errand auction one two three)
  unfolding read_errand
  read-well auction one two three next h =
      reads-well out auction AUCTION_LIMIT auction_of _ (λ grid.
      reads-well out one LONGEST_FILE view_in _ (λ first.
      reads-well out two LONGEST_FILE view_in _ (λ second.
      reads-well out three LONGEST_FILE view_in _ (λ third. h _))))

  -- the errand of a job ends so; what compares two worlds or audits transcripts has none of its own, and names its
  -- files after this word
  abbrev pub JobEndsWell : Option Job → Type 0
  JobEndsWell None = Unit {0}
  JobEndsWell (Some (Answering errand)) = EndsWell out errand
  JobEndsWell (Some (Comparing auction servers first second s name)) = name ≡ out
  JobEndsWell (Some (ComparingForTwo auction servers first second two name)) = name ≡ out
  JobEndsWell (Some (Auditing auction one two three)) = Unit {0}

  choice : (b : Bool) (one other : Option Job) → JobEndsWell one → JobEndsWell other →
      JobEndsWell (if b then one else other)
  choice true one other h k = h
  choice false one other h k = k

  sized : (sizes : Option (ℕ × ℕ)) → JobEndsWell (option_map (λ s. Answering (trial_errand s.0 s.1)) sizes)
  sized None = tt
  sized (Some sizes) = trial-well sizes.0 sizes.1

  two-well : (command first second : List ℕ) → JobEndsWell (job_of_two command first second)
  two-well command first second =
      let trial = option_map (λ s. Answering (trial_errand s.0 s.1)) (sizes_of first second) in
      choice (is_word command (codes "tally") && are_names (first ∷ second ∷ []))
      (Some (Answering (tally_errand first second)))
      (if is_word command (codes "trial") then trial else None) (tally-well first second)
      (choice (is_word command (codes "trial")) trial None (sized (sizes_of first second)) tt)

  abbrev open_or : List ℕ → List ℕ → List ℕ → List ℕ → Option Job
  open_or command first second third =
      if is_word command (codes "open") then Some (Answering (open_errand first second third)) else None

  abbrev watch_or : List ℕ → List ℕ → List ℕ → List ℕ → Option Job
  watch_or command first second third =
      if is_word command (codes "watch") then Some (Answering (watch_errand first second third))
      else open_or command first second third

  abbrev clear_or : List ℕ → List ℕ → List ℕ → List ℕ → Option Job
  clear_or command first second third =
      if is_word command (codes "clear") then Some (Answering (clear_errand first second third))
      else watch_or command first second third

  open-or : (command first second third : List ℕ) → JobEndsWell (open_or command first second third)
  open-or command first second third =
      choice (is_word command (codes "open")) (Some (Answering (open_errand first second third))) None
      (open-well first second third) tt

  watch-or : (command first second third : List ℕ) → JobEndsWell (watch_or command first second third)
  watch-or command first second third =
      choice (is_word command (codes "watch")) (Some (Answering (watch_errand first second third)))
      (open_or command first second third)
      (watch-well first second third) (open-or command first second third)

  clear-or : (command first second third : List ℕ) → JobEndsWell (clear_or command first second third)
  clear-or command first second third =
      choice (is_word command (codes "clear")) (Some (Answering (clear_errand first second third)))
      (watch_or command first second third)
      (clear-well first second third) (watch-or command first second third)

  three-words-well : (command first second third : List ℕ) → JobEndsWell (job_of_three command first second third)
  three-words-well command first second third =
      choice (are_names (first ∷ second ∷ third ∷ [])) (clear_or command first second third) None
      (clear-or command first second third) tt

  sourced : (auction bid : List ℕ) (source : Option BidderSource) →
      JobEndsWell (option_map (λ from. Answering (seal_errand auction bid from out)) source)
  sourced auction bid None = tt
  sourced auction bid (Some source) = seal-well auction bid source

  abbrev audit_or : List ℕ → List ℕ → List ℕ → List ℕ → Option Job
  audit_or command first second third =
      if is_word command (codes "audit") then Some (Auditing first second third out) else None

  abbrev witness_or : List ℕ → List ℕ → List ℕ → List ℕ → Option Job
  witness_or command first second third =
      if is_word command (codes "witness") then Some (Answering (witness_errand first second third out))
      else audit_or command first second third

  abbrev record_or : List ℕ → List ℕ → List ℕ → List ℕ → Option Job
  record_or command first second third =
      if is_word command (codes "record") then Some (Answering (record_errand first second third out))
      else witness_or command first second third

  abbrev rehearse_or : List ℕ → List ℕ → List ℕ → List ℕ → Option Job
  rehearse_or command first second third =
      if is_word command (codes "rehearse") then Some (Answering (rehearse_errand first second third out))
      else record_or command first second third

  abbrev file_or : List ℕ → List ℕ → List ℕ → List ℕ → Option Job
  file_or command first second third = if is_name_of third then rehearse_or command first second third else None

  audit-well : (command first second third : List ℕ) → JobEndsWell (audit_or command first second third)
  audit-well command first second third =
      choice (is_word command (codes "audit")) (Some (Auditing first second third out)) None tt tt

  witness-or : (command first second third : List ℕ) → JobEndsWell (witness_or command first second third)
  witness-or command first second third =
      choice (is_word command (codes "witness")) (Some (Answering (witness_errand first second third out)))
      (audit_or command first second third)
      (witness-well first second third) (audit-well command first second third)

  record-or : (command first second third : List ℕ) → JobEndsWell (record_or command first second third)
  record-or command first second third =
      choice (is_word command (codes "record")) (Some (Answering (record_errand first second third out)))
      (witness_or command first second third)
      (record-well first second third) (witness-or command first second third)

  rehearse-or : (command first second third : List ℕ) → JobEndsWell (rehearse_or command first second third)
  rehearse-or command first second third =
      choice (is_word command (codes "rehearse")) (Some (Answering (rehearse_errand first second third out)))
      (record_or command first second third)
      (rehearse-well first second third out) (record-or command first second third)

  file-or : (command first second third : List ℕ) → JobEndsWell (file_or command first second third)
  file-or command first second third =
      choice (is_name_of third) (rehearse_or command first second third) None
      (rehearse-or command first second third) tt

  seal-or : (command first second third : List ℕ) →
      JobEndsWell
      (if is_word command (codes "seal") then seal_of first second third out else file_or command first second third)
  seal-or command first second third =
      choice (is_word command (codes "seal")) (seal_of first second third out) (file_or command first second third)
      (sourced first second (source_word third)) (file-or command first second third)

  four-well : (command first second third : List ℕ) → JobEndsWell (job_of_four command first second third out)
  four-well command first second third =
      choice (are_names (first ∷ second ∷ out ∷ []))
      (if is_word command (codes "seal") then seal_of first second third out else file_or command first second third)
      None
      (seal-or command first second third) tt

  server-named : (auction servers first second : List ℕ) (server : Option Point) →
      JobEndsWell (option_map (λ s. Comparing auction servers first second s out) server)
  server-named auction servers first second None = tt
  server-named auction servers first second (Some s) = refl

  six-well : (command auction servers first second server : List ℕ) →
      JobEndsWell (job_of_six command auction servers first second server out)
  six-well command auction servers first second server =
      choice (is_word command (codes "worlds") && are_names (auction ∷ servers ∷ first ∷ second ∷ out ∷ []))
      (option_map (λ s. Comparing auction servers first second s out) (server_of server)) None
      (server-named auction servers first second (server_of server)) tt

  five-three-well : (command auction servers book : List ℕ) → JobEndsWell (five_job_of_three command auction servers book)
  five-three-well command auction servers book =
      choice (is_word command (codes "five") && are_names (auction ∷ servers ∷ book ∷ []))
      (Some (Answering (five_errand auction servers book))) None
      (five-ends-well auction servers book) tt

  two-named : (auction servers first second : List ℕ) (two : Option (ℕ × ℕ)) →
      JobEndsWell (option_map (λ s. ComparingForTwo auction servers first second s out) two)
  two-named auction servers first second None = tt
  two-named auction servers first second (Some two) = refl

  five-seven-well : (command auction servers first second one other : List ℕ) →
      JobEndsWell (five_job_of_seven command auction servers first second one other out)
  five-seven-well command auction servers first second one other =
      choice (is_word command (codes "five_worlds") && are_names (auction ∷ servers ∷ first ∷ second ∷ out ∷ []))
      (option_map (λ two. ComparingForTwo auction servers first second two out) (two_of_five one other)) None
      (two-named auction servers first second (two_of_five one other)) tt

  -- the answer that shows two worlds is done
  pub shown-well : (s : Point) (both : Both) (answer : Answer) →
      ShowsTheSame s out (first_book both) (words_read both) (second_book both) answer → IsAnswer out answer
  shown-well s both answer w =
      let end = book_finish (first_book both) (words_read both).masks in
      let is : answer.status ≡ status_of end = ap (λ (a : Answer). a.status) w.is in
      inl (subst IsDone (sym is) (status-done end), inr (inr (ap (λ (a : Answer). map (λ file. file.0) a.files) w.is)))

  pub shown-for-two-well : (a b : ℕ) (both : BothOfFive) (answer : Answer) →
      ShowsTheSameForTwo a b out both.first (second_of_five both) answer → IsAnswer out answer
  shown-for-two-well a b both answer w =
      let end = five_finish both.first.book (at_server both.first.words.masks) in
      let is : answer.status ≡ status_of end = ap (λ (a : Answer). a.status) w.is in
      inl (subst IsDone (sym is) (status-done end), inr (inr (ap (λ (a : Answer). map (λ file. file.0) a.files) w.is)))

  found-well : (read : ReadViews) (found : Option AuditFault) → Finds read.grid read.views found →
      IsAnswer out (audit_answer read found)
  found-well read None finds =
      inl (
        status-done (book_finish (recombined_book read.grid read.views) (of_each (λ view. view.masks) read.views)),
        inl refl,
      )
  found-well read (Some fault) finds =
      inr (
        Own OfAudit,
        refl,
        (
          fault,
          (λ e. finds-never read.grid read.views (subst (λ f. Finds read.grid read.views (Some f)) e finds)),
          refl,
        ),
        refl,
      )

  -- and so is that of an audit, or it is the refusal
  pub audited-well : (read : ReadViews) (answer : Answer) → TellsFinding read answer → IsAnswer out answer
  audited-well read answer w = subst (IsAnswer out) (sym w.is) (found-well read w.found w.finds)

-- the job that the words of a command among three servers name ends so
three-servers : (words : List (List ℕ)) → JobEndsWell (last_word words) (job_in (words_in words))
three-servers (command ∷ a ∷ b ∷ []) = two-well b command a b
three-servers (command ∷ a ∷ b ∷ c ∷ []) = three-words-well c command a b c
three-servers (command ∷ a ∷ b ∷ c ∷ d ∷ []) = four-well d command a b c
three-servers (command ∷ a ∷ b ∷ c ∷ d ∷ e ∷ []) = tt
three-servers (command ∷ a ∷ b ∷ c ∷ d ∷ e ∷ f ∷ []) = six-well f command a b c d e
three-servers (command ∷ a ∷ b ∷ c ∷ d ∷ e ∷ f ∷ g ∷ []) = tt
three-servers words = tt

-- and so does that of a command among five
five-servers : (words : List (List ℕ)) → JobEndsWell (last_word words) (five_job_of words)
five-servers (command ∷ a ∷ b ∷ []) = tt
five-servers (command ∷ a ∷ b ∷ c ∷ []) = five-three-well c command a b c
five-servers (command ∷ a ∷ b ∷ c ∷ d ∷ []) = tt
five-servers (command ∷ a ∷ b ∷ c ∷ d ∷ e ∷ []) = tt
five-servers (command ∷ a ∷ b ∷ c ∷ d ∷ e ∷ f ∷ []) = tt
five-servers (command ∷ a ∷ b ∷ c ∷ d ∷ e ∷ f ∷ g ∷ []) = five-seven-well g command a b c d e f
five-servers words = tt

-- the job that words name ends so
pub job-well : (words : List (List ℕ)) → JobEndsWell (last_word words) (job_of words)
job-well words =
    choice (last_word words) (is_of_five words) (five_job_of words) (job_in (words_in words)) (five-servers words)
    (three-servers words)
