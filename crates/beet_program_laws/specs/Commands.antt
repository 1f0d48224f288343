-- What each command has read, put and said if its run ends with status 0 or 6, over a shelf whose answers are of
-- these files.
use Rattle.std.specs.Prelude.{◌≡◌, ◌≤◌, ◌++◌, ℕ, List, [], ◌∷◌, All, length, map, codes, decimal, Some}
use Rattle.std.specs.Prelude.{Ok}
use Rattle.beet_field.specs.Trio.{member, of_each, trio_of}
use Rattle.beet_field.specs.declared.point.Point.{Point}
use Rattle.beet_field.specs.declared.point.Point.TheVariants.{One, Two, Three}
use Rattle.beet_field.specs.declared.trio.Trio.{Trio}
use Rattle.beet_store.specs.Files.{File}
use Rattle.beet_words.specs.Bundles.{Words, bundle_bytes}
use Rattle.beet_words.specs.Words.{IsWord, accepted}
use Rattle.beet_bids.specs.Books.{Book, IsBook}
use Rattle.beet_bids.specs.Curves.{IsCurve, IsOfGrid}
use Rattle.beet_bids.specs.Grids.{IsGrid}
use Rattle.beet_bids.specs.Sums.{demand_at, supply_at}
use Rattle.beet_book.specs.Dealing.{points_at, quantities}
use Rattle.beet_book.specs.Farmers.{BidderWithWords, book_with}
use Rattle.beet_book.specs.PointSums.{inputs_at}
use Rattle.beet_farmer.specs.Envelopes.{envelope_of}
use Rattle.beet_plan.specs.Auction.{auction_over}
use Rattle.beet_delivery.specs.Events.{after, undelivered}
use Rattle.beet_auction.specs.AnyPoints.{points_finish, points_rounds}
use Rattle.beet_auction.specs.Setups.{rounds_for, setup_for}
use Rattle.beet_desk.specs.Counts.{count_in}
use Rattle.beet_world.specs.Schedules.{schedule_of}
use Rattle.beet_world.specs.Worlds.{named_in}
use Rattle.beet_world.specs.declared.schedule.Delivery.{Delivery}
use Rattle.beet_world.specs.declared.schedule.TheConstants.{SCHEDULE_LIMIT}
use Rattle.beet_auction_map.specs.ViewsWith.{transcript_with}
use Rattle.beet_headline.specs.Statements.{AllHaveEnded, AreOnePair, AreTwoBooks, standing}
use Rattle.beet_errand.specs.Errands.{Step, reads}
use Rattle.beet_errand.specs.Statuses.{code_of}
use Rattle.beet_errand.specs.Texts.{line_of}
use Rattle.beet_errand.specs.Worlds.{equal_text, files_of_worlds}
use Rattle.beet_load.specs.Counts.{counts_of, words_wanted}
use Rattle.beet_load.specs.Loading.{AuctionWithBidders, loaded_errand}
use Rattle.beet_load.specs.Servers.{coefficients_of, masks_of}
use Rattle.beet_load.specs.Wholes.{CanDeal, all_words, limited_errand}
use Rattle.beet_run.specs.OutcomeTexts.{outcome_text}
use Rattle.beet_run.specs.Outcomes.{status_of}
use Rattle.beet_job_rehearse.specs.Rehearse.{rehearsal_status}
use Rattle.beet_job_rehearse.specs.StandingTexts.{rehearsal_text}
use Rattle.beet_job_rehearse.specs.declared.standing.Rehearsal.{Rehearsal}
use Rattle.beet_job_envelopes.specs.SealedBooks.{HaveWords, HoldEachSealed}
use Rattle.beet_job_trial.specs.Rules.{trial_book, trial_farmers, trial_grid, trial_servers}
use Rattle.beet_job_trial.specs.Sizes.{sizes_of}
use Rattle.beet_job_trial.specs.Trial.{sizes_text}
use Rattle.beet_job_watch.specs.Watch.{count_text}
use Rattle.beet_job_worlds.specs.Reading.{both_errand}
use Rattle.beet_view.specs.BookViews.{view_of_book}
use Rattle.beet_view.specs.Transcripts.{view_bytes}
use Rattle.beet_transcripts.specs.RunsOn.{view_of_points}
use Rattle.beet_witness_laws.specs.SealedCurves.{AreSealed, CanBeWitnessed}
use Rattle.beet_audit.specs.Audits.{recombined_book, run_of}
use Rattle.beet_audit.specs.OneRuns.{OneRun}
use Rattle.beet_job_audit.specs.Reading.{read_errand}
use Rattle.beet_job_audit.specs.declared.reading.ReadViews.{ReadViews}
use Rattle.beet_errand.specs.Overs.{ReadsTo}
use Rattle.beet_load.specs.WholeViews.{loaded_with}
use Rattle.beet_app_laws.specs.Calls.{Call, Puts, Says}
use Rattle.beet_app_laws.specs.Readings.{OpenRead, SealRead, TallyRead}
use Rattle.beet_five_load.specs.FiveLoading.{FiveRead, five_loaded_errand}
use Rattle.beet_five_dealing.specs.FiveWords.{FiveWords}
use Rattle.beet_five_map.specs.FiveWorlds.{AreTwoBooks as AreTwoBooksForTwo}
use Rattle.beet_five_view.specs.JointBooks.{joint_transcript}
use Rattle.beet_five_view.specs.WordsFiles.{words_bytes}
use Rattle.beet_headline.specs.FiveStatements.{LookTheSame}
use Rattle.beet_job_five_worlds.specs.Reading.{BothOfFive, both_errand as both_of_five, second_book as second_of_five}
use Rattle.beet_program_laws.specs.Outcomes.{FiveServersOpen, IsShown, ServersOpen, TellsOfFive, TellsTheEnd}
use Rattle.beet_program_laws.specs.Outcomes.{three_files, transcript_files}

-- `tally`: the files read as a grid of one price and the bidders of a book, each with words enough; the sums of what
-- they sell and buy at that price were said, and nothing else
pub record Tallies (files : List File) (auction book_file : List ℕ) (call : Call) : Type 0 where
  pub read : TallyRead files auction book_file
  pub one_price : read.grid.value.prices ≡ 1
  pub is_book : IsBook (book_with read.grid.value read.farmers.value)
  pub have_words : HaveWords read.grid.value read.farmers.value
  pub is_done : call.status ≡ 0
  pub said :
      let bidders = (book_with read.grid.value read.farmers.value).bidders in
      Says call (line_of (codes "supply " ++ decimal (supply_at bidders 0))
      ++ line_of (codes "demand " ++ decimal (demand_at bidders 0)))

-- a step reads a book with words over the files, and the status and a text tell what its servers open
pub record OpensBook (files : List File) (step : Step AuctionWithBidders) (status : ℕ) : Type 0 where
  pub book : Book
  pub words : Words
  pub read : ReadsTo files step (loaded_with book words)
  pub run : ServersOpen book words
  pub text : List ℕ
  pub tells : TellsTheEnd book words status text

-- `clear`: the files read as a book with words; what its servers open was said, and nothing else
pub record Clears (files : List File) (auction servers book_file : List ℕ) (call : Call) : Type 0 where
  pub opens : OpensBook files (loaded_errand auction servers book_file) call.status
  pub open opens use *
  pub said : Says call text

-- `five`: the files read as a book with words of five servers; what these open was said, and nothing else
pub record ClearsAmongFive (files : List File) (auction servers book_file : List ℕ) (call : Call) : Type 0 where
  pub read : FiveRead
  pub is_read : ReadsTo files (five_loaded_errand auction servers book_file) read
  pub run : FiveServersOpen read.book read.words
  pub text : List ℕ
  pub tells : TellsOfFive read.book read.words call.status text
  pub said : Says call text

-- `watch`: what `clear` says was said, and then of each server how many notes the desk counted and how many numbers
-- they name: the rounds of the run of this book among three servers, and the numbers that it opens
pub record Watches (files : List File) (auction servers book_file : List ℕ) (call : Call) : Type 0 where
  pub opens : OpensBook files (loaded_errand auction servers book_file) call.status
  pub open opens use *
  pub said :
      let count = count_in (setup_for book words) (rounds_for book words) in
      Says call (text ++ count_text One count ++ count_text Two count ++ count_text Three count)

-- `record`: what `clear` says was said, and before the text the transcripts of the run were put
pub record RecordsRun (files : List File) (auction servers book_file out : List ℕ) (call : Call) : Type 0 where
  pub opens : OpensBook files (limited_errand auction servers book_file) call.status
  pub open opens use *
  pub gives : Puts call (transcript_files out book words) text

-- `rehearse`: the files read as a book with words, and a schedule; it was said how each server stands after the
-- deliveries of the schedule, and how many messages are undelivered. The status is 6 if a server has ended with
-- spent masks. If nothing is undelivered, all have ended
pub record ShowsStandings (files : List File) (auction servers book_file name : List ℕ) (call : Call) : Type 0 where
  pub book : Book
  pub words : Words
  pub read : ReadsTo files (loaded_errand auction servers book_file) (loaded_with book words)
  pub schedule : List Delivery
  pub scheduled : ReadsTo files (reads name SCHEDULE_LIMIT schedule_of) schedule
  pub run : ServersOpen book words
  pub rehearsal : Rehearsal
  pub shown : (s : Point) → IsShown (standing book words (named_in schedule) s) (member rehearsal.servers s)
  pub left : rehearsal.undelivered
      ≡ undelivered (rounds_for book words) (after (rounds_for book words) (named_in schedule))
  pub all : rehearsal.undelivered ≡ 0 → AllHaveEnded book words (named_in schedule)
  pub status_is : call.status ≡ code_of (rehearsal_status rehearsal)
  pub said : Says call (rehearsal_text book.grid rehearsal)

-- `seal`: the files read as a grid, a curve of it, and words of the source that are enough. An envelope for each server
-- was put: it reads back as that server's points of the lines whose values are the curve's quantities, and whose slopes
-- are the accepted words, in order. Then the number of prices was said
pub record Seals (files : List File) (auction bid source out : List ℕ) (call : Call) : Type 0 where
  pub read : SealRead files auction bid source
  pub is_grid : IsGrid read.grid.value
  pub is_curve : IsCurve read.curve.value
  pub of_grid : IsOfGrid read.grid.value read.curve.value
  pub are_words : All IsWord read.words.value
  pub enough : words_wanted read.grid.value ≤ length (accepted read.words.value)
  pub envelopes : Trio (List ℕ)
  pub read_back : (s : Point) → envelope_of read.grid.value s (member envelopes s)
      ≡ Ok (record { server = s; points = points_at (quantities read.curve.value) (accepted read.words.value) s })
  pub is_done : call.status ≡ 0
  pub gives : Puts call (three_files out envelopes) (line_of (codes "sealed " ++ decimal read.grid.value.prices))

-- of a grid, words of servers and points of bidders that are read, which may lie on no line, the status and the text
-- tell what is found over the sums of these points. If the files hold what bidders sealed of a book, it is its outcome,
-- which its servers open
pub record TellsOfEnvelopes (files : List File) (auction servers list : List ℕ)
    (read : OpenRead files auction servers list) (status : ℕ) (text : List ℕ) : Type 0 where
  pub text_is :
      let a = auction_over read.grid.value in
      let inputs = inputs_at read.grid.value.prices read.bidders.value in
      let masks = masks_of read.words.value.servers in
      (status ≡ code_of (status_of (points_finish a inputs masks)))
      × (text ≡ outcome_text read.grid.value (points_finish a inputs masks) (points_rounds a inputs masks))
  pub sealed : (farmers : List BidderWithWords) →
      let book = book_with read.grid.value farmers in
      HoldEachSealed files read.grid.value read.entries.value farmers → IsBook book →
      HaveWords read.grid.value farmers →
      TellsTheEnd book (all_words read.words.value.servers (map (λ farmer. farmer.words) farmers)) status text
  pub servers_open : (farmers : List BidderWithWords) → IsBook (book_with read.grid.value farmers) →
      All (λ farmer. CanDeal (counts_of read.grid.value) farmer.words × All IsWord farmer.words) farmers →
      ServersOpen (book_with read.grid.value farmers)
      (all_words read.words.value.servers (map (λ farmer. farmer.words) farmers))

-- `open`: the files read as these, and it was said
pub record OpensEnvelopes (files : List File) (auction servers list : List ℕ) (call : Call) : Type 0 where
  pub read : OpenRead files auction servers list
  pub text : List ℕ
  pub tells : TellsOfEnvelopes files auction servers list read call.status text
  pub said : Says call text

-- `witness`: so it is, within the limits of transcripts, and before the text it was put what each server sees of the
-- run on these points. If the files hold what bidders sealed of a book, and no server knows one of them, it is what
-- the server sees of the book's auction
pub record WitnessesEnvelopes (files : List File) (auction servers list out : List ℕ) (call : Call) : Type 0 where
  pub read : OpenRead files auction servers list
  pub limits : CanBeWitnessed read.grid.value read.bidders.value read.words.value.servers
  pub text : List ℕ
  pub tells : TellsOfEnvelopes files auction servers list read call.status text
  pub gives :
      let seen = view_of_points read.grid.value read.bidders.value read.words.value.servers in
      Puts call (three_files out (trio_of (λ s. view_bytes (seen s)))) text
  pub sealed : (farmers : List BidderWithWords) →
      let grid = read.grid.value in
      let words = read.words.value.servers in
      HoldEachSealed files grid read.entries.value farmers → IsBook (book_with grid farmers) →
      HaveWords grid farmers → AreSealed farmers → (s : Point) →
      view_of_points grid read.bidders.value words s
      ≡ view_of_book grid farmers (masks_of words) (coefficients_of words) s

-- `trial`: the words are two sizes; what servers open of the book that the rule makes of them was said
pub record RunsTrial (first second : List ℕ) (call : Call) : Type 0 where
  pub bidders : ℕ
  pub prices : ℕ
  pub sizes : sizes_of first second ≡ Some (bidders, prices)
  pub text : List ℕ
  pub words : Words
  pub words_are : words ≡ all_words (trial_servers (trial_grid prices))
      (map (λ farmer. farmer.words) (trial_farmers (trial_grid prices) bidders))
  pub run : ServersOpen (trial_book (trial_grid prices) bidders) words
  pub tells : TellsTheEnd (trial_book (trial_grid prices) bidders) words call.status text
  pub said : Says call (sizes_text bidders prices ++ text)

-- `worlds`: the files read as two books that agree for the server, and words for the first; there are words for the
-- second that go with these and with no others. What the server sees of both runs was put, which is the same, and these
-- words; and how the first run ends was said
pub record PutsBothWorlds (files : List File) (auction servers book1 book2 : List ℕ) (s : Point) (out : List ℕ)
    (call : Call) :
    Type 0 where
  pub first : Book
  pub words : Words
  pub second : Book
  pub read : ReadsTo files (both_errand auction servers book1 book2)
      (record { first = loaded_with first words; second = second.bidders })
  pub two : AreTwoBooks s first second
  pub run : ServersOpen first words
  pub second_words : Words
  pub pair : AreOnePair s first words second second_words
  pub text : List ℕ
  pub tells : TellsTheEnd first words call.status text
  pub gives : Puts call
      (files_of_worlds out (transcript_with first words s) (transcript_with second second_words s)
      (bundle_bytes second_words))
      (text ++ equal_text)

-- the words of a comparison of two books for two servers of five
abbrev pub five_worlds_words : List ℕ → List ℕ → List ℕ → List ℕ → List ℕ → List ℕ → List ℕ → List (List ℕ)
five_worlds_words auction servers book1 book2 one other out =
    codes "five_worlds" ∷ auction ∷ servers ∷ book1 ∷ book2 ∷ one ∷ other ∷ out ∷ []

-- `five_worlds`: the files read as two books that agree for servers a and b together, and words of five servers for the
-- first; there are words for the second that go with these and with no others. What the two see together of both runs
-- was put, which is the same, byte for byte, and these words; and how the first run ends was said
pub record PutsBothWorldsForTwo (files : List File) (auction servers book1 book2 : List ℕ) (a b : ℕ) (out : List ℕ)
    (call : Call) :
    Type 0 where
  pub both : BothOfFive
  pub read : ReadsTo files (both_of_five auction servers book1 book2) both
  pub two : AreTwoBooksForTwo a b both.first.book (second_of_five both)
  pub run : FiveServersOpen both.first.book both.first.words
  pub second_words : FiveWords
  pub look : LookTheSame a b both.first.book both.first.words (second_of_five both) second_words
  pub text : List ℕ
  pub tells : TellsOfFive both.first.book both.first.words call.status text
  pub gives : Puts call
      (files_of_worlds out (joint_transcript a b both.first.book both.first.words)
      (joint_transcript a b (second_of_five both) second_words) (words_bytes second_words))
      (text ++ equal_text)

-- `audit`: the files read as a grid and three views of one run, which is that of a book with words: the book that the
-- points recombine to, and the words of the tapes, with words of the bidders that begin the same run; how its auction
-- ends was said
pub record AuditsOneRun (files : List File) (auction one two three : List ℕ) (call : Call) : Type 0 where
  pub read : ReadViews
  pub are_read : ReadsTo files (read_errand auction one two three) read
  pub one_run : OneRun read.grid read.views
  pub words : Words
  pub masks : words.masks ≡ of_each (λ view. view.masks) read.views
  pub coefficients : words.coefficients ≡ of_each (λ view. view.coefficients) read.views
  pub same_run : run_of read.grid read.views ≡ setup_for (recombined_book read.grid read.views) words
  pub run : ServersOpen (recombined_book read.grid read.views) words
  pub text : List ℕ
  pub tells : TellsTheEnd (recombined_book read.grid read.views) words call.status text
  pub said : Says call text
