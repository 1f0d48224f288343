-- What each job that has an errand of its own has read, put and said.
use Rattle.std.proofs.Common.{◌≡◌, ◌≤◌, ◌<◌, ◌+◌, ◌==◌, ℕ, List, [], ◌∷◌, length, get_or, map, Bool, true, false}
use Rattle.std.proofs.Common.{Option, Some, None, if◌then◌else◌, refl, sym, ap, subst, ◌∙◌, arith}
use Rattle.std.specs.Prelude.{All, codes}
use Rattle.std.proofs.lemmas.List.{get_or-map, length-map}
use Rattle.beet_field.specs.Trio.{member}
use Rattle.beet_field.specs.declared.point.Point.{Point}
use Rattle.beet_field.specs.declared.point.Point.TheVariants.{One, Two, Three}
use Rattle.beet_field.specs.declared.trio.Trio.{Trio}
use Rattle.beet_store.specs.Files.{File}
use Rattle.beet_forms.specs.Names.{is_name_of}
use Rattle.beet_words.specs.Bundles.{Words}
use Rattle.beet_words.specs.Words.{IsWord}
use Rattle.beet_words.specs.declared.bundle.TheConstants.{MOST_BIDDERS}
use Rattle.beet_bids.specs.AuctionFiles.{auction_of}
use Rattle.beet_bids.specs.Books.{Book, IsBook}
use Rattle.beet_bids.specs.Curves.{IsCurve, IsOfGrid}
use Rattle.beet_bids.specs.Grids.{Grid, IsGrid}
use Rattle.beet_bids.specs.declared.auction_file.TheConstants.{AUCTION_LIMIT}
use Rattle.beet_bids.specs.declared.book.Bidder.{Bidder}
use Rattle.beet_book.specs.Farmers.{BidderWithWords, book_with}
use Rattle.beet_book.specs.ServerFiles.{servers_of}
use Rattle.beet_book.specs.declared.server_file.TheConstants.{SERVERS_LIMIT}
use Rattle.beet_book.specs.declared.sources.Servers.{Servers}
use Rattle.beet_farmer.specs.Lists.{list_of}
use Rattle.beet_farmer.specs.declared.list_file.ListEntry.{ListEntry}
use Rattle.beet_farmer.specs.declared.list_file.TheConstants.{LIST_LIMIT}
use Rattle.beet_gates.specs.Plans.{plan_finish}
use Rattle.beet_plan.specs.Auction.{auction_over, auction_plan}
use Rattle.beet_plan.specs.declared.Finish.{Finish}
use Rattle.beet_sharing.specs.Runs.{shared_at}
use Rattle.beet_delivery.specs.Events.{Triple, after, passed, undelivered}
use Rattle.beet_server.specs.Endings.{Ends as EndsAt, Waits}
use Rattle.beet_auction.specs.Endings.{book_finish, book_rounds}
use Rattle.beet_auction.specs.Setups.{rounds_for, setup_for}
use Rattle.beet_view.specs.BookViews.{transcript_for, transcript_of_book}
use Rattle.beet_world.specs.Schedules.{schedule_of}
use Rattle.beet_world.specs.Worlds.{named_in}
use Rattle.beet_world.specs.declared.schedule.Delivery.{Delivery}
use Rattle.beet_world.specs.declared.schedule.TheConstants.{SCHEDULE_LIMIT}
use Rattle.beet_auction_map.specs.ViewsWith.{transcript_with}
use Rattle.beet_headline.specs.Statements.{AllHaveEnded, standing}
use Rattle.beet_headline.proofs.Standings.{all-ended, ends}
use Rattle.beet_errand.specs.Errands.{Answer, Ends, Step, ◌>>=◌, file_for, gives, reads}
use Rattle.beet_errand.specs.Statuses.{IsDoneCode, code_of}
use Rattle.beet_load.specs.Counts.{counts_of}
use Rattle.beet_load.specs.Wanted.{wanted_of}
use Rattle.beet_load.specs.Loading.{AuctionWithBidders, loaded_errand}
use Rattle.beet_load.specs.Servers.{ServerWords, all_words_errand, coefficients_of, masks_of}
use Rattle.beet_load.specs.Wholes.{CanDeal, all_words, limited_errand}
use Rattle.beet_run.specs.Outcomes.{cleared, outcome_answer}
use Rattle.beet_job_rehearse.specs.Rehearse.{rehearse_errand, rehearse_job, rehearsed}
use Rattle.beet_job_rehearse.specs.Standings.{rehearsal_of, standing_of}
use Rattle.beet_job_rehearse.specs.declared.standing.Standing.TheVariants.{Waiting, Ended}
use Rattle.beet_job_record.specs.Records.{record_errand, recorded_answer}
use Rattle.beet_gathering.specs.Gather.{bidders_errand}
use Rattle.beet_job_envelopes.specs.Open.{entries_job, open_errand, open_job}
use Rattle.beet_gathering.specs.Opened.{opened_answer}
use Rattle.beet_job_envelopes.specs.SealedBooks.{HaveWords, HoldEachSealed, sealed_points}
use Rattle.beet_job_envelopes.proofs.SealedBooks.{outcome-sealed}
use Rattle.beet_job_envelopes.proofs.SealedFiles.{sealed-files}
use Rattle.beet_job_worlds.proofs.SecondWords.{words-uncut}
use Rattle.beet_command.specs.Words.{are_names}
use Rattle.beet_app.specs.Jobs.{Answering}
use Rattle.beet_errand.specs.Overs.{ReadsTo}
use Rattle.beet_app_laws.proofs.Telling.{one-value, told-each, told-list, told-trio}
use Rattle.beet_app_laws.specs.Calls.{Call, IsOf, Puts, RunsJob, RunsJobOf}
use Rattle.beet_app_laws.specs.Readings.{OpenRead, Read}
use Rattle.beet_program_laws.specs.Commands.{Clears, OpensBook, OpensEnvelopes, RecordsRun, ShowsStandings, TellsOfEnvelopes}
use Rattle.beet_load.specs.WholeViews.{loaded_with}
use Rattle.beet_program_laws.specs.Outcomes.{IsShown, ServersOpen, TellsTheEnd, transcript_files}
use Rattle.beet_program_laws.proofs.Ends.{Found, WentOut, found, named, servers-open, tells}
use Rattle.beet_program_laws.proofs.Envelopes.{AreHeld, bidders-yield}
use Rattle.beet_program_laws.proofs.Grids.{grid-is}
use Rattle.beet_program_laws.proofs.Read.{AreServed, CanServeAll, IsLoaded, IsRead, all-words-yield, back, can-run}
use Rattle.beet_program_laws.proofs.Read.{can-run-cut, farmers-back, is-book, limited-yield, loaded-yield, the_book}
use Rattle.beet_program_laws.proofs.Read.{the_words}
use Rattle.beet_program_laws.proofs.Steps.{Yields, any-yield, gives-yield, reads-yield, then-told}

-- what was loaded is a book with words
module _ (loaded : AuctionWithBidders) (h : IsLoaded loaded) where
  abbrev pub book_in : Book
  book_in = the_book loaded.grid loaded.servers loaded.farmers

  abbrev pub words_in : Words
  words_in = the_words loaded.grid loaded.servers loaded.farmers

  pub read-back : (files : List File) (step : Step AuctionWithBidders) → ReadsTo files step loaded →
      ReadsTo files step (loaded_with book_in words_in)
  read-back files step r =
      subst (λ (l : AuctionWithBidders). ReadsTo files step l) (sym (back loaded.grid loaded.servers loaded.farmers)) r

  pub runs-in : ServersOpen book_in words_in
  runs-in =
      servers-open book_in words_in (is-book loaded.grid loaded.servers loaded.farmers h.few h.farmers h.servers)
      (can-run loaded.grid loaded.servers loaded.farmers h.few h.farmers h.servers)

  -- a step reads it, and what is cleared of it tells what its servers open
  abbrev pub opens-book : (files : List File) (step : Step AuctionWithBidders) → ReadsTo files step loaded → (status : ℕ) →
      status ≡ code_of (cleared loaded).status → OpensBook files step status
  opens-book files step reads status code = record {
    book = book_in;
    words = words_in;
    read = read-back files step reads;
    run = runs-in;
    text = (cleared loaded).text;
    tells = tells book_in words_in status code;
  }

  -- its transcripts are those of the words that are kept
  same-transcript : (s : Point) → transcript_of_book loaded.grid loaded.farmers (masks_of loaded.servers)
      (coefficients_of loaded.servers) s ≡ transcript_with book_in words_in s
  same-transcript s =
      ap (λ (l : List BidderWithWords). transcript_of_book loaded.grid l (masks_of loaded.servers)
      (coefficients_of loaded.servers) s) (sym (farmers-back loaded.farmers))
      ∙ ap (λ (w : Words). transcript_for book_in w s)
      (sym
      (words-uncut book_in words_in (can-run-cut loaded.grid loaded.servers loaded.farmers h.few h.farmers h.servers)))

  pub same-files : (out : List ℕ) → (recorded_answer out loaded).files ≡ transcript_files out book_in words_in
  same-files out = λ i.
      (file_for out One, same-transcript One i) ∷ (file_for out Two, same-transcript Two i)
      ∷ (file_for out Three, same-transcript Three i) ∷ []

module _ (files : List File) (call : Call) (from : IsOf files call) (w : IsDoneCode call.status) where
  -- ---- clear and record

  cleared-by : (auction servers list : List ℕ) (loaded : AuctionWithBidders) (h : IsLoaded loaded) →
      ReadsTo files (loaded_errand auction servers list) loaded →
      WentOut (cleared loaded) call → Clears files auction servers list call
  cleared-by auction servers list loaded h read out = record {
    opens = opens-book loaded h files (loaded_errand auction servers list) read call.status out.code;
    said = out.calls;
  }

  -- a command with three files whose job answers of the auction and the bidders that are read
  pub loads : (answer : AuctionWithBidders → Answer) (auction servers list : List ℕ) →
      RunsJob (if are_names (auction ∷ servers ∷ list ∷ [])
      then Some (Answering (loaded_errand auction servers list (λ loaded. Ends (answer loaded)))) else None) call →
      Found files call from w (loaded_errand auction servers list) answer IsLoaded
  loads answer auction servers list ran =
      let errand = loaded_errand auction servers list (λ loaded. Ends (answer loaded)) in
      found files call from w (loaded_errand auction servers list) answer IsLoaded (loaded-yield files auction servers list)
      (named files call from w (are_names (auction ∷ servers ∷ list ∷ [])) (Some (Answering errand)) ran)

  pub clears : (auction servers list : List ℕ) → RunsJobOf (codes "clear" ∷ auction ∷ servers ∷ list ∷ []) call →
      Clears files auction servers list call
  clears auction servers list ran =
      let f = loads cleared auction servers list ran in
      cleared-by auction servers list f.value f.holds f.read f.out

  recorded-by : (auction servers list out : List ℕ) (loaded : AuctionWithBidders) (h : IsLoaded loaded) →
      ReadsTo files (limited_errand auction servers list) loaded →
      WentOut (recorded_answer out loaded) call → RecordsRun files auction servers list out call
  recorded-by auction servers list out loaded h read went = record {
    opens = opens-book loaded h files (limited_errand auction servers list) read call.status went.code;
    gives = subst (λ (l : List File). Puts call l (recorded_answer out loaded).text)
        (same-files loaded h out) went.calls;
  }

  pub records : (auction servers list out : List ℕ) →
      RunsJobOf (codes "record" ∷ auction ∷ servers ∷ list ∷ out ∷ []) call →
      RecordsRun files auction servers list out call
  records auction servers list out ran =
      let job = Some (Answering (record_errand auction servers list out)) in
      let r' = named files call from w (are_names (auction ∷ servers ∷ out ∷ []))
      (if is_name_of list then job else None) ran in
      let r = named files call from w (is_name_of list) job r' in
      let f = found files call from w (limited_errand auction servers list)
      (recorded_answer out) IsLoaded (limited-yield files auction servers list) r in
      recorded-by auction servers list out f.value f.holds f.read f.out

-- ---- rehearse

shown-by : (b : Bool) (named : Option Finish) (finish : Finish) (t : ℕ) → named ≡ Some finish →
    IsShown (if b then EndsAt named else Waits t) (if b then Ended finish else Waiting t)
shown-by true named finish t e = ap EndsAt e
shown-by false named finish t e = refl

module _ (book : Book) (words : Words) (run : ServersOpen book words) (es : List Triple) where
  abbrev rounds : ℕ
  rounds = book_rounds book words.masks

  abbrev finish : Finish
  finish = book_finish book words.masks

  abbrev own_rounds : ℕ
  own_rounds = rounds_for book words

  abbrev end_named : ℕ → Option Finish
  end_named n = plan_finish (auction_plan (auction_over book.grid)) (shared_at (setup_for book words) n).opened

  counted : own_rounds ≡ rounds
  counted = (ends book words run.is_book run.can_run).counted

  named-end : end_named own_rounds ≡ Some finish
  named-end = ap end_named counted ∙ (ends book words run.is_book run.can_run).finish_named

  own-shown : (s : Point) → IsShown (standing book words es s)
      (standing_of finish own_rounds (after own_rounds es) s)
  own-shown s =
      let t = passed own_rounds (after own_rounds es) s in
      shown-by (t == own_rounds) (end_named own_rounds) finish t named-end

  -- what is told of a server is how it stands
  shown-at : (s : Point) → IsShown (standing book words es s)
      (standing_of finish rounds (after rounds es) s)
  shown-at s =
      subst (λ (r : ℕ). IsShown (standing book words es s)
      (standing_of finish r (after r es) s)) counted (own-shown s)

  pub shown : (s : Point) → IsShown (standing book words es s)
      (member (rehearsal_of finish rounds (after rounds es)).servers s)
  shown One = shown-at One
  shown Two = shown-at Two
  shown Three = shown-at Three

  pub left : undelivered rounds (after rounds es)
      ≡ undelivered own_rounds (after own_rounds es)
  left = ap (λ (r : ℕ). undelivered r (after r es)) (sym counted)

  pub none-left : undelivered rounds (after rounds es) ≡ 0 →
      AllHaveEnded book words es
  none-left none = all-ended book words run.is_book run.can_run es (sym left ∙ none)

-- an auction, the words of its servers and the points in the envelopes of a list, each as it is read
abbrev pub sealed_read : {files : List File} {auction servers list : List ℕ}
    (grid : Read files (reads auction AUCTION_LIMIT auction_of)) (sources : Read files (reads servers SERVERS_LIMIT servers_of))
    (entries : Read files (reads list LIST_LIMIT list_of)) →
    Read files (all_words_errand (wanted_of None grid.value) None sources.value) →
    Read files (bidders_errand grid.value [] entries.value) → OpenRead files auction servers list
sealed_read grid sources entries words bidders =
    record { grid = grid; sources = sources; entries = entries; words = words; bidders = bidders }

-- where a job is done that reads the words and then the points, these have P, whatever is answered of them
pub sealed-yield : (files : List File) (grid : Grid) (sources : Servers) (entries : List ListEntry)
    (answer : Trio ServerWords → List (Trio (List ℕ)) → Answer) (P : Answer → Type 0) →
    ((words : Read files (all_words_errand (wanted_of None grid) None sources)) (bidders : Read files (bidders_errand grid [] entries)) →
    CanServeAll (counts_of grid) words.value.servers → AreHeld grid (0 + length entries) bidders.value →
    P (answer words.value.servers bidders.value)) →
    Yields files (all_words_errand (wanted_of None grid) None sources >>= λ words. bidders_errand grid [] entries >>= λ bidders.
    gives (answer words.servers bidders)) P
sealed-yield files grid sources entries answer P each =
    then-told files (all_words_errand (wanted_of None grid) None sources)
    (λ words. bidders_errand grid [] entries >>= λ bidders. gives (answer words.servers bidders)) (AreServed (counts_of grid)) P
    (all-words-yield files (wanted_of None grid) None sources) (λ words r served.
    then-told files (bidders_errand grid [] entries) (λ bidders. gives (answer words.servers bidders))
    (AreHeld grid (0 + length entries)) P (bidders-yield grid files entries) (λ bidders q held.
    gives-yield files P (answer words.servers bidders)
    (each (record { value = words; is = r }) (record { value = bidders; is = q }) served.0 held)))

module _ (files : List File) where
  -- what the files of a rehearsal are read as, and what it answers
  record IsRehearsed (auction servers list name : List ℕ) (answer : Answer) : Type 0 where
    loaded : AuctionWithBidders
    is_loaded : IsLoaded loaded
    read : ReadsTo files (loaded_errand auction servers list) loaded
    schedule : List Delivery
    scheduled : ReadsTo files (reads name SCHEDULE_LIMIT schedule_of) schedule
    is : answer ≡ rehearsed loaded schedule

  rehearse-yield : (auction servers list name : List ℕ) →
      Yields files (rehearse_job auction servers list name) (IsRehearsed auction servers list name)
  rehearse-yield auction servers list name =
      then-told files (loaded_errand auction servers list)
      (λ loaded. reads name SCHEDULE_LIMIT schedule_of >>= λ schedule. gives (rehearsed loaded schedule))
      IsLoaded (IsRehearsed auction servers list name) (loaded-yield files auction servers list) (λ loaded r1 h.
      then-told files (reads name SCHEDULE_LIMIT schedule_of) (λ schedule. gives (rehearsed loaded schedule))
      (λ schedule. Unit {0})
      (IsRehearsed auction servers list name) (any-yield files name SCHEDULE_LIMIT schedule_of) (λ schedule r2 any.
      gives-yield files (IsRehearsed auction servers list name) (rehearsed loaded schedule)
      (record { loaded = loaded; is_loaded = h; read = r1; schedule = schedule; scheduled = r2; is = refl })))

  -- ---- open

  -- files that hold what bidders sealed are read as the points that they sealed, and as no others
  pub points-sealed : (grid : Grid) (entries : List ListEntry) (bidders : List (Trio (List ℕ))) (farmers : List BidderWithWords) →
      IsGrid grid →
      ReadsTo files (bidders_errand grid [] entries) bidders → IsBook (book_with grid farmers) →
      HaveWords grid farmers →
      HoldEachSealed files grid entries farmers → bidders ≡ map sealed_points farmers
  points-sealed grid entries bidders farmers limits read b enough held =
      one-value files (bidders_errand grid [] entries) bidders (map sealed_points farmers) read
      (sealed-files files grid entries farmers limits b enough held)
      (told-each (told-trio told-list))

  -- what the files of sealed bids are read as, and what is answered
  record IsOpened (auction servers list : List ℕ) (answer : Answer) : Type 0 where
    read : OpenRead files auction servers list
    limits : IsGrid read.grid.value
    can_serve : CanServeAll (counts_of read.grid.value) read.words.value.servers
    is : answer ≡ opened_answer read.grid.value read.words.value.servers read.bidders.value

  open-yield : (auction servers list : List ℕ) →
      Yields files (open_job auction servers list) (IsOpened auction servers list)
  unfolding open_job entries_job
  open-yield auction servers list =
      then-told files (reads auction AUCTION_LIMIT auction_of) _ IsGrid (IsOpened auction servers list)
      (reads-yield files auction AUCTION_LIMIT auction_of IsGrid grid-is) (λ grid r1 is_grid.
      then-told files (reads servers SERVERS_LIMIT servers_of) _ (λ sources. Unit {0}) (IsOpened auction servers list)
      (any-yield files servers SERVERS_LIMIT servers_of) (λ sources r2 any.
      then-told files (reads list LIST_LIMIT list_of) _ (λ entries. Unit {0}) (IsOpened auction servers list)
      (any-yield files list LIST_LIMIT list_of) (λ entries r3 any.
      sealed-yield files grid sources entries (opened_answer grid) (IsOpened auction servers list) (λ words bidders can held.
      record {
        read = sealed_read (record { value = grid; is = r1 }) (record { value = sources; is = r2 })
            (record { value = entries; is = r3 }) words bidders;
        limits = is_grid;
        can_serve = can;
        is = refl;
      }))))

-- farmers of a book with words to deal are as bidders that are read with their words
farmers-read : (grid : Grid) (farmers : List BidderWithWords) → IsBook (book_with grid farmers) →
    All (λ farmer. CanDeal (counts_of grid) farmer.words × All IsWord farmer.words) farmers → All (IsRead grid) farmers
farmers-read grid farmers b each = λ k d lt.
    let bidders = map (λ (f : BidderWithWords). f.bidder) farmers in
    let farmer = get_or farmers k d in
    let there : k < length bidders = omega (arith, length-map farmers (λ (f : BidderWithWords). f.bidder), lt) in
    let is : get_or bidders k d.bidder ≡ farmer.bidder =
    get_or-map (λ (f : BidderWithWords). f.bidder) farmers k d d.bidder lt in
    record {
      is = record {
        curve = subst (λ (x : Bidder). IsCurve x.curve) is (b.curves k d.bidder there);
        of_grid = subst (λ (x : Bidder). IsOfGrid grid x.curve) is (b.of_grid k d.bidder there);
        words = (each k d lt).0;
      };
      words = (each k d lt).1;
    }

-- what is told of envelopes that are read so
pub tells-of : (files : List File) (auction servers list : List ℕ) (read : OpenRead files auction servers list) →
    IsGrid read.grid.value → CanServeAll (counts_of read.grid.value) read.words.value.servers → (status : ℕ) →
    status ≡ code_of (opened_answer read.grid.value read.words.value.servers read.bidders.value).status →
    TellsOfEnvelopes files auction servers list read status
    (opened_answer read.grid.value read.words.value.servers read.bidders.value).text
tells-of files auction servers list read limits can_serve status code =
    let grid : Grid = read.grid.value in
    let read_words : Trio ServerWords = read.words.value.servers in
    let bidders : List (Trio (List ℕ)) = read.bidders.value in
    record {
      text_is = (code, refl);
      sealed = λ farmers held b enough.
          let book = book_with grid farmers in
          let masks = masks_of read_words in
          let same : opened_answer grid read_words bidders
          ≡ outcome_answer grid (book_finish book masks) (book_rounds book masks) =
          ap (opened_answer grid read_words)
          (points-sealed files grid read.entries.value bidders farmers limits read.bidders.is b enough held)
          ∙ outcome-sealed grid farmers read_words b enough in
          let words = all_words read_words (map (λ (farmer : BidderWithWords). farmer.words) farmers) in
          subst (λ (x : Answer). TellsTheEnd book words status x.text) (sym same)
          (tells book words status (code ∙ ap (λ (x : Answer). code_of x.status) same));
      servers_open = λ farmers b each.
          let few : length farmers ≤ MOST_BIDDERS =
          omega (arith, length-map farmers (λ (f : BidderWithWords). f.bidder), b.few) in
          servers-open (the_book grid read_words farmers) (the_words grid read_words farmers) b
          (can-run grid read_words farmers few (farmers-read grid farmers b each) can_serve);
    }

module _ (files : List File) (call : Call) (from : IsOf files call) (w : IsDoneCode call.status) where
  rehearsed-by : (auction servers list name : List ℕ) (answer : Answer) →
      IsRehearsed files auction servers list name answer →
      WentOut answer call → ShowsStandings files auction servers list name call
  rehearsed-by auction servers list name answer t o =
      let out : WentOut (rehearsed t.loaded t.schedule) call =
      subst (λ (a : Answer). WentOut a call) t.is o in
      let book = book_in t.loaded t.is_loaded in
      let words = words_in t.loaded t.is_loaded in
      let run = runs-in t.loaded t.is_loaded in
      record {
        book = book;
        words = words;
        read = read-back t.loaded t.is_loaded files (loaded_errand auction servers list) t.read;
        schedule = t.schedule;
        scheduled = t.scheduled;
        run = run;
        rehearsal = rehearsal_of (book_finish book words.masks) (book_rounds book words.masks)
            (after (book_rounds book words.masks) (named_in t.schedule));
        shown = shown book words run (named_in t.schedule);
        left = left book words run (named_in t.schedule);
        all = none-left book words run (named_in t.schedule);
        status_is = out.code;
        said = out.calls;
      }

  pub rehearses : (auction servers list schedule : List ℕ) → RunsJobOf (codes "rehearse" ∷ auction ∷ servers ∷ list ∷ schedule ∷ []) call →
      ShowsStandings files auction servers list schedule call
  rehearses auction servers list schedule ran =
      let job = Some (Answering (rehearse_errand auction servers list schedule)) in
      let r' = named files call from w (are_names (auction ∷ servers ∷ schedule ∷ []))
      (if is_name_of list then job else None) ran in
      let r = named files call from w (is_name_of list) job r' in
      let f =
      found files call from w (rehearse_job auction servers list schedule) (λ answer. answer)
      (IsRehearsed files auction servers list schedule) (rehearse-yield files auction servers list schedule) r in
      rehearsed-by auction servers list schedule f.value f.holds f.out

  opened-by : (auction servers list : List ℕ) (answer : Answer) → IsOpened files auction servers list answer →
      WentOut answer call → OpensEnvelopes files auction servers list call
  opened-by auction servers list answer t o =
      let told : Answer = opened_answer t.read.grid.value t.read.words.value.servers t.read.bidders.value in
      let out : WentOut told call = subst (λ (a : Answer). WentOut a call) t.is o in
      record {
        read = t.read;
        text = told.text;
        tells = tells-of files auction servers list t.read t.limits t.can_serve call.status out.code;
        said = out.calls;
      }

  pub opens : (auction servers list : List ℕ) →
      RunsJobOf (codes "open" ∷ auction ∷ servers ∷ list ∷ []) call →
      OpensEnvelopes files auction servers list call
  opens auction servers list ran =
      let r = named files call from w (are_names (auction ∷ servers ∷ list ∷ []))
      (Some (Answering (open_errand auction servers list))) ran in
      let f = found files call from w (open_job auction servers list) (λ answer. answer)
      (IsOpened files auction servers list)
      (open-yield files auction servers list) r in
      opened-by auction servers list f.value f.holds f.out
