-- What is read of an auction among five servers, and what `five` has said of it.
use Rattle.std.proofs.Common.{◌≡◌, ◌≤◌, ◌+◌, ◌*◌, ◌∙◌, ℕ, List, [], ◌∷◌, ◌++◌, length, slice_get, suc, Ok, Err, Option, Some, None}
use Rattle.std.proofs.Common.{Bool, true, false, if◌then◌else◌, nat_lt, refl, sym, ap, arith, length-append}
use Rattle.std.specs.Prelude.{All, codes}
use Rattle.std.proofs.lemmas.List.Elements.{All-append, All-cons, All-map, All-nil}
use Rattle.beet_store.specs.Files.{File}
use Rattle.beet_forms.specs.FaultLines.{fault_line_of}
use Rattle.beet_forms.specs.Faults.{Fault, Reading, at_row}
use Rattle.beet_forms.specs.Rows.{begins_with, rows_of}
use Rattle.beet_forms.specs.declared.faults.TheConstants.{BAD_HEADER}
use Rattle.beet_forms.specs.declared.row.Row.{Row}
use Rattle.beet_words.specs.Words.{IsWord}
use Rattle.beet_words.specs.declared.bundle.TheConstants.{MOST_BIDDERS}
use Rattle.beet_gates.specs.declared.Gates.{Gates}
use Rattle.beet_gates.specs.declared.Gates.TheVariants.{Chain, Tree}
use Rattle.beet_bids.specs.AuctionFiles.{auction_of}
use Rattle.beet_bids.specs.Grids.{Grid, IsGrid, comparisons_of}
use Rattle.beet_bids.specs.declared.auction_file.TheConstants.{AUCTION_LIMIT}
use Rattle.beet_bids.proofs.GridFacts.{few_comparisons}
use Rattle.beet_book.specs.BookFiles.{book_of}
use Rattle.beet_book.specs.NamedRows.{reading_at}
use Rattle.beet_book.specs.Farmers.{BidderWithWords}
use Rattle.beet_book.specs.declared.book_file.TheConstants.{BOOK_LIMIT, MOST_PRODUCT}
use Rattle.beet_book.specs.declared.server_file.TheConstants.{SERVERS_LIMIT}
use Rattle.beet_book.specs.declared.sources.ServerSource.TheVariants.{Seed}
use Rattle.beet_coalition.specs.Lists.{at_server}
use Rattle.beet_five_dealing.specs.FiveWords.{CanRun}
use Rattle.beet_five_dealing.specs.FiveInputs.{setup_of}
use Rattle.beet_five_dealing.proofs.Lists.{at-words, words-five}
use Rattle.beet_five_dealing.proofs.Shares.{book-shared}
use Rattle.beet_five_auction.proofs.Ends.{words-end}
use Rattle.beet_five_auction.proofs.WorldEnds.{world-ends}
use Rattle.beet_bids.specs.Books.{IsBook}
use Rattle.beet_errand.specs.Errands.{Step, reads}
use Rattle.beet_errand.specs.Statuses.{IsDoneCode}
use Rattle.beet_errand.specs.declared.answer.Refusal.TheVariants.{BadFile}
use Rattle.beet_errand.proofs.Statuses.{not_done}
use Rattle.beet_load.specs.Farmers.{farmers_errand}
use Rattle.beet_load.specs.Limits.{over_product}
use Rattle.beet_load.specs.Servers.{ServerWords, server_errand}
use Rattle.beet_five_load.specs.FiveLoading.{FiveRead, five_limited_errand, five_limited_rest, five_loaded_errand}
use Rattle.beet_five_load.specs.FiveLoading.{five_rest_errand, read_with}
use Rattle.beet_five_load.specs.FiveServerFiles.{all_seeds, before_seeds, first_seed_at, five_seeds_of, seed_at, seeds_before}
use Rattle.beet_five_load.specs.FiveServerFiles.{seeds_in}
use Rattle.beet_five_load.specs.FiveServers.{CanServe, lists_of, servers_errand}
use Rattle.beet_five_load.specs.FiveSettings.{FiveSetting, five_setting_errand, with_chains}
use Rattle.beet_five_load.specs.FiveWants.{counts_of_five, wanted_of_five}
use Rattle.beet_five_load.proofs.Running.{can-run, makes-book}
use Rattle.beet_five_load.proofs.Serving.{serves}
use Rattle.beet_five_run.specs.FiveOutcomes.{cleared_by_five}
use Rattle.beet_job_five.specs.Five.{five_errand}
use Rattle.beet_command.specs.Words.{are_names}
use Rattle.beet_app.specs.Jobs.{Answering}
use Rattle.beet_app_laws.specs.Calls.{Call, IsOf, RunsJobOf}
use Rattle.beet_program_laws.specs.Commands.{ClearsAmongFive}
use Rattle.beet_program_laws.specs.Outcomes.{FiveServersOpen}
use Rattle.beet_program_laws.proofs.Ends.{found, named, tells-of-five}
use Rattle.beet_program_laws.proofs.Files.{book-few}
use Rattle.beet_program_laws.proofs.Grids.{grid-is}
use Rattle.beet_program_laws.proofs.Read.{CanServe as Serves, IsReadFor, farmers-yield, one-more, server-yield}
use Rattle.beet_program_laws.proofs.Steps.{Yields, gives-yield, passes-yield, reads-yield, then-yields, weaker-yield}

-- ---- the seeds of five servers

more-seeds : (seed : List ℕ) (count : ℕ) (rest : Reading (List (List ℕ))) (seeds : List (List ℕ)) →
    ((others : List (List ℕ)) → rest ≡ Ok others → length others ≡ count) → before_seeds seed rest ≡ Ok seeds →
    length seeds ≡ suc count
more-seeds seed count (Ok others) seeds h e =
    let all : seed ∷ others ≡ seeds = cc in ap length (sym all) ∙ ap suc (h others refl)
more-seeds seed count (Err fault) seeds h e = absurd cc

seeds-many : (readings : List (Reading (List ℕ))) (seeds : List (List ℕ)) → all_seeds readings ≡ Ok seeds →
    length seeds ≡ length readings
seeds-many [] seeds e = let none : [] ≡ seeds = cc in ap length (sym none)
seeds-many (Err fault ∷ readings) seeds e = absurd cc
seeds-many (Ok seed ∷ readings) seeds e =
    more-seeds seed (length readings) (all_seeds readings) seeds (λ others r. seeds-many readings others r) e

before-none : (row : Option Row) (reading : Reading (List (List ℕ))) (seeds : List (List ℕ)) →
    seeds_before row reading ≡ Ok seeds → reading ≡ Ok seeds
before-none None reading seeds e = e
before-none (Some row) (Ok others) seeds e = absurd cc
before-none (Some row) (Err fault) seeds e = absurd cc

chosen : (b : Bool) (reading : Reading (List (List ℕ))) (fault : Fault) (seeds : List (List ℕ)) →
    (if b then reading else Err fault) ≡ Ok seeds → reading ≡ Ok seeds
chosen true reading fault seeds e = e
chosen false reading fault seeds e = absurd cc

-- a file of five servers has five
seeds-are : (bytes : List ℕ) (seeds : List (List ℕ)) → five_seeds_of bytes ≡ Ok seeds → length seeds ≡ 5
seeds-are bytes seeds e =
    let rows : List Row = rows_of bytes in
    let all = chosen (begins_with rows (codes "beet-servers" ∷ codes "5" ∷ [])) (seeds_before (slice_get rows 6) (seeds_in rows))
    (at_row 1 BAD_HEADER) seeds e in
    seeds-many
    (reading_at 2 (first_seed_at (slice_get rows 1)) ∷ reading_at 3 (seed_at (codes "2") (slice_get rows 2))
    ∷ reading_at 4 (seed_at (codes "3") (slice_get rows 3)) ∷ reading_at 5 (seed_at (codes "4") (slice_get rows 4))
    ∷ reading_at 6 (seed_at (codes "5") (slice_get rows 5)) ∷ []) seeds
    (before-none (slice_get rows 6) (seeds_in rows) seeds all)

-- ---- what is read

-- an auction among five servers that can be run, with chains of gates
abbrev pub IsRight : FiveRead → Type 0
IsRight read = IsBook read.book × CanRun read.book read.words × (read.book.grid.gates ≡ Chain)

-- a setting whose auction can be read
record IsSetting (setting : FiveSetting) : Type 0 where
  limits : IsGrid setting.grid
  chains : setting.grid.gates ≡ Chain
  seeds : length setting.seeds ≡ 5
  entries : length setting.entries ≤ MOST_BIDDERS

module _ (files : List File) where
  chains-yield : {A : Type 0} (auction : List ℕ) (gates : Gates) (step : Step A) (P : A → Type 0) →
      ((gates ≡ Chain) → Yields files step P) → Yields {A = A} files (λ next. with_chains auction gates (step next)) P
  chains-yield auction Chain step P y next done = y refl next done
  chains-yield auction Tree step P y next done = absurd (not_done BadFile done)

  setting-yield : (auction servers book : List ℕ) → Yields files (five_setting_errand auction servers book) IsSetting
  unfolding five_setting_errand
  setting-yield auction servers book =
      then-yields files (reads auction AUCTION_LIMIT auction_of) _ IsGrid IsSetting
      (reads-yield files auction AUCTION_LIMIT auction_of IsGrid grid-is) (λ grid limits.
      chains-yield {A = FiveSetting} auction grid.gates _ IsSetting (λ chains.
      then-yields files (reads servers SERVERS_LIMIT five_seeds_of) _ (λ seeds. length seeds ≡ 5) IsSetting
      (reads-yield files servers SERVERS_LIMIT five_seeds_of (λ seeds. length seeds ≡ 5) seeds-are) (λ seeds five.
      then-yields files (reads book BOOK_LIMIT book_of) _ (λ entries. length entries ≤ MOST_BIDDERS) IsSetting
      (reads-yield files book BOOK_LIMIT book_of (λ entries. length entries ≤ MOST_BIDDERS) book-few) (λ entries few.
      gives-yield files IsSetting (record { grid = grid; seeds = seeds; entries = entries })
      (record { limits = limits; chains = chains; seeds = five; entries = few })))))

  module _ (grid : Grid) (limits : IsGrid grid) (chains : grid.gates ≡ Chain) where
    -- the words that are read of a server are fewer than 2^32
    serving : (words : ServerWords) → Serves (counts_of_five grid) words → CanServe (counts_of_five grid) words
    serving words h =
        let few : comparisons_of grid.prices ≤ 13 = few_comparisons grid.prices limits.prices_limit in
        let masks : length words.masks ≤ comparisons_of grid.prices + 2 = h.kept.cut.masks in
        let coefficients : length words.coefficients ≤ 2 * (512 * (comparisons_of grid.prices + 2)) + 8 = h.kept.cut.coefficients in
        record {
          masks = h.kept.masks;
          coefficients = h.kept.coefficients;
          enough = h.enough;
          few_masks = omega (arith, few, masks);
          few_coefficients = omega (arith, few, coefficients);
        }

    abbrev Serve : ServerWords → Type 0
    Serve words = CanServe (counts_of_five grid) words

    servers-yield : (read : List ServerWords) → All Serve read → (seeds : List (List ℕ)) →
        Yields files (servers_errand (wanted_of_five grid) read seeds)
        (λ servers. All Serve servers × (length servers ≡ length read + length seeds))
    servers-yield read are [] =
        gives-yield files (λ servers. All Serve servers × (length servers ≡ length read + 0)) read (are, omega arith)
    servers-yield read are (seed ∷ seeds) =
        let number = length read + 1 in
        then-yields files (server_errand (wanted_of_five grid) number (Seed seed))
        (λ words. servers_errand (wanted_of_five grid) (read ++ words ∷ []) seeds) Serve
        (λ servers. All Serve servers × (length servers ≡ length read + length (seed ∷ seeds)))
        (weaker-yield files (server_errand (wanted_of_five grid) number (Seed seed)) (Serves (counts_of_five grid)) Serve serving
        (server-yield files (wanted_of_five grid) number (Seed seed))) (λ words serves.
        let more = All-append Serve read (words ∷ []) are (All-cons Serve words [] serves (All-nil Serve)) in
        let long : length (read ++ words ∷ []) ≡ length read + 1 = length-append read (words ∷ []) in
        weaker-yield files (servers_errand (wanted_of_five grid) (read ++ words ∷ []) seeds)
        (λ servers. All Serve servers × (length servers ≡ length (read ++ words ∷ []) + length seeds))
        (λ servers. All Serve servers × (length servers ≡ length read + length (seed ∷ seeds)))
        (λ servers h. (h.0, one-more (length servers) (length (read ++ words ∷ [])) (length read) (length seeds) h.1 long))
        (servers-yield (read ++ words ∷ []) more seeds))

    -- these servers and bidders can run the auction of their book
    right : (servers : List ServerWords) (farmers : List BidderWithWords) → length servers ≡ 5 → All Serve servers →
        length farmers ≤ MOST_BIDDERS → All (IsReadFor (counts_of_five grid) grid) farmers →
        IsRight (read_with grid (lists_of servers) farmers)
    right servers farmers five each few are = (
      makes-book (counts_of_five grid) grid farmers (λ k d lt. (are k d lt).is) few,
      can-run grid (lists_of servers) farmers (serves grid servers five each) (λ k d lt. (are k d lt).is)
          (All-map (All IsWord) (λ (f : BidderWithWords). f.words) farmers (λ k d lt. (are k d lt).words)),
      chains,
    )

  rest-yield : (setting : FiveSetting) → IsSetting setting → Yields files (five_rest_errand setting) IsRight
  unfolding five_rest_errand
  rest-yield setting is =
      let grid : Grid = setting.grid in
      let counts = counts_of_five grid in
      let Many : List ServerWords → Type 0 =
      λ servers. All (CanServe counts) servers × (length servers ≡ 0 + length setting.seeds) in
      let Bidders : List BidderWithWords → Type 0 =
      λ farmers. All (IsReadFor counts grid) farmers × (length farmers ≡ 0 + length setting.entries) in
      then-yields files (servers_errand (wanted_of_five grid) [] setting.seeds) _ Many IsRight
      (servers-yield grid is.limits is.chains [] (All-nil (CanServe counts)) setting.seeds) (λ servers s.
      then-yields files (farmers_errand (wanted_of_five grid) grid None [] setting.entries) _ Bidders IsRight
      (farmers-yield files (wanted_of_five grid) grid None tt [] (All-nil (IsReadFor counts grid)) setting.entries)
      (λ farmers f.
      gives-yield files IsRight (read_with grid (lists_of servers) farmers)
      (right grid is.limits is.chains servers farmers (omega (arith, s.1, is.seeds)) s.0 (omega (arith, f.1, is.entries)) f.0)))

  pub five-yield : (auction servers book : List ℕ) → Yields files (five_loaded_errand auction servers book) IsRight
  unfolding five_loaded_errand
  five-yield auction servers book =
      then-yields files (five_setting_errand auction servers book) five_rest_errand IsSetting IsRight
      (setting-yield auction servers book) (λ setting is. rest-yield setting is)

  -- the limit on its book is tested first
  pub five-limited-yield : (auction servers book : List ℕ) → Yields files (five_limited_errand auction servers book) IsRight
  unfolding five_limited_errand
  five-limited-yield auction servers book =
      then-yields files (five_setting_errand auction servers book) (five_limited_rest book) IsSetting IsRight
      (setting-yield auction servers book) (λ setting is.
      passes-yield {A = FiveRead} files (nat_lt MOST_PRODUCT (0 + length setting.entries * setting.grid.prices)) BadFile
      (fault_line_of book over_product.place over_product.reason) (five_rest_errand setting) IsRight
      (λ within. rest-yield setting is))

-- ---- what was said

-- the servers of such an auction open its outcome
pub five-open : (read : FiveRead) → IsRight read → FiveServersOpen read.book read.words
five-open read h =
    let masks = at_server read.words.masks in
    record {
      is_book = h.0;
      can_run = h.1;
      ends = words-end read.book read.words h.0 h.1;
      opens = λ es old new fit lead.
          world-ends read.book (setup_of read.book read.words) h.0
          (words-five masks (at-words read.words.masks h.1.are_words.masks.small)) (book-shared read.book read.words h.0 h.1.count)
          es old new fit lead;
    }

module _ (files : List File) (call : Call) (from : IsOf files call) (w : IsDoneCode call.status) where
  pub clears-among-five : (auction servers list : List ℕ) → RunsJobOf (codes "five" ∷ auction ∷ servers ∷ list ∷ []) call →
      ClearsAmongFive files auction servers list call
  clears-among-five auction servers list ran =
      let r = named files call from w (are_names (auction ∷ servers ∷ list ∷ []))
      (Some (Answering (five_errand auction servers list))) ran in
      let f = found files call from w (five_loaded_errand auction servers list) cleared_by_five IsRight
      (five-yield files auction servers list) r in
      record {
        read = f.value;
        is_read = f.read;
        run = five-open f.value f.holds;
        text = (cleared_by_five f.value).text;
        tells = tells-of-five f.value.book f.value.words call.status f.out.code;
        said = f.out.calls;
      }
