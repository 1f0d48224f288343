-- Over files, what two worlds and an audit read goes on with a value, or ends.
use Rattle.std.proofs.Common.{◌+◌, ◌*◌, ◌++◌, ℕ, true, List, [], ◌∷◌, Option, Some, None, length, nat_lt}
use Rattle.std.specs.Prelude.{codes, take}
use Rattle.beet_field.specs.declared.trio.Trio.{Trio}
use Rattle.beet_store.specs.Files.{File}
use Rattle.beet_forms.specs.FaultLines.{fault_line_of}
use Rattle.beet_forms.specs.declared.faults.TheConstants.{LONGEST_FILE}
use Rattle.beet_words.specs.Bundles.{bundle_of}
use Rattle.beet_words.specs.Seeds.{seed_words}
use Rattle.beet_words.specs.TapeFiles.{tape_of}
use Rattle.beet_words.specs.Words.{accepted}
use Rattle.beet_words.specs.declared.tape_file.TheConstants.{TAPE_LIMIT}
use Rattle.beet_bids.specs.AuctionFiles.{auction_of}
use Rattle.beet_bids.specs.BidFiles.{bid_of}
use Rattle.beet_bids.specs.Grids.{Grid}
use Rattle.beet_bids.specs.declared.auction_file.TheConstants.{AUCTION_LIMIT}
use Rattle.beet_bids.specs.declared.bid_file.TheConstants.{BID_LIMIT}
use Rattle.beet_bids.specs.declared.book.Bidder.{Bidder}
use Rattle.beet_book.specs.BookFiles.{book_of}
use Rattle.beet_book.specs.Farmers.{BidderWithWords}
use Rattle.beet_book.specs.ServerFiles.{servers_of}
use Rattle.beet_book.specs.declared.book_file.TheConstants.{BOOK_LIMIT, MOST_PRODUCT}
use Rattle.beet_book.specs.declared.entries.BidderSource.{BidderSource}
use Rattle.beet_book.specs.declared.entries.BidderSource.TheVariants.{Seed, Tape}
use Rattle.beet_book.specs.declared.entries.Entry.{Entry}
use Rattle.beet_book.specs.declared.server_file.TheConstants.{SERVERS_LIMIT}
use Rattle.beet_book.specs.declared.sources.ServerSource.{ServerSource}
use Rattle.beet_book.specs.declared.sources.ServerSource.TheVariants.{Seed as ServerSeed, Tapes}
use Rattle.beet_book.specs.declared.sources.Servers.{Servers}
use Rattle.beet_book.specs.declared.sources.Servers.TheVariants.{Three, Bundle}
use Rattle.beet_view.specs.Transcripts.{view_in}
use Rattle.beet_errand.specs.Errands.{Step, ◌>>◌, gives, reads}
use Rattle.beet_errand.specs.declared.answer.Refusal.TheVariants.{BadFile, TooFewWords}
use Rattle.beet_masking.specs.Masks.{with_spare}
use Rattle.beet_load.specs.Farmers.{bidder_errand, enough_words, farmer_errand, farmers_errand, list_at, words_errand}
use Rattle.beet_load.specs.Limits.{over_product, within_product}
use Rattle.beet_load.specs.Servers.{ServerWords, all_words_errand, counted, cut_servers, enough_held, enough_of}
use Rattle.beet_load.specs.Servers.{enough_of_all, seeded, server_errand, source_errand, three_errand}
use Rattle.beet_load.specs.Settings.{setting_errand}
use Rattle.beet_load.specs.Loading.{rest_errand}
use Rattle.beet_load.specs.Wanted.{wanted_of}
use Rattle.beet_load.specs.Wholes.{bids_errand, curves_errand, limited_errand}
use Rattle.beet_load.specs.WordTexts.{server_short_text, too_few_text}
use Rattle.beet_load.specs.declared.wanted.Wanted.{Wanted}
use Rattle.beet_job_audit.specs.Reading.{read_errand}
use Rattle.beet_job_worlds.specs.Reading.{both_errand}
use Rattle.beet_gates.specs.declared.Gates.{Gates}
use Rattle.beet_gates.specs.declared.Gates.TheVariants.{Chain, Tree}
use Rattle.beet_five_load.specs.FiveLoading.{five_limited_errand, five_limited_rest, five_rest_errand, read_with}
use Rattle.beet_five_load.specs.FiveServerFiles.{five_seeds_of}
use Rattle.beet_five_load.specs.FiveServers.{lists_of, servers_errand as five_servers_errand}
use Rattle.beet_five_load.specs.FiveSettings.{FiveSetting, five_setting_errand, tree_gates, with_chains}
use Rattle.beet_five_load.specs.FiveWants.{wanted_of_five}
use Rattle.beet_job_five_worlds.specs.Reading.{both_errand as both_of_five}
use Rattle.beet_counterexample_laws.proofs.Deciding.{Decides, gives-decides, reads-decides, test-decides, then-decides}

module _ (files : List File) where
  enough-decides : {A : Type 0} (lot : Option ℕ) (number wanted : ℕ) (words : List ℕ) (step : Step A) →
      Decides files step → Decides files (enough_words lot number wanted words >> step)
  enough-decides lot number wanted words step d =
      test-decides files (nat_lt (length (accepted words)) wanted) TooFewWords
      (too_few_text lot number (length (accepted words)) wanted) step d

  words-decides : (given : Option (List ℕ)) (source : BidderSource) (kept : ℕ) →
      Decides files (words_errand given source kept)
  words-decides (Some words) source kept = gives-decides files (take kept words)
  words-decides None (Seed seed) kept = gives-decides files (seed_words seed 0 kept)
  words-decides None (Tape name) kept = reads-decides files name TAPE_LIMIT (λ bytes. tape_of bytes kept)

  bidder-decides : (wanted : Wanted) (given : Option (List ℕ)) (number : ℕ) (source : BidderSource) →
      Decides files (bidder_errand wanted given number source)
  bidder-decides wanted given number source =
      then-decides files (words_errand given source (with_spare wanted.counts.words)) _
      (words-decides given source (with_spare wanted.counts.words)) (λ words.
      enough-decides wanted.lot number wanted.counts.words words (gives words) (gives-decides files words))

  farmer-decides : (wanted : Wanted) (grid : Grid) (given : Option (List ℕ)) (number : ℕ) (entry : Entry) →
      Decides files (farmer_errand wanted grid given number entry)
  farmer-decides wanted grid given number entry =
      then-decides files (reads entry.bid BID_LIMIT (bid_of grid)) _
      (reads-decides files entry.bid BID_LIMIT (bid_of grid)) (λ curve.
      then-decides files (bidder_errand wanted given number entry.source) _
      (bidder-decides wanted given number entry.source) (λ words.
      gives-decides files (record { bidder = record { known = entry.known; curve = curve }; words = words })))

  farmers-decides : (wanted : Wanted) (grid : Grid) (lists : Option (List (List ℕ))) (read : List BidderWithWords)
      (entries : List Entry) →
      Decides files (farmers_errand wanted grid lists read entries)
  farmers-decides wanted grid lists read [] = gives-decides files read
  farmers-decides wanted grid lists read (entry ∷ entries) =
      then-decides files
      (farmer_errand wanted grid (list_at lists (length read)) (length read + 1) entry) _
      (farmer-decides wanted grid (list_at lists (length read)) (length read + 1) entry)
      (λ farmer. farmers-decides wanted grid lists (read ++ farmer ∷ []) entries)

  source-decides : (wanted : Wanted) (source : ServerSource) → Decides files (source_errand wanted source)
  source-decides wanted (ServerSeed seed) = gives-decides files (seeded wanted seed)
  source-decides wanted (Tapes coefficients masks) =
      then-decides files
      (reads coefficients TAPE_LIMIT (λ bytes. tape_of bytes (with_spare wanted.counts.coefficients))) _
      (reads-decides files coefficients TAPE_LIMIT (λ bytes. tape_of bytes (with_spare wanted.counts.coefficients)))
      (λ numbers. then-decides files (reads masks TAPE_LIMIT (λ bytes. tape_of bytes wanted.counts.masks)) _
      (reads-decides files masks TAPE_LIMIT (λ bytes. tape_of bytes wanted.counts.masks))
      (λ words. gives-decides files (record { masks = words; coefficients = numbers })))

  held-decides : {A : Type 0} (lot : Option ℕ) (server : ℕ) (kind : List ℕ) (held wanted : ℕ) (step : Step A) →
      Decides files step → Decides files (enough_held lot server kind held wanted >> step)
  held-decides lot server kind held wanted step d =
      test-decides files (nat_lt held wanted) TooFewWords (server_short_text lot server kind held wanted) step d

  one-decides : {A : Type 0} (wanted : Wanted) (server : ℕ) (words : ServerWords) (step : Step A) →
      Decides files step → Decides files (enough_of wanted server words >> step)
  one-decides wanted server words step d =
      held-decides wanted.lot server (codes "coefficients") (length (accepted words.coefficients))
      wanted.counts.coefficients
      (enough_held wanted.lot server (codes "masks") (length words.masks) wanted.counts.masks >> step)
      (held-decides wanted.lot server (codes "masks") (length words.masks) wanted.counts.masks step d)

  all-decides : {A : Type 0} (wanted : Wanted) (servers : Trio ServerWords) (step : Step A) →
      Decides files step → Decides files (enough_of_all wanted servers >> step)
  all-decides wanted servers step d =
      one-decides wanted 1 servers.one (enough_of wanted 2 servers.two >> (enough_of wanted 3 servers.three >> step))
      (one-decides wanted 2 servers.two (enough_of wanted 3 servers.three >> step)
      (one-decides wanted 3 servers.three step d))

  server-decides : (wanted : Wanted) (server : ℕ) (source : ServerSource) →
      Decides files (server_errand wanted server source)
  server-decides wanted server source =
      then-decides files (source_errand wanted source) _ (source-decides wanted source)
      (λ words. one-decides wanted server words (gives words) (gives-decides files words))

  three-decides : (wanted : Wanted) (sources : Trio ServerSource) → Decides files (three_errand wanted sources)
  three-decides wanted sources =
      then-decides files (server_errand wanted 1 sources.one) _ (server-decides wanted 1 sources.one) (λ one.
      then-decides files (server_errand wanted 2 sources.two) _ (server-decides wanted 2 sources.two) (λ two.
      then-decides files (server_errand wanted 3 sources.three) _ (server-decides wanted 3 sources.three) (λ three.
      gives-decides files (record { one = one; two = two; three = three }))))

  all-words-decides : (wanted : Wanted) (count : Option ℕ) (sources : Servers) →
      Decides files (all_words_errand wanted count sources)
  all-words-decides wanted count (Three sources) =
      then-decides files (three_errand wanted sources) _ (three-decides wanted sources)
      (λ servers. gives-decides files (record { servers = servers; bidders = None }))
  all-words-decides wanted count (Bundle name) =
      then-decides files (reads name LONGEST_FILE (λ bytes. counted count (bundle_of bytes))) _
      (reads-decides files name LONGEST_FILE (λ bytes. counted count (bundle_of bytes))) (λ words.
      all-decides wanted (cut_servers wanted.counts words) _
      (gives-decides files (record { servers = cut_servers wanted.counts words; bidders = Some words.bidders })))

  product-decides : {A : Type 0} (book : List ℕ) (grid : Grid) (count : ℕ) (step : Step A) → Decides files step →
      Decides files (within_product 0 book grid count >> step)
  product-decides book grid count step d =
      test-decides files (nat_lt MOST_PRODUCT (0 + count * grid.prices)) BadFile
      (fault_line_of book over_product.place over_product.reason) step d

  limited-decides : (auction servers book : List ℕ) → Decides files (limited_errand auction servers book)
  unfolding limited_errand setting_errand rest_errand
  limited-decides auction servers book =
      then-decides files (reads auction AUCTION_LIMIT auction_of) _
      (reads-decides files auction AUCTION_LIMIT auction_of) (λ grid.
      then-decides files (reads servers SERVERS_LIMIT servers_of) _
      (reads-decides files servers SERVERS_LIMIT servers_of) (λ sources.
      then-decides files (reads book BOOK_LIMIT book_of) _ (reads-decides files book BOOK_LIMIT book_of) (λ entries.
      product-decides book grid (length entries) _ (
      then-decides files (all_words_errand (wanted_of None grid) (Some (length entries)) sources) _
      (all-words-decides (wanted_of None grid) (Some (length entries)) sources) (λ words.
      then-decides files (farmers_errand (wanted_of None grid) grid words.bidders [] entries) _
      (farmers-decides (wanted_of None grid) grid words.bidders [] entries) (λ farmers.
      gives-decides files (record { grid = grid; servers = words.servers; farmers = farmers })))))))

  bids-decides : (grid : Grid) (read : List Bidder) (entries : List Entry) →
      Decides files (bids_errand grid read entries)
  bids-decides grid read [] = gives-decides files read
  bids-decides grid read (entry ∷ entries) =
      then-decides files (reads entry.bid BID_LIMIT (bid_of grid)) _
      (reads-decides files entry.bid BID_LIMIT (bid_of grid))
      (λ curve. bids-decides grid (read ++ record { known = entry.known; curve = curve } ∷ []) entries)

  curves-decides : (book : List ℕ) (grid : Grid) → Decides files (curves_errand 0 book grid)
  curves-decides book grid =
      then-decides files (reads book BOOK_LIMIT book_of) _ (reads-decides files book BOOK_LIMIT book_of) (λ entries.
      product-decides book grid (length entries) (bids_errand grid [] entries) (bids-decides grid [] entries))

  -- two books
  pub both-decides : (auction servers first second : List ℕ) → Decides files (both_errand auction servers first second)
  unfolding both_errand
  both-decides auction servers first second =
      then-decides files (limited_errand auction servers first) _ (limited-decides auction servers first) (λ one.
      then-decides files (curves_errand 0 second one.grid) _ (curves-decides second one.grid) (λ bidders.
      gives-decides files (record { first = one; second = bidders })))

  chains-decides : {A : Type 0} (auction : List ℕ) (gates : Gates) (step : Step A) → Decides files step →
      Decides files (with_chains auction gates >> step)
  chains-decides auction Chain step d = d
  chains-decides auction Tree step d =
      test-decides files true BadFile (fault_line_of auction tree_gates.place tree_gates.reason) step d

  seeds-decide : (wanted : Wanted) (read : List ServerWords) (seeds : List (List ℕ)) →
      Decides files (five_servers_errand wanted read seeds)
  seeds-decide wanted read [] = gives-decides files read
  seeds-decide wanted read (seed ∷ seeds) =
      then-decides files (server_errand wanted (length read + 1) (ServerSeed seed)) _
      (server-decides wanted (length read + 1) (ServerSeed seed))
      (λ words. seeds-decide wanted (read ++ words ∷ []) seeds)

  setting-decides : (auction servers book : List ℕ) → Decides files (five_setting_errand auction servers book)
  unfolding five_setting_errand
  setting-decides auction servers book =
      then-decides files (reads auction AUCTION_LIMIT auction_of) _
      (reads-decides files auction AUCTION_LIMIT auction_of) (λ grid.
      chains-decides auction grid.gates _ (
      then-decides files (reads servers SERVERS_LIMIT five_seeds_of) _
      (reads-decides files servers SERVERS_LIMIT five_seeds_of) (λ seeds.
      then-decides files (reads book BOOK_LIMIT book_of) _ (reads-decides files book BOOK_LIMIT book_of) (λ entries.
      gives-decides files (record { grid = grid; seeds = seeds; entries = entries })))))

  rest-decides : (setting : FiveSetting) → Decides files (five_rest_errand setting)
  unfolding five_rest_errand
  rest-decides setting =
      let grid : Grid = setting.grid in
      then-decides files (five_servers_errand (wanted_of_five grid) [] setting.seeds) _
      (seeds-decide (wanted_of_five grid) [] setting.seeds) (λ servers.
      then-decides files (farmers_errand (wanted_of_five grid) grid None [] setting.entries) _
      (farmers-decides (wanted_of_five grid) grid None [] setting.entries) (λ farmers.
      gives-decides files (read_with grid (lists_of servers) farmers)))

  five-limited-decides : (auction servers book : List ℕ) → Decides files (five_limited_errand auction servers book)
  unfolding five_limited_errand
  five-limited-decides auction servers book =
      then-decides files (five_setting_errand auction servers book) (five_limited_rest book)
      (setting-decides auction servers book)
      (λ setting. product-decides book setting.grid (length setting.entries) (five_rest_errand setting) (rest-decides setting))

  -- two books among five servers
  pub both-of-five-decides : (auction servers first second : List ℕ) →
      Decides files (both_of_five auction servers first second)
  unfolding both_of_five
  both-of-five-decides auction servers first second =
      then-decides files (five_limited_errand auction servers first) _ (five-limited-decides auction servers first)
      (λ one. then-decides files (curves_errand 0 second one.book.grid) _ (curves-decides second one.book.grid)
      (λ bidders. gives-decides files (record { first = one; second = bidders })))

  -- an auction and three transcripts
  pub read-decides : (auction one two three : List ℕ) → Decides files (read_errand auction one two three)
  unfolding read_errand
  read-decides auction one two three =
      then-decides files (reads auction AUCTION_LIMIT auction_of) _
      (reads-decides files auction AUCTION_LIMIT auction_of) (λ grid.
      then-decides files (reads one LONGEST_FILE view_in) _ (reads-decides files one LONGEST_FILE view_in) (λ first.
      then-decides files (reads two LONGEST_FILE view_in) _ (reads-decides files two LONGEST_FILE view_in) (λ second.
      then-decides files (reads three LONGEST_FILE view_in) _ (reads-decides files three LONGEST_FILE view_in)
      (λ third.
      gives-decides files (record { grid = grid; views = record { one = first; two = second; three = third } })))))
