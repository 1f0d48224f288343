-- The ends of errands: each is an answer that is done, or a refusal with its line.
use Rattle.std.proofs.Common.{◌≡◌, ◌⊎◌, inl, inr, ℕ, List, [], ◌∷◌, ◌++◌, Option, Some, None, Bool, true, false, length}
use Rattle.std.proofs.Common.{nat_lt, if◌then◌else◌, refl}
use Rattle.std.specs.Prelude.{codes, Ok, Err, ◌+◌, ◌*◌, map}
use Rattle.beet_field.specs.declared.trio.Trio.{Trio}
use Rattle.beet_store.specs.Files.{Bytes, Fetch, FetchAnswer, Longer, Nothing, Told}
use Rattle.beet_forms.specs.Faults.{Reading}
use Rattle.beet_words.specs.Words.{accepted}
use Rattle.beet_words.specs.Bundles.{bundle_of}
use Rattle.beet_bids.specs.Grids.{Grid}
use Rattle.beet_bids.specs.AuctionFiles.{auction_of}
use Rattle.beet_bids.specs.BidFiles.{bid_of}
use Rattle.beet_bids.specs.declared.book.Bidder.{Bidder}
use Rattle.beet_book.specs.BookFiles.{book_of}
use Rattle.beet_book.specs.ServerFiles.{servers_of}
use Rattle.beet_book.specs.Farmers.{BidderWithWords}
use Rattle.beet_book.specs.declared.entries.Entry.{Entry}
use Rattle.beet_book.specs.declared.entries.BidderSource.{BidderSource}
use Rattle.beet_book.specs.declared.entries.BidderSource.TheVariants.{Seed, Tape}
use Rattle.beet_book.specs.declared.server_file.TheConstants.{SERVERS_LIMIT}
use Rattle.beet_book.specs.declared.book_file.TheConstants.{BOOK_LIMIT, MOST_PRODUCT}
use Rattle.beet_book.specs.declared.sources.ServerSource.{ServerSource}
use Rattle.beet_book.specs.declared.sources.ServerSource.TheVariants.{Seed as ServerSeed, Tapes}
use Rattle.beet_book.specs.declared.sources.Servers.{Servers}
use Rattle.beet_book.specs.declared.sources.Servers.TheVariants.{Three, Bundle}
use Rattle.beet_bids.specs.declared.auction_file.TheConstants.{AUCTION_LIMIT}
use Rattle.beet_bids.specs.declared.bid_file.TheConstants.{BID_LIMIT}
use Rattle.beet_words.specs.TapeFiles.{tape_of}
use Rattle.beet_words.specs.Seeds.{seed_words}
use Rattle.beet_words.specs.declared.tape_file.TheConstants.{TAPE_LIMIT}
use Rattle.beet_forms.specs.declared.faults.TheConstants.{LONGEST_FILE}
use Rattle.beet_gates.specs.declared.Gates.{Gates}
use Rattle.beet_gates.specs.declared.Gates.TheVariants.{Chain, Tree}
use Rattle.beet_errand.specs.Errands.{Answer, Errand, Ends, Wants, Step, after_answer, bad_file, judged, reads, refuses}
use Rattle.beet_errand.specs.Errands.{too_long}
use Rattle.beet_errand.specs.Fetches.{IsDone, Leads, Went}
use Rattle.beet_masking.specs.Masks.{with_spare}
use Rattle.beet_load.specs.Counts.{Counts, counts_of}
use Rattle.beet_load.specs.declared.wanted.Wanted.{Wanted}
use Rattle.beet_load.specs.Farmers.{enough_words, farmer_errand, farmers_errand, list_at, words_errand}
use Rattle.beet_load.specs.Limits.{within_product}
use Rattle.beet_load.specs.Loading.{loaded_errand, rest_errand}
use Rattle.beet_load.specs.Servers.{ServerWords, all_words_errand, counted, cut_servers, enough_held, enough_of}
use Rattle.beet_load.specs.Servers.{enough_of_all, server_errand, source_errand, three_errand}
use Rattle.beet_load.specs.Settings.{setting_errand}
use Rattle.beet_load.specs.Wholes.{bids_errand, curves_errand, limited_errand}
use Rattle.beet_load.specs.WordTexts.{server_short_text, too_few_text}
use Rattle.beet_errand.specs.declared.answer.Refusal.{Refusal}
use Rattle.beet_errand.specs.declared.answer.Refusal.TheVariants.{ReadFault, BadFile, TooFewWords}
use Rattle.beet_errand.specs.declared.answer.Status.TheVariants.{Refused}
use Rattle.beet_load.specs.Limits.{over_product}
use Rattle.beet_five_load.specs.FiveLoading.{five_limited_errand, five_loaded_errand, five_rest_errand, read_with}
use Rattle.beet_five_load.specs.FiveServerFiles.{five_seeds_of}
use Rattle.beet_five_load.specs.FiveServers.{lists_of, servers_errand as five_servers_errand}
use Rattle.beet_five_load.specs.FiveSettings.{FiveSetting, five_setting_errand, tree_gates, with_chains}
use Rattle.beet_five_load.specs.FiveWants.{counts_of_five}
use Rattle.beet_app_laws.specs.Leavings.{AreOutputs}
use Rattle.beet_app_laws.specs.Refusals.{IsLineOf}

-- of a command that ends with this word
module _ (out : List ℕ) where
  -- an answer that is done, with files under these names, or a refusal with its line, which puts no file
  abbrev pub IsAnswer : Answer → Type 0
  IsAnswer answer =
      (IsDone answer.status × AreOutputs out (map (λ file. file.0) answer.files))
      ⊎ ((refusal : Refusal) × (answer.status ≡ Refused refusal) × IsLineOf refusal answer.text × (answer.files ≡ []))

  -- whatever its files hold, an errand ends with such an answer
  abbrev pub EndsWell : Errand → Type 0
  EndsWell (Ends answer) = IsAnswer answer
  EndsWell (Wants name limit next) = (bytes : List ℕ) → EndsWell (next bytes)

  -- a step does, before whatever does
  abbrev pub StepsWell : {A : Type 0} → Step A → Type 0
  StepsWell {A = A} step = (next : A → Errand) → ((a : A) → EndsWell (next a)) → EndsWell (step next)

  -- a refusal with its line does
  pub refused-well : (refusal : Refusal) (line : List ℕ) → IsLineOf refusal line → EndsWell (refuses refusal line)
  refused-well refusal line h = inr (refusal, refl, h, refl)

  pub either : (b : Bool) (one other : Errand) → EndsWell one → EndsWell other → EndsWell (if b then one else other)
  either true one other h k = h
  either false one other h k = k

  judged-well : {A : Type 0} (name : List ℕ) (reading : Reading A) → StepsWell (judged name reading)
  judged-well name (Ok value) next h = h value
  judged-well name (Err fault) next h = refused-well BadFile _ (record { name = name; fault = fault; is = refl })

  pub reads-well : {A : Type 0} (name : List ℕ) (limit : ℕ) (grammar : List ℕ → Reading A) →
      StepsWell (reads name limit grammar)
  reads-well name limit grammar next h = λ bytes. judged-well name (grammar bytes) next h

  answer-well : (name : List ℕ) (next : List ℕ → Errand) (answer : FetchAnswer) →
      ((bytes : List ℕ) → EndsWell (next bytes)) →
      EndsWell (after_answer name next answer)
  answer-well name next (Bytes bytes) h = h bytes
  answer-well name next (Longer n) h = refused-well BadFile _ (record { name = name; fault = too_long; is = refl })
  answer-well name next Nothing h = refused-well ReadFault _ (name, refl)

  leads-well : (fetches : List Fetch) (errand : Errand) (answer : Answer) → EndsWell errand →
      Leads fetches errand (Ends answer) → IsAnswer answer
  leads-well [] (Ends end) answer w e = let same : end ≡ answer = cc in rw same at w
  leads-well [] (Wants name limit next) answer w e = absurd cc
  leads-well (fetch ∷ fetches) (Ends end) answer w l = absurd l
  leads-well (fetch ∷ fetches) (Wants name limit next) answer w l =
      leads-well fetches (after_answer name next fetch.answer) answer (answer-well name next fetch.answer w) l.2

  -- where an errand has gone to its end, that is an answer
  pub went-well : (told now : Told) (errand : Errand) (answer : Answer) → EndsWell errand →
      Went told now errand (Ends answer) → IsAnswer answer
  went-well told now errand answer w went = leads-well went.fetches errand answer w went.leads

  pub enough-well : (number wanted : ℕ) (words : List ℕ) (next : Errand) → EndsWell next →
      EndsWell (enough_words None number wanted words next)
  enough-well number wanted words next h =
      either (nat_lt (length (accepted words)) wanted)
      (refuses TooFewWords (too_few_text None number (length (accepted words)) wanted)) next
      (refused-well TooFewWords _
      (inl (record { bidder = number; held = length (accepted words); wanted = wanted; is = refl }))) h

  pub words-well : (given : Option (List ℕ)) (source : BidderSource) (kept : ℕ) →
      StepsWell (words_errand given source kept)
  words-well (Some words) source kept next h = h _
  words-well None (Seed seed) kept next h = h (seed_words seed 0 kept)
  words-well None (Tape name) kept next h = reads-well name TAPE_LIMIT (λ bytes. tape_of bytes kept) next h

  -- so many words are wanted, and it is no lot
  abbrev alone : Counts → Wanted
  alone counts = record { counts = counts; lot = None }

  farmer-well : (counts : Counts) (grid : Grid) (given : Option (List ℕ)) (number : ℕ) (entry : Entry) → StepsWell
      (farmer_errand (alone counts) grid given number entry)
  farmer-well counts grid given number entry next h =
      reads-well entry.bid BID_LIMIT (bid_of grid) _ (λ curve.
      words-well given entry.source (with_spare counts.words) _ (λ words.
      enough-well number counts.words words _ (h _)))

  farmers-well : (counts : Counts) (grid : Grid) (lists : Option (List (List ℕ))) (read : List BidderWithWords)
      (entries : List Entry) → StepsWell
      (farmers_errand (alone counts) grid lists read entries)
  farmers-well counts grid lists read [] next h = h read
  farmers-well counts grid lists read (entry ∷ entries) next h =
      farmer-well counts grid (list_at lists (length read)) (length read + 1) entry _
      (λ farmer. farmers-well counts grid lists (read ++ farmer ∷ []) entries next h)

  pub bidders-well : (counts : Counts) (grid : Grid) (lists : Option (List (List ℕ))) (entries : List Entry) → StepsWell
      (farmers_errand (alone counts) grid lists [] entries)
  bidders-well counts grid lists entries = farmers-well counts grid lists [] entries

  source-well : (counts : Counts) (source : ServerSource) → StepsWell (source_errand (alone counts) source)
  source-well counts (ServerSeed seed) next h = h _
  source-well counts (Tapes coefficients masks) next h =
      reads-well coefficients TAPE_LIMIT (λ bytes. tape_of bytes (with_spare counts.coefficients)) _ (λ numbers.
      reads-well masks TAPE_LIMIT (λ bytes. tape_of bytes counts.masks) _ (λ words. h _))

  held-enough : (server : ℕ) (kind : List ℕ) (held wanted : ℕ) (next : Errand) → EndsWell next →
      EndsWell (enough_held None server kind held wanted next)
  held-enough server kind held wanted next h =
      either (nat_lt held wanted) (refuses TooFewWords (server_short_text None server kind held wanted)) next
      (refused-well TooFewWords _
      (inr (record { server = server; kind = kind; held = held; wanted = wanted; is = refl }))) h

  one-enough : (counts : Counts) (server : ℕ) (words : ServerWords) (next : Errand) → EndsWell next → EndsWell
      (enough_of (alone counts) server words next)
  one-enough counts server words next h =
      held-enough server (codes "coefficients") (length (accepted words.coefficients)) counts.coefficients
      (enough_held None server (codes "masks") (length words.masks) counts.masks next)
      (held-enough server (codes "masks") (length words.masks) counts.masks next h)

  pub servers-enough : (counts : Counts) (servers : Trio ServerWords) (next : Errand) → EndsWell next → EndsWell
      (enough_of_all (alone counts) servers next)
  servers-enough counts servers next h =
      one-enough counts 1 servers.one
      (enough_of (alone counts) 2 servers.two (enough_of (alone counts) 3 servers.three next))
      (one-enough counts 2 servers.two (enough_of (alone counts) 3 servers.three next)
      (one-enough counts 3 servers.three next h))

  server-well : (counts : Counts) (server : ℕ) (source : ServerSource) →
      StepsWell (server_errand (alone counts) server source)
  server-well counts server source next h =
      source-well counts source _ (λ words. one-enough counts server words (next words) (h words))

  three-well : (counts : Counts) (sources : Trio ServerSource) → StepsWell (three_errand (alone counts) sources)
  three-well counts sources next h =
      server-well counts 1 sources.one _
      (λ one. server-well counts 2 sources.two _ (λ two. server-well counts 3 sources.three _ (λ three. h _)))

  pub all-words-well : (counts : Counts) (count : Option ℕ) (sources : Servers) → StepsWell
      (all_words_errand (alone counts) count sources)
  all-words-well counts count (Three sources) next h =
      three-well counts sources _ (λ servers. h (record { servers = servers; bidders = None }))
  all-words-well counts count (Bundle name) next h =
      reads-well name LONGEST_FILE (λ bytes. counted count (bundle_of bytes)) _
      (λ words. servers-enough counts (cut_servers counts words) _ (h _))

  -- the servers whose seeds are given, one after another
  seeded-well : (counts : Counts) (read : List ServerWords) (seeds : List (List ℕ)) → StepsWell
      (five_servers_errand (alone counts) read seeds)
  seeded-well counts read [] next h = h read
  seeded-well counts read (seed ∷ seeds) next h =
      server-well counts (length read + 1) (ServerSeed seed) _
      (λ words. seeded-well counts (read ++ words ∷ []) seeds next h)

  pub product-well : (book : List ℕ) (grid : Grid) (count : ℕ) (next : Errand) → EndsWell next →
      EndsWell (within_product 0 book grid count next)
  product-well book grid count next h =
      either (nat_lt MOST_PRODUCT (0 + count * grid.prices)) (bad_file book over_product) next
      (refused-well BadFile _ (record { name = book; fault = over_product; is = refl })) h

  pub loaded-well : (auction servers book : List ℕ) → StepsWell (loaded_errand auction servers book)
  unfolding loaded_errand setting_errand rest_errand
  loaded-well auction servers book next h =
      reads-well auction AUCTION_LIMIT auction_of _ (λ grid.
      reads-well servers SERVERS_LIMIT servers_of _ (λ sources.
      reads-well book BOOK_LIMIT book_of _ (λ entries.
      all-words-well (counts_of grid) (Some (length entries)) sources _ (λ words.
      bidders-well (counts_of grid) grid words.bidders entries _
      (λ farmers. h (record { grid = grid; servers = words.servers; farmers = farmers }))))))

  pub limited-well : (auction servers book : List ℕ) → StepsWell (limited_errand auction servers book)
  unfolding limited_errand setting_errand rest_errand
  limited-well auction servers book next h =
      reads-well auction AUCTION_LIMIT auction_of _ (λ grid.
      reads-well servers SERVERS_LIMIT servers_of _ (λ sources.
      reads-well book BOOK_LIMIT book_of _ (λ entries.
      product-well book grid (length entries) _ (
      all-words-well (counts_of grid) (Some (length entries)) sources _ (λ words.
      bidders-well (counts_of grid) grid words.bidders entries _
      (λ farmers. h (record { grid = grid; servers = words.servers; farmers = farmers })))))))

  chains-well : (auction : List ℕ) (gates : Gates) (next : Errand) → EndsWell next → EndsWell (with_chains auction gates next)
  chains-well auction Chain next h = h
  chains-well auction Tree next h =
      refused-well BadFile _ (record { name = auction; fault = tree_gates; is = refl })

  -- an auction among five servers
  five-rest-well : (setting : FiveSetting) → StepsWell (five_rest_errand setting)
  unfolding five_rest_errand
  five-rest-well setting next h =
      let counts = counts_of_five setting.grid in
      seeded-well counts [] setting.seeds _ (λ servers.
      bidders-well counts setting.grid None setting.entries _
      (λ farmers. h (read_with setting.grid (lists_of servers) farmers)))

  five-setting-well : (auction servers book : List ℕ) → StepsWell (five_setting_errand auction servers book)
  unfolding five_setting_errand
  five-setting-well auction servers book next h =
      reads-well auction AUCTION_LIMIT auction_of _ (λ grid.
      chains-well auction grid.gates _ (
      reads-well servers SERVERS_LIMIT five_seeds_of _ (λ seeds.
      reads-well book BOOK_LIMIT book_of _
      (λ entries. h (record { grid = grid; seeds = seeds; entries = entries })))))

  pub five-well : (auction servers book : List ℕ) → StepsWell (five_loaded_errand auction servers book)
  unfolding five_loaded_errand
  five-well auction servers book next h =
      five-setting-well auction servers book _ (λ setting. five-rest-well setting next h)

  pub five-limited-well : (auction servers book : List ℕ) → StepsWell (five_limited_errand auction servers book)
  unfolding five_limited_errand
  five-limited-well auction servers book next h =
      five-setting-well auction servers book _ (λ setting.
      product-well book setting.grid (length setting.entries) _ (five-rest-well setting next h))

  bids-well : (grid : Grid) (read : List Bidder) (entries : List Entry) → StepsWell (bids_errand grid read entries)
  bids-well grid read [] next h = h read
  bids-well grid read (entry ∷ entries) next h =
      reads-well entry.bid BID_LIMIT (bid_of grid) _
      (λ curve. bids-well grid (read ++ record { known = entry.known; curve = curve } ∷ []) entries next h)

  pub curves-well : (book : List ℕ) (grid : Grid) → StepsWell (curves_errand 0 book grid)
  curves-well book grid next h =
      reads-well book BOOK_LIMIT book_of _
      (λ entries. product-well book grid (length entries) _ (bids-well grid [] entries next h))
