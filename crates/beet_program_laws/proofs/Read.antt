-- What the files of an auction are read as: a book of accepted bids, and words with which its auction can be run.
use Rattle.std.proofs.Common.{◌≡◌, ◌≤◌, ◌+◌, ◌*◌, ◌==◌, ℕ, zero, suc, Bool, true, false, List, [], ◌∷◌, ◌++◌, length}
use Rattle.std.proofs.Common.{map, take, get_or, slice_get, nat_lt, Option, Some, None, Ok, Err, if◌then◌else◌, refl}
use Rattle.std.proofs.Common.{sym, ap, subst, ◌∙◌, arith, length-append}
use Rattle.std.specs.Prelude.{All, IfSome, codes}
use Rattle.std.proofs.lemmas.Bool.{ltb-false}
use Rattle.std.proofs.lemmas.List.{length-map, take_all}
use Rattle.std.proofs.lemmas.List.FromFn.{length-map-range_with_len}
use Rattle.std.proofs.lemmas.List.Elements.{All-append, All-cons, All-head, All-map, All-nil, All-tail, All-take}
use Rattle.beet_field.specs.declared.trio.Trio.{Trio}
use Rattle.beet_store.specs.Files.{File}
use Rattle.beet_forms.specs.Faults.{Reading}
use Rattle.beet_forms.specs.FaultLines.{fault_line_of}
use Rattle.beet_words.specs.Bundles.{AreWords, Words, bundle_of}
use Rattle.beet_words.specs.Seeds.{seed_word, seed_words}
use Rattle.beet_words.specs.TapeFiles.{tape_of}
use Rattle.beet_words.specs.Words.{IsWord, accepted}
use Rattle.beet_forms.specs.declared.faults.TheConstants.{LONGEST_FILE}
use Rattle.beet_words.specs.declared.bundle.TheConstants.{MOST_BIDDERS}
use Rattle.beet_words.specs.declared.tape_file.TheConstants.{TAPE_LIMIT}
use Rattle.beet_bids.specs.AuctionFiles.{auction_of}
use Rattle.beet_bids.specs.BidFiles.{bid_of}
use Rattle.beet_bids.specs.Books.{Book, IsBook}
use Rattle.beet_bids.specs.Curves.{IsCurve, IsOfGrid}
use Rattle.beet_bids.specs.Grids.{Grid}
use Rattle.beet_bids.specs.declared.auction_file.TheConstants.{AUCTION_LIMIT}
use Rattle.beet_bids.specs.declared.bid_file.TheConstants.{BID_LIMIT}
use Rattle.beet_bids.specs.declared.book.Bidder.{Bidder}
use Rattle.beet_masking.specs.Masks.{with_spare}
use Rattle.beet_masking.specs.declared.TheConstants.{SPARE_WORDS}
use Rattle.beet_book.specs.BookFiles.{book_of}
use Rattle.beet_book.specs.Farmers.{BidderWithWords, book_with, farmers_of}
use Rattle.beet_book.specs.ServerFiles.{servers_of}
use Rattle.beet_book.specs.declared.book_file.TheConstants.{BOOK_LIMIT, MOST_PRODUCT}
use Rattle.beet_book.specs.declared.entries.BidderSource.{BidderSource}
use Rattle.beet_book.specs.declared.entries.BidderSource.TheVariants.{Seed, Tape}
use Rattle.beet_book.specs.declared.entries.Entry.{Entry}
use Rattle.beet_book.specs.declared.server_file.TheConstants.{SERVERS_LIMIT}
use Rattle.beet_book.specs.declared.sources.ServerSource.{ServerSource}
use Rattle.beet_book.specs.declared.sources.ServerSource.TheVariants.{Seed as ServerSeed, Tapes}
use Rattle.beet_book.specs.declared.sources.Servers.{Servers}
use Rattle.beet_book.specs.declared.sources.Servers.TheVariants.{Three, Bundle}
use Rattle.beet_trades.specs.Enough.{HasAccepted}
use Rattle.beet_headline.specs.Statements.{CanRun}
use Rattle.beet_errand.specs.Errands.{Step, ◌>>=◌, gives, reads}
use Rattle.beet_errand.specs.declared.answer.Refusal.TheVariants.{BadFile, TooFewWords}
use Rattle.beet_load.specs.Counts.{Counts, coefficients_wanted, counts_of, words_wanted}
use Rattle.beet_load.specs.Wanted.{wanted_of}
use Rattle.beet_load.specs.Farmers.{bidder_errand, farmer_errand, farmers_errand, list_at, words_errand}
use Rattle.beet_load.specs.Limits.{over_product}
use Rattle.beet_load.specs.Lots.{first_stream}
use Rattle.beet_load.specs.Loading.{AuctionWithBidders, loaded_errand, rest_errand}
use Rattle.beet_load.specs.Servers.{AllWords, HasEnough, IsCut, ServerWords, all_words_errand, counted, cut_server}
use Rattle.beet_load.specs.Servers.{cut_servers, enough_held, enough_of, enough_of_all, seeded, server_errand}
use Rattle.beet_load.specs.Servers.{source_errand, three_errand, wrong_count}
use Rattle.beet_load.specs.Settings.{setting_errand}
use Rattle.beet_load.specs.Wholes.{CanDeal, CanStart, IsFarmer, all_words, bids_errand, curves_errand, limited_errand}
use Rattle.beet_load.specs.declared.wanted.Wanted.{Wanted}
use Rattle.beet_load.specs.WordTexts.{server_short_text, too_few_text}
use Rattle.beet_load.proofs.Cuts.{seeded_cut, take-few}
use Rattle.beet_five_load.proofs.Running.{makes-book}
use Rattle.beet_app_laws.specs.Held.{IsHeld}
use Rattle.beet_load.specs.WholeViews.{loaded_with}
use Rattle.beet_program_laws.proofs.Files.{AreFew, bid-is, book-few, bundle-are, seed-are, tape-are}
use Rattle.beet_program_laws.proofs.Held.{held-yield}
use Rattle.beet_program_laws.proofs.Steps.{Yields, any-yield, gives-yield, passes-yield, reads-yield, then-both, then-yields}
use Rattle.beet_program_laws.proofs.Steps.{weaker-yield}

-- a bidder that is read with its words, of which so many are wanted
pub record IsReadFor (counts : Counts) (grid : Grid) (farmer : BidderWithWords) : Type 0 where
  pub is : IsFarmer counts grid farmer
  pub words : All IsWord farmer.words

-- so it is for an auction among three servers
abbrev pub IsRead : Grid → BidderWithWords → Type 0
IsRead grid farmer = IsReadFor (counts_of grid) grid farmer

-- the words of a server that are read
pub record AreKept (counts : Counts) (words : ServerWords) : Type 0 where
  pub cut : IsCut counts words
  pub masks : All IsWord words.masks
  pub coefficients : All IsWord words.coefficients

-- those of a seed
pub seeded-kept : (wanted : Wanted) (seed : List ℕ) → AreKept wanted.counts (seeded wanted seed)
seeded-kept wanted seed = record {
  cut = seeded_cut wanted seed (seeded wanted seed) refl;
  masks = seed-are seed (first_stream wanted.lot + 1) wanted.counts.masks;
  coefficients = seed-are seed (first_stream wanted.lot) (with_spare wanted.counts.coefficients);
}

-- and are enough
pub record CanServe (counts : Counts) (words : ServerWords) : Type 0 where
  pub enough : HasEnough counts words
  pub kept : AreKept counts words

pub record CanServeAll (counts : Counts) (servers : Trio ServerWords) : Type 0 where
  pub one : CanServe counts servers.one
  pub two : CanServe counts servers.two
  pub three : CanServe counts servers.three

-- lists of words, where they are given
abbrev pub AreLists : Option (List (List ℕ)) → Type 0
AreLists lists = IfSome lists (λ all. All (λ list. All IsWord list) all)

-- the words of a bidder that are read
abbrev pub IsDealt : Counts → List ℕ → Type 0
IsDealt counts words = All IsWord words × CanDeal counts words

-- all words that are read: those of the servers are enough, and those of the bidders are words
abbrev pub AreServed : Counts → AllWords → Type 0
AreServed counts words = CanServeAll counts words.servers × AreLists words.bidders

-- what is read of an auction
pub record IsLoaded (loaded : AuctionWithBidders) : Type 0 where
  pub few : length loaded.farmers ≤ MOST_BIDDERS
  pub farmers : All (IsRead loaded.grid) loaded.farmers
  pub servers : CanServeAll (counts_of loaded.grid) loaded.servers

-- what is read of an auction whose book is kept whole: the auction's file was held, and the book is within the limit
pub record IsLimited (files : List File) (auction : List ℕ) (loaded : AuctionWithBidders) : Type 0 where
  pub grid : IsHeld files auction AUCTION_LIMIT auction_of loaded.grid
  pub product : length loaded.farmers * loaded.grid.prices ≤ MOST_PRODUCT
  pub right : IsLoaded loaded

pub within-limit : (n m prices : ℕ) → n ≡ 0 + m → nat_lt MOST_PRODUCT (0 + m * prices) ≡ false → n * prices ≤ MOST_PRODUCT
within-limit n m prices e f =
    let same : n ≡ m = omega (arith, e) in
    let le : 0 + m * prices ≤ MOST_PRODUCT = ltb-false MOST_PRODUCT (0 + m * prices) f in
    let whole : m * prices ≤ MOST_PRODUCT = omega (arith, le) in
    subst (λ (k : ℕ). k * prices ≤ MOST_PRODUCT) (sym same) whole

-- an item of a list has what all have
item-has : {A : Type 0} (P : A → Type 0) (xs : List A) (i : ℕ) → All P xs → IfSome (slice_get xs i) P
item-has P [] i all = tt
item-has P (x ∷ xs) zero all = All-head P x xs all
item-has P (x ∷ xs) (suc i) all = item-has P xs i (All-tail P x xs all)

pub list-has : (lists : Option (List (List ℕ))) (i : ℕ) → AreLists lists →
    IfSome (list_at lists i) (λ list. All IsWord list)
list-has None i all = tt
list-has (Some lists) i all = item-has (λ list. All IsWord list) lists i all

pub one-more : (n read before rest : ℕ) → n ≡ read + rest → read ≡ before + 1 → n ≡ before + suc rest
one-more n read before rest e f = omega (arith, e, f)

module _ (files : List File) where
  -- ---- bidders

  pub words-yield : (given : Option (List ℕ)) → IfSome given (λ list. All IsWord list) →
      (source : BidderSource) (kept : ℕ) →
      Yields files (words_errand given source kept) (AreFew kept)
  words-yield (Some words) all source kept =
      gives-yield files (AreFew kept) (take kept words) (All-take IsWord kept words all, take-few kept words)
  words-yield None all (Seed seed) kept =
      gives-yield files (AreFew kept) (seed_words seed 0 kept)
      (seed-are seed 0 kept, omega (arith, length-map-range_with_len (seed_word seed 0) 0 kept))
  words-yield None all (Tape name) kept = reads-yield files name TAPE_LIMIT (λ bytes. tape_of bytes kept) (AreFew kept)
      (λ bytes words e. tape-are bytes kept words e)

-- the words of bidders and of servers of which so many are wanted
module _ (files : List File) (wanted : Wanted) where
  pub bidder-yield : (given : Option (List ℕ)) → IfSome given (λ list. All IsWord list) → (number : ℕ)
      (source : BidderSource) → Yields files (bidder_errand wanted given number source) (IsDealt wanted.counts)
  bidder-yield given all number source =
      let kept = with_spare wanted.counts.words in
      then-yields files (words_errand given source kept) _ (AreFew kept) (IsDealt wanted.counts)
      (words-yield files given all source kept) (λ words few.
      passes-yield files (nat_lt (length (accepted words)) wanted.counts.words) TooFewWords
      (too_few_text wanted.lot number (length (accepted words)) wanted.counts.words) (gives words)
      (IsDealt wanted.counts) (λ enough.
      gives-yield files (IsDealt wanted.counts) words (few.0, record { enough = ltb-false _ _ enough; kept = few.1 })))

  -- ---- servers

  source-yield : (source : ServerSource) → Yields files (source_errand wanted source) (AreKept wanted.counts)
  source-yield (ServerSeed seed) =
      gives-yield files (AreKept wanted.counts) (seeded wanted seed) (seeded-kept wanted seed)
  source-yield (Tapes coefficients masks) =
      let few = with_spare wanted.counts.coefficients in
      let most = wanted.counts.masks in
      then-yields files (reads coefficients TAPE_LIMIT (λ bytes. tape_of bytes few)) _
      (AreFew few) (AreKept wanted.counts)
      (reads-yield files coefficients TAPE_LIMIT (λ bytes. tape_of bytes few) (AreFew few)
      (λ bytes words e. tape-are bytes few words e)) (λ numbers h.
      then-yields files (reads masks TAPE_LIMIT (λ bytes. tape_of bytes most)) _
      (AreFew most) (AreKept wanted.counts)
      (reads-yield files masks TAPE_LIMIT (λ bytes. tape_of bytes most) (AreFew most)
      (λ bytes words e. tape-are bytes most words e)) (λ words h'.
      gives-yield files (AreKept wanted.counts) (record { masks = words; coefficients = numbers })
      (record { cut = record { masks = h'.1; coefficients = h.1 }; masks = h'.0; coefficients = h.0 })))

  enough-yield : {A : Type 0} (server : ℕ) (words : ServerWords) (step : Step A) (P : A → Type 0) →
      (HasEnough wanted.counts words → Yields files step P) → Yields {A = A} files
      (λ next. enough_of wanted server words (step next)) P
  enough-yield server words step P y =
      passes-yield files (nat_lt (length (accepted words.coefficients)) wanted.counts.coefficients) TooFewWords
      (server_short_text wanted.lot server (codes "coefficients") (length (accepted words.coefficients))
      wanted.counts.coefficients)
      (λ next. enough_held wanted.lot server (codes "masks") (length words.masks) wanted.counts.masks (step next)) P
      (λ numbers.
      passes-yield files (nat_lt (length words.masks) wanted.counts.masks) TooFewWords
      (server_short_text wanted.lot server (codes "masks") (length words.masks) wanted.counts.masks)
      step P (λ masks.
      y (record { coefficients = ltb-false _ _ numbers; masks = ltb-false _ _ masks })))

  pub servers-yield : {A : Type 0} (servers : Trio ServerWords) (step : Step A) (P : A → Type 0) →
      (HasEnough wanted.counts servers.one → HasEnough wanted.counts servers.two →
      HasEnough wanted.counts servers.three →
      Yields files step P) →
      Yields {A = A} files (λ next. enough_of_all wanted servers (step next)) P
  servers-yield servers step P y =
      enough-yield 1 servers.one
      (λ next. enough_of wanted 2 servers.two (enough_of wanted 3 servers.three (step next))) P (λ one.
      enough-yield 2 servers.two (λ next. enough_of wanted 3 servers.three (step next)) P (λ two.
      enough-yield 3 servers.three step P (λ three. y one two three)))

  pub server-yield : (server : ℕ) (source : ServerSource) →
      Yields files (server_errand wanted server source) (CanServe wanted.counts)
  server-yield server source =
      then-yields files (source_errand wanted source) _ (AreKept wanted.counts) (CanServe wanted.counts)
      (source-yield source)
      (λ words kept.
      enough-yield server words (gives words) (CanServe wanted.counts)
      (λ enough. gives-yield files (CanServe wanted.counts) words (record { enough = enough; kept = kept })))

  three-yield : (sources : Trio ServerSource) →
      Yields files (three_errand wanted sources) (CanServeAll wanted.counts)
  three-yield sources =
      let all = CanServeAll wanted.counts in
      let each = CanServe wanted.counts in
      then-yields files (server_errand wanted 1 sources.one) _ each all (server-yield 1 sources.one) (λ one h1.
      then-yields files (server_errand wanted 2 sources.two) _ each all (server-yield 2 sources.two) (λ two h2.
      then-yields files (server_errand wanted 3 sources.three) _ each all (server-yield 3 sources.three) (λ three h3.
      gives-yield files all (record { one = one; two = two; three = three })
      (record { one = h1; two = h2; three = h3 }))))

  cut-kept : (masks coefficients : List ℕ) → All IsWord masks → All IsWord coefficients →
      AreKept wanted.counts (cut_server wanted.counts masks coefficients)
  cut-kept masks coefficients m c = record {
    cut = record {
      masks = take-few wanted.counts.masks masks;
      coefficients = take-few (with_spare wanted.counts.coefficients) coefficients;
    };
    masks = All-take IsWord wanted.counts.masks masks m;
    coefficients = All-take IsWord (with_spare wanted.counts.coefficients) coefficients c;
  }

  chosen-words : (b : Bool) (held words : Words) → (if b then Ok held else Err wrong_count) ≡ Ok words →
      AreWords held → AreWords words
  chosen-words true held words e are = let same : held ≡ words = cc e in subst AreWords same are
  chosen-words false held words e are = absurd cc

  counted-are : (count : Option ℕ) (bytes : List ℕ) (reading : Reading Words) → bundle_of bytes ≡ reading →
      (words : Words) → counted count reading ≡ Ok words → AreWords words
  counted-are None bytes reading is words e = bundle-are bytes words (is ∙ e)
  counted-are (Some count) bytes (Ok held) is words e =
      chosen-words (length held.bidders == count) held words e (bundle-are bytes held is)
  counted-are (Some count) bytes (Err fault) is words e = absurd cc

  pub all-words-yield : (count : Option ℕ) (sources : Servers) →
      Yields files (all_words_errand wanted count sources) (AreServed wanted.counts)
  all-words-yield count (Three sources) =
      then-yields files (three_errand wanted sources)
      (λ servers. gives (record { servers = servers; bidders = None }))
      (CanServeAll wanted.counts) (AreServed wanted.counts)
      (three-yield sources) (λ servers h.
      gives-yield files (AreServed wanted.counts) (record { servers = servers; bidders = None }) (h, tt))
  all-words-yield count (Bundle name) =
      then-yields files (reads name LONGEST_FILE (λ bytes. counted count (bundle_of bytes)))
      (λ words next. enough_of_all wanted (cut_servers wanted.counts words) (next (record {
        servers = cut_servers wanted.counts words;
        bidders = Some words.bidders;
      }))) AreWords (AreServed wanted.counts)
      (reads-yield files name LONGEST_FILE (λ bytes. counted count (bundle_of bytes)) AreWords
      (λ bytes words e. counted-are count bytes (bundle_of bytes) refl words e)) (λ words are.
      let all : AllWords = record { servers = cut_servers wanted.counts words; bidders = Some words.bidders } in
      servers-yield (cut_servers wanted.counts words) (gives all) (AreServed wanted.counts) (λ one two three.
      gives-yield files (AreServed wanted.counts) all (
        record {
          one = record {
            enough = one;
            kept = cut-kept words.masks.one words.coefficients.one are.masks.0 are.coefficients.0;
          };
          two = record {
            enough = two;
            kept = cut-kept words.masks.two words.coefficients.two are.masks.1 are.coefficients.1;
          };
          three = record {
            enough = three;
            kept = cut-kept words.masks.three words.coefficients.three are.masks.2 are.coefficients.2;
          };
        },
        are.bidders,
      )))

-- the bidders of a book, of which so many words are wanted
module _ (files : List File) (wanted : Wanted) where
  farmer-yield : (grid : Grid) (given : Option (List ℕ)) → IfSome given (λ list. All IsWord list) →
      (number : ℕ) (entry : Entry) →
      Yields files (farmer_errand wanted grid given number entry) (IsReadFor wanted.counts grid)
  farmer-yield grid given all number entry =
      then-yields files (reads entry.bid BID_LIMIT (bid_of grid)) _
      (λ curve. IsCurve curve × IsOfGrid grid curve) (IsReadFor wanted.counts grid)
      (reads-yield files entry.bid BID_LIMIT (bid_of grid) (λ curve. IsCurve curve × IsOfGrid grid curve)
      (λ bytes curve e. bid-is grid bytes curve e)) (λ curve is.
      then-yields files (bidder_errand wanted given number entry.source) _
      (IsDealt wanted.counts) (IsReadFor wanted.counts grid)
      (bidder-yield files wanted given all number entry.source) (λ words dealt.
      gives-yield files (IsReadFor wanted.counts grid)
      (record { bidder = record { known = entry.known; curve = curve }; words = words })
      (record { is = record { curve = is.0; of_grid = is.1; words = dealt.1 }; words = dealt.0 })))

  pub farmers-yield : (grid : Grid) (lists : Option (List (List ℕ))) → AreLists lists → (read : List BidderWithWords) →
      All (IsReadFor wanted.counts grid) read → (entries : List Entry) →
      Yields files (farmers_errand wanted grid lists read entries)
      (λ farmers. All (IsReadFor wanted.counts grid) farmers × (length farmers ≡ length read + length entries))
  farmers-yield grid lists all read are [] =
      gives-yield files (λ farmers. All (IsReadFor wanted.counts grid) farmers × (length farmers ≡ length read + 0)) read
      (are, omega arith)
  farmers-yield grid lists all read are (entry ∷ entries) =
      then-yields files (farmer_errand wanted grid (list_at lists (length read)) (length read + 1) entry)
      (λ farmer. farmers_errand wanted grid lists (read ++ farmer ∷ []) entries) (IsReadFor wanted.counts grid)
      (λ farmers. All (IsReadFor wanted.counts grid) farmers × (length farmers ≡ length read + length (entry ∷ entries)))
      (farmer-yield grid (list_at lists (length read)) (list-has lists (length read) all) (length read + 1) entry)
      (λ farmer is.
      let more =
      All-append (IsReadFor wanted.counts grid) read (farmer ∷ []) are
      (All-cons (IsReadFor wanted.counts grid) farmer [] is (All-nil (IsReadFor wanted.counts grid))) in
      let long : length (read ++ farmer ∷ []) ≡ length read + 1 = length-append read (farmer ∷ []) in
      weaker-yield files (farmers_errand wanted grid lists (read ++ farmer ∷ []) entries)
      (λ farmers. All (IsReadFor wanted.counts grid) farmers × (length farmers ≡ length (read ++ farmer ∷ []) + length entries))
      (λ farmers. All (IsReadFor wanted.counts grid) farmers × (length farmers ≡ length read + length (entry ∷ entries)))
      (λ farmers h.
      (h.0, one-more (length farmers) (length (read ++ farmer ∷ [])) (length read) (length entries) h.1 long))
      (farmers-yield grid lists all (read ++ farmer ∷ []) more entries))

-- an auction alone, or of a lot
module _ (files : List File) (lot : Option ℕ) where
  -- ---- both

  pub rest-yield : (grid : Grid) (sources : Servers) (entries : List Entry) → length entries ≤ MOST_BIDDERS →
      Yields {A = AuctionWithBidders} files
      (λ next. all_words_errand (wanted_of lot grid) (Some (length entries)) sources (λ words. farmers_errand
      (wanted_of lot grid) grid words.bidders [] entries (λ farmers.
      next (record { grid = grid; servers = words.servers; farmers = farmers })))) IsLoaded
  rest-yield grid sources entries few =
      then-yields files (all_words_errand (wanted_of lot grid) (Some (length entries)) sources)
      (λ words next. farmers_errand (wanted_of lot grid) grid words.bidders [] entries (λ farmers. next (record
      { grid = grid; servers = words.servers; farmers = farmers })))
      (AreServed (counts_of grid)) IsLoaded
      (all-words-yield files (wanted_of lot grid) (Some (length entries)) sources) (λ words good.
      then-yields files (farmers_errand (wanted_of lot grid) grid words.bidders [] entries)
      (λ farmers. gives (record { grid = grid; servers = words.servers; farmers = farmers }))
      (λ farmers. All (IsRead grid) farmers × (length farmers ≡ 0 + length entries)) IsLoaded
      (farmers-yield files (wanted_of lot grid) grid words.bidders good.1 [] (All-nil (IsRead grid)) entries) (λ farmers h.
      gives-yield files IsLoaded (record { grid = grid; servers = words.servers; farmers = farmers })
      (record { few = omega (arith, few, h.1); farmers = h.0; servers = good.0 })))

module _ (files : List File) where
  -- ---- the whole

  pub loaded-yield : (auction servers book : List ℕ) → Yields files (loaded_errand auction servers book) IsLoaded
  unfolding loaded_errand setting_errand rest_errand
  loaded-yield auction servers book =
      then-yields files (reads auction AUCTION_LIMIT auction_of) _ (λ grid. Unit {0}) IsLoaded
      (any-yield files auction AUCTION_LIMIT auction_of) (λ grid any.
      then-yields files (reads servers SERVERS_LIMIT servers_of) _ (λ sources. Unit {0}) IsLoaded
      (any-yield files servers SERVERS_LIMIT servers_of) (λ sources any.
      then-yields files (reads book BOOK_LIMIT book_of) _ (λ entries. length entries ≤ MOST_BIDDERS) IsLoaded
      (reads-yield files book BOOK_LIMIT book_of (λ entries. length entries ≤ MOST_BIDDERS)
      (λ bytes entries e. book-few bytes entries e)) (λ entries few.
      rest-yield files None grid sources entries few)))

  -- where a job is done that keeps a whole book, what it has read is so
  pub limited : (auction servers book : List ℕ) →
      Yields files (limited_errand auction servers book) (IsLimited files auction)
  unfolding limited_errand setting_errand rest_errand
  limited auction servers book =
      then-yields files (reads auction AUCTION_LIMIT auction_of) _ (IsHeld files auction AUCTION_LIMIT auction_of)
      (IsLimited files auction)
      (held-yield files auction AUCTION_LIMIT auction_of) (λ grid held.
      then-yields files (reads servers SERVERS_LIMIT servers_of) _ (λ sources. Unit {0}) (IsLimited files auction)
      (any-yield files servers SERVERS_LIMIT servers_of) (λ sources any.
      then-yields files (reads book BOOK_LIMIT book_of) _ (λ entries. length entries ≤ MOST_BIDDERS)
      (IsLimited files auction)
      (reads-yield files book BOOK_LIMIT book_of (λ entries. length entries ≤ MOST_BIDDERS)
      (λ bytes entries e. book-few bytes entries e)) (λ entries few.
      passes-yield {A = AuctionWithBidders} files (nat_lt MOST_PRODUCT (0 + length entries * grid.prices)) BadFile
      (fault_line_of book over_product.place over_product.reason) _
      (IsLimited files auction) (λ within.
      then-yields files (all_words_errand (wanted_of None grid) (Some (length entries)) sources)
      (λ words next. farmers_errand (wanted_of None grid) grid words.bidders [] entries
      (λ farmers. next (record { grid = grid; servers = words.servers; farmers = farmers })))
      (AreServed (counts_of grid)) (IsLimited files auction)
      (all-words-yield files (wanted_of None grid) (Some (length entries)) sources) (λ words good.
      then-yields files (farmers_errand (wanted_of None grid) grid words.bidders [] entries)
      (λ farmers. gives (record { grid = grid; servers = words.servers; farmers = farmers }))
      (λ farmers. All (IsRead grid) farmers × (length farmers ≡ 0 + length entries))
      (IsLimited files auction)
      (farmers-yield files (wanted_of None grid) grid words.bidders good.1 [] (All-nil (IsRead grid)) entries) (λ farmers h.
      gives-yield files (IsLimited files auction)
      (record { grid = grid; servers = words.servers; farmers = farmers }) (record {
        grid = held;
        product = within-limit (length farmers) (length entries) grid.prices h.1 within;
        right = record { few = omega (arith, few, h.1); farmers = h.0; servers = good.0 };
      })))))))

  pub limited-yield : (auction servers book : List ℕ) → Yields files (limited_errand auction servers book) IsLoaded
  limited-yield auction servers book =
      weaker-yield files (limited_errand auction servers book) (IsLimited files auction) IsLoaded (λ loaded h. h.right)
      (limited auction servers book)

  -- bidders without words
  abbrev IsBidder : Grid → Bidder → Type 0
  IsBidder grid bidder = IsCurve bidder.curve × IsOfGrid grid bidder.curve

  bids-yield : (grid : Grid) (read : List Bidder) → All (IsBidder grid) read → (entries : List Entry) →
      Yields files (bids_errand grid read entries)
      (λ bidders. All (IsBidder grid) bidders × (length bidders ≡ length read + length entries))
  bids-yield grid read are [] =
      gives-yield files (λ bidders. All (IsBidder grid) bidders × (length bidders ≡ length read + 0)) read
      (are, omega arith)
  bids-yield grid read are (entry ∷ entries) =
      then-yields files (reads entry.bid BID_LIMIT (bid_of grid)) _ (λ curve. IsCurve curve × IsOfGrid grid curve)
      (λ bidders. All (IsBidder grid) bidders × (length bidders ≡ length read + length (entry ∷ entries)))
      (reads-yield files entry.bid BID_LIMIT (bid_of grid) (λ curve. IsCurve curve × IsOfGrid grid curve)
      (λ bytes curve e. bid-is grid bytes curve e)) (λ curve is.
      let bidder : Bidder = record { known = entry.known; curve = curve } in
      let more = All-append (IsBidder grid) read (bidder ∷ []) are
      (All-cons (IsBidder grid) bidder [] is (All-nil (IsBidder grid))) in
      let long : length (read ++ bidder ∷ []) ≡ length read + 1 = length-append read (bidder ∷ []) in
      weaker-yield files (bids_errand grid (read ++ bidder ∷ []) entries)
      (λ bidders. All (IsBidder grid) bidders × (length bidders ≡ length (read ++ bidder ∷ []) + length entries))
      (λ bidders. All (IsBidder grid) bidders × (length bidders ≡ length read + length (entry ∷ entries)))
      (λ bidders h.
      (h.0, one-more (length bidders) (length (read ++ bidder ∷ [])) (length read) (length entries) h.1 long))
      (bids-yield grid (read ++ bidder ∷ []) more entries))

  pub curves-yield : (book : List ℕ) (grid : Grid) →
      Yields files (curves_errand 0 book grid) (λ bidders. IsBook (record { grid = grid; bidders = bidders }))
  curves-yield book grid =
      then-yields files (reads book BOOK_LIMIT book_of) _ (λ entries. length entries ≤ MOST_BIDDERS)
      (λ bidders. IsBook (record { grid = grid; bidders = bidders }))
      (reads-yield files book BOOK_LIMIT book_of (λ entries. length entries ≤ MOST_BIDDERS)
      (λ bytes entries e. book-few bytes entries e)) (λ entries few.
      passes-yield {A = List Bidder} files (nat_lt MOST_PRODUCT (0 + length entries * grid.prices)) BadFile
      (fault_line_of book over_product.place over_product.reason)
      (bids_errand grid [] entries) (λ bidders. IsBook (record { grid = grid; bidders = bidders })) (λ within.
      weaker-yield files (bids_errand grid [] entries)
      (λ bidders. All (IsBidder grid) bidders × (length bidders ≡ 0 + length entries))
      (λ bidders. IsBook (record { grid = grid; bidders = bidders }))
      (λ bidders h.
      record { few = omega (arith, few, h.1); curves = λ k d lt. (h.0 k d lt).0; of_grid = λ k d lt. (h.0 k d lt).1 })
      (bids-yield grid [] (All-nil (IsBidder grid)) entries)))

  -- a step, and then the bidders of a second book over the grid of its value
  pub second-yield : {A C : Type 0} (step : Step A) (grid_of : A → Grid) (book : List ℕ) (both : A → List Bidder → C)
      (P : A → Type 0) (R : C → Type 0) → Yields files step P →
      ((a : A) (bidders : List Bidder) → P a → IsBook (record { grid = grid_of a; bidders = bidders }) → R (both a bidders)) →
      Yields files (step >>= λ a. curves_errand 0 book (grid_of a) >>= λ bidders. gives (both a bidders)) R
  second-yield step grid_of book both P R y w =
      then-both files step (λ a. curves_errand 0 book (grid_of a)) both P
      (λ a bidders. IsBook (record { grid = grid_of a; bidders = bidders })) R y (λ a. curves-yield book (grid_of a)) w

-- ---- the book and the words

pub farmers-back : (farmers : List BidderWithWords) →
    farmers_of (map (λ (f : BidderWithWords). f.bidder) farmers) (map (λ (f : BidderWithWords). f.words) farmers) ≡ farmers
farmers-back [] = refl
farmers-back (farmer ∷ farmers) = ap (λ (l : List BidderWithWords). farmer ∷ l) (farmers-back farmers)

pub has-accepted : (wanted : ℕ) (words : List ℕ) → wanted ≤ length (accepted words) →
    length words ≤ wanted + SPARE_WORDS → HasAccepted wanted words
has-accepted wanted words enough short =
    subst (λ (w : List ℕ). wanted ≤ length (accepted w)) (sym (take_all (wanted + SPARE_WORDS) words short)) enough

-- bidders that are read are those of a book
pub farmers-book : (grid : Grid) (farmers : List BidderWithWords) → length farmers ≤ MOST_BIDDERS → All (IsRead grid) farmers →
    IsBook (book_with grid farmers)
farmers-book grid farmers few each = makes-book (counts_of grid) grid farmers (λ k d lt. (each k d lt).is) few

module _ (grid : Grid) (servers : Trio ServerWords) (farmers : List BidderWithWords) where
  abbrev pub the_book : Book
  the_book = book_with grid farmers

  abbrev pub the_words : Words
  the_words = all_words servers (map (λ (f : BidderWithWords). f.words) farmers)

  pub back : loaded_with the_book the_words ≡ record { grid = grid; servers = servers; farmers = farmers }
  back = ap (λ (l : List BidderWithWords). record { grid = grid; servers = servers; farmers = l }) (farmers-back farmers)

  module _ (few : length farmers ≤ MOST_BIDDERS) (each : All (IsRead grid) farmers)
      (all : CanServeAll (counts_of grid) servers) where
    pub is-book : IsBook the_book
    is-book = farmers-book grid farmers few each

    many : length the_words.bidders ≡ length the_book.bidders
    many = length-map farmers (λ (f : BidderWithWords). f.words) ∙ sym (length-map farmers (λ (f : BidderWithWords). f.bidder))

    deal : All (CanDeal (counts_of grid)) the_words.bidders
    deal = All-map (CanDeal (counts_of grid)) (λ (f : BidderWithWords). f.words) farmers (λ k d lt. (each k d lt).is.words)

    pub can-run-cut : CanStart the_book the_words
    can-run-cut = record {
      servers = record { one = all.one.enough; two = all.two.enough; three = all.three.enough };
      cut = record { one = all.one.kept.cut; two = all.two.kept.cut; three = all.three.kept.cut };
      lists = many;
      bidders = deal;
    }

    pub can-run : CanRun the_book the_words
    can-run = record {
      are_words = record {
        masks = (all.one.kept.masks, all.two.kept.masks, all.three.kept.masks);
        coefficients = (all.one.kept.coefficients, all.two.kept.coefficients, all.three.kept.coefficients);
        bidders = All-map (λ list. All IsWord list) (λ (f : BidderWithWords). f.words) farmers (λ k d lt. (each k d lt).words);
      };
      enough = record {
        masks = (all.one.enough.masks, all.two.enough.masks, all.three.enough.masks);
        one = has-accepted (coefficients_wanted grid) servers.one.coefficients all.one.enough.coefficients
            all.one.kept.cut.coefficients;
        two = has-accepted (coefficients_wanted grid) servers.two.coefficients all.two.enough.coefficients
            all.two.kept.cut.coefficients;
        three = has-accepted (coefficients_wanted grid) servers.three.coefficients all.three.enough.coefficients
            all.three.kept.cut.coefficients;
        count = many;
        bidders = λ k d lt.
            (let h = deal k d lt in has-accepted (words_wanted grid) (get_or the_words.bidders k d) h.enough h.kept);
      };
    }
