-- What is read of a second book, and of files that hold the same with the words of a bundle.
use Rattle.std.proofs.Common.{◌≡◌, ◌<◌, ◌+◌, ◌*◌, ◌==◌, ◌++◌, ℕ, Bool, true, false, List, [], ◌∷◌, length, map}
use Rattle.std.proofs.Common.{take, slice_get, get_or, nat_lt, Option, Some, None, Ok, Err, if◌then◌else◌, refl, sym}
use Rattle.std.proofs.Common.{ap, subst, ◌∙◌, arith, append-nil, append_assoc, length-append}
use Rattle.std.specs.Prelude.{All}
use Rattle.std.proofs.Math.Seq.{get_or-append_seam}
use Rattle.std.proofs.lemmas.List.Elements.{All-head, All-tail}
use Rattle.std.proofs.lemmas.Option.{slice_get-get_or}
use Rattle.beet_store.specs.Files.{File, bytes_of}
use Rattle.beet_forms.specs.FaultLines.{fault_line_of}
use Rattle.beet_forms.specs.Faults.{Reading}
use Rattle.beet_forms.specs.declared.faults.TheConstants.{LONGEST_FILE}
use Rattle.beet_words.specs.Bundles.{Words, bundle_bytes, bundle_of}
use Rattle.beet_words.specs.Words.{accepted}
use Rattle.beet_bids.specs.AuctionFiles.{auction_of}
use Rattle.beet_bids.specs.BidFiles.{bid_of}
use Rattle.beet_bids.specs.Books.{Book}
use Rattle.beet_bids.specs.Grids.{Grid}
use Rattle.beet_bids.specs.declared.auction_file.TheConstants.{AUCTION_LIMIT}
use Rattle.beet_bids.specs.declared.bid_file.TheConstants.{BID_LIMIT}
use Rattle.beet_bids.specs.declared.book.Bidder.{Bidder}
use Rattle.beet_plan.specs.Kept.{words_kept}
use Rattle.beet_book.specs.BookFiles.{book_of}
use Rattle.beet_book.specs.Farmers.{BidderWithWords, farmers_of}
use Rattle.beet_book.specs.ServerFiles.{servers_of}
use Rattle.beet_book.specs.declared.book_file.TheConstants.{BOOK_LIMIT, MOST_PRODUCT}
use Rattle.beet_book.specs.declared.entries.Entry.{Entry}
use Rattle.beet_book.specs.declared.server_file.TheConstants.{SERVERS_LIMIT}
use Rattle.beet_book.specs.declared.sources.Servers.TheVariants.{Bundle}
use Rattle.beet_auction_map.specs.ViewsWith.{cut_words}
use Rattle.beet_errand.specs.Errands.{gives, reads, refuses}
use Rattle.beet_errand.specs.declared.answer.Refusal.TheVariants.{BadFile, TooFewWords}
use Rattle.beet_load.specs.Counts.{counts_of, words_wanted}
use Rattle.beet_load.specs.Farmers.{farmer_errand, farmers_errand, list_at, words_errand}
use Rattle.beet_load.specs.Limits.{over_product}
use Rattle.beet_load.specs.Loading.{AuctionWithBidders, rest_errand}
use Rattle.beet_load.specs.Servers.{AllWords, all_words_errand, counted, cut_servers, enough_of_all, wrong_count}
use Rattle.beet_load.specs.Settings.{Setting, setting_errand}
use Rattle.beet_load.specs.Wanted.{wanted_of}
use Rattle.beet_load.specs.WholeViews.{loaded_with}
use Rattle.beet_load.specs.Wholes.{bids_errand, curves_errand, limited_errand, limited_rest}
use Rattle.beet_load.specs.WordTexts.{too_few_text}
use Rattle.beet_app_laws.specs.Held.{IsHeld}
use Rattle.beet_program_laws.specs.Again.{HoldsSecond}
use Rattle.beet_program_laws.proofs.Held.{held-yield}
use Rattle.beet_program_laws.proofs.Read.{servers-yield}
use Rattle.beet_program_laws.proofs.Steps.{Yields, gives-yield, passes-yield, then-yields, weaker-yield}

one-reading : {A : Type 0} (a b : A) (reading : Reading A) → reading ≡ Ok a → reading ≡ Ok b → a ≡ b
one-reading a b reading e f = cc

-- two files with the same bytes read as one value
same-value : {A : Type 0} (files held : List File) (name other : List ℕ) (limit : ℕ)
    (grammar : List ℕ → Reading A) (a b : A) →
    bytes_of held name ≡ bytes_of files other → IsHeld held name limit grammar a →
    IsHeld files other limit grammar b → a ≡ b
same-value files held name other limit grammar a b e h k =
    let some : Some h.bytes ≡ Some k.bytes = sym h.held ∙ e ∙ k.held in
    let bytes : h.bytes ≡ k.bytes = cc in
    one-reading a b (grammar h.bytes) h.is (ap grammar bytes ∙ k.is)

-- ---- the second book, as it was read for two worlds

module _ (files : List File) where
  -- the bid of each entry is held, and it is that of the bidder in its place
  abbrev pub AreBids : Grid → List Entry → List Bidder → Type 0
  AreBids grid [] [] = Unit {0}
  AreBids grid [] (bidder ∷ bidders) = ⊥
  AreBids grid (entry ∷ entries) [] = ⊥
  AreBids grid (entry ∷ entries) (bidder ∷ bidders) =
      (bidder.known ≡ entry.known) × IsHeld files entry.bid BID_LIMIT (bid_of grid) bidder.curve
      × AreBids grid entries bidders

  -- bidders that are read after others
  record More (grid : Grid) (read : List Bidder) (entries : List Entry) (bidders : List Bidder) : Type 0 where
    more : List Bidder
    is : bidders ≡ read ++ more
    bids : AreBids grid entries more

  bids-held : (grid : Grid) (read : List Bidder) (entries : List Entry) →
      Yields files (bids_errand grid read entries) (More grid read entries)
  bids-held grid read [] =
      gives-yield files (More grid read []) read (record { more = []; is = sym (append-nil read); bids = tt })
  bids-held grid read (entry ∷ entries) =
      then-yields files (reads entry.bid BID_LIMIT (bid_of grid)) _ (IsHeld files entry.bid BID_LIMIT (bid_of grid))
      (More grid read (entry ∷ entries)) (held-yield files entry.bid BID_LIMIT (bid_of grid)) (λ curve held.
      let bidder : Bidder = record { known = entry.known; curve = curve } in
      weaker-yield files (bids_errand grid (read ++ bidder ∷ []) entries) (More grid (read ++ bidder ∷ []) entries)
      (More grid read (entry ∷ entries))
      (λ bidders m. record {
        more = bidder ∷ m.more;
        is = m.is ∙ append_assoc read (bidder ∷ []) m.more;
        bids = (refl, held, m.bids);
      })
      (bids-held grid (read ++ bidder ∷ []) entries))

  -- a book is held, and these are its bidders
  pub record HoldsBook (list : List ℕ) (grid : Grid) (bidders : List Bidder) : Type 0 where
    pub entries : List Entry
    pub book : IsHeld files list BOOK_LIMIT book_of entries
    pub bids : AreBids grid entries bidders

  pub curves-held : (list : List ℕ) (grid : Grid) → Yields files (curves_errand 0 list grid) (HoldsBook list grid)
  curves-held list grid =
      then-yields files (reads list BOOK_LIMIT book_of) _ (IsHeld files list BOOK_LIMIT book_of) (HoldsBook list grid)
      (held-yield files list BOOK_LIMIT book_of) (λ entries held.
      passes-yield {A = List Bidder} files (nat_lt MOST_PRODUCT (0 + length entries * grid.prices)) BadFile
      (fault_line_of list over_product.place over_product.reason) (bids_errand grid [] entries)
      (HoldsBook list grid) (λ within.
      weaker-yield files (bids_errand grid [] entries) (More grid [] entries) (HoldsBook list grid)
      (λ bidders m. record { entries = entries; book = held; bids = subst (AreBids grid entries) (sym m.is) m.bids })
      (bids-held grid [] entries)))

-- ---- the same book, read with the words of a bundle

-- the list behind others
behind : (before : List (List ℕ)) (list : List ℕ) (lists : List (List ℕ)) (i : ℕ) → i ≡ length before →
    slice_get (before ++ list ∷ lists) i ≡ Some list
behind before list lists i e =
    let long = length-append before (list ∷ lists) in
    let lt : i < length (before ++ list ∷ lists) = omega (arith, e, long) in
    slice_get-get_or (before ++ list ∷ lists) i [] lt
    ∙ ap Some (ap (λ n. get_or (before ++ list ∷ lists) n []) e ∙ get_or-append_seam before list lists [])

chosen : (b : Bool) (held words : Words) → (if b then Ok held else Err wrong_count) ≡ Ok words → words ≡ held
chosen true held words e = cc
chosen false held words e = absurd cc

module _ (files held : List File) (auction list2 : List ℕ) (second : Book) (words : Words)
    (grid_held : IsHeld files auction AUCTION_LIMIT auction_of second.grid)
    (book : HoldsBook files list2 second.grid second.bidders)
    (count : length words.bidders ≡ length second.bidders) (read_back : bundle_of (bundle_bytes words) ≡ Ok words)
    (name servers list : List ℕ) (h : HoldsSecond files held auction list2 (bundle_bytes words) name servers list) where
  abbrev grid : Grid
  grid = second.grid

  abbrev entries : List Entry
  entries = book.entries

  abbrev cut : List ℕ → List ℕ
  cut words = take (words_kept grid.prices) words

  -- the bytes of a bid are the same
  abbrev IsSame : Entry → Type 0
  IsSame entry = bytes_of held entry.bid ≡ bytes_of files entry.bid

  -- the bidder of an entry, with a list of the bundle
  module _ (entry : Entry) (bidder : Bidder) (known : bidder.known ≡ entry.known)
      (bid : IsHeld files entry.bid BID_LIMIT (bid_of grid) bidder.curve) (same : IsSame entry) (own : List ℕ) where
    abbrev the_farmer : BidderWithWords
    the_farmer = record { bidder = bidder; words = cut own }

    farmer-held : (given : Option (List ℕ)) (number : ℕ) → given ≡ Some own →
        Yields held (farmer_errand (wanted_of None grid) grid given number entry) (λ farmer. farmer ≡ the_farmer)
    farmer-held None number e = absurd cc
    farmer-held (Some all) number e =
        let one : all ≡ own = cc in
        let P : BidderWithWords → Type 0 = λ farmer. farmer ≡ the_farmer in
        then-yields held (reads entry.bid BID_LIMIT (bid_of grid)) _ (IsHeld held entry.bid BID_LIMIT (bid_of grid)) P
        (held-yield held entry.bid BID_LIMIT (bid_of grid)) (λ curve is_held.
        then-yields held (words_errand (Some all) entry.source (words_kept grid.prices))
        (λ words next. if nat_lt (length (accepted words)) (words_wanted grid)
        then refuses TooFewWords (too_few_text None number (length (accepted words)) (words_wanted grid))
        else next (record { bidder = record { known = entry.known; curve = curve }; words = words }))
        (λ words. words ≡ cut all) P
        (gives-yield held (λ words. words ≡ cut all) (cut all) refl) (λ words is.
        let farmer : BidderWithWords = record { bidder = record { known = entry.known; curve = curve }; words = words } in
        let curves =
        same-value files held entry.bid entry.bid BID_LIMIT (bid_of grid) curve bidder.curve same is_held bid in
        let lists = is ∙ ap cut one in
        passes-yield held (nat_lt (length (accepted words)) (words_wanted grid))
        TooFewWords (too_few_text None number (length (accepted words)) (words_wanted grid)) (gives farmer) P (λ enough.
        gives-yield held P farmer
        (λ i. record { bidder = record { known = sym known i; curve = curves i }; words = lists i }))))

  -- all bidders, with the lists of the bundle behind those that are read
  farmers-held : (before rest : List (List ℕ)) (read : List BidderWithWords) → length read ≡ length before →
      (entries : List Entry)
      (bidders : List Bidder) → AreBids files grid entries bidders → length rest ≡ length bidders → All IsSame entries →
      Yields held (farmers_errand (wanted_of None grid) grid (Some (before ++ rest)) read entries)
      (λ farmers. farmers ≡ read ++ farmers_of bidders (map cut rest))
  farmers-held before rest read e [] [] bids n all =
      gives-yield held (λ farmers. farmers ≡ read ++ []) read (sym (append-nil read))
  farmers-held before rest read e [] (bidder ∷ bidders) bids n all = absurd bids
  farmers-held before rest read e (entry ∷ entries) [] bids n all = absurd bids
  farmers-held before [] read e (entry ∷ entries) (bidder ∷ bidders) bids n all = absurd (omega (arith, n))
  farmers-held before (own ∷ rest) read e (entry ∷ entries) (bidder ∷ bidders) bids n all =
      let lists = before ++ own ∷ rest in
      let farmer = the_farmer entry bidder bids.0 bids.1 (All-head IsSame entry entries all) own in
      let others = farmers_of bidders (map cut rest) in
      let P : List BidderWithWords → Type 0 = λ farmers. farmers ≡ read ++ farmer ∷ others in
      let Q : List BidderWithWords → Type 0 = λ farmers. farmers ≡ (read ++ farmer ∷ []) ++ others in
      let wanted = wanted_of None grid in
      let long : length (read ++ farmer ∷ []) ≡ length (before ++ own ∷ []) =
      omega (arith, length-append read (farmer ∷ []), length-append before (own ∷ []), e) in
      let later : Yields held (farmers_errand wanted grid (Some lists) (read ++ farmer ∷ []) entries) Q =
      subst
      (λ (all : List (List ℕ)). Yields held (farmers_errand wanted grid (Some all) (read ++ farmer ∷ []) entries) Q)
      (append_assoc before (own ∷ []) rest)
      (farmers-held (before ++ own ∷ []) rest (read ++ farmer ∷ []) long entries bidders bids.2 (omega (arith, n))
      (All-tail IsSame entry entries all)) in
      let after : Yields held (farmers_errand wanted grid (Some lists) (read ++ farmer ∷ []) entries) P =
      weaker-yield held (farmers_errand wanted grid (Some lists) (read ++ farmer ∷ []) entries) Q P
      (λ farmers q. q ∙ append_assoc read (farmer ∷ []) others) later in
      then-yields held (farmer_errand wanted grid (list_at (Some lists) (length read)) (length read + 1) entry)
      (λ f. farmers_errand wanted grid (Some lists) (read ++ f ∷ []) entries) (λ f. f ≡ farmer) P
      (farmer-held entry bidder bids.0 bids.1 (All-head IsSame entry entries all) own
      (list_at (Some lists) (length read))
      (length read + 1) (behind before own rest (length read) e)) (λ f is.
      subst
      (λ (f : BidderWithWords). Yields held (farmers_errand wanted grid (Some lists) (read ++ f ∷ []) entries) P) (sym is) after)

  -- ---- the words of the bundle

  abbrev all_of : Words → AllWords
  all_of words = record { servers = cut_servers (counts_of grid) words; bidders = Some words.bidders }

  abbrev counted_words : List ℕ → Reading Words
  counted_words bytes = counted (Some (length entries)) (bundle_of bytes)

  is-bundle : (other : Words) → IsHeld held h.words LONGEST_FILE counted_words other → other ≡ words
  is-bundle other is_held =
      let some : Some is_held.bytes ≡ Some (bundle_bytes words) = sym is_held.held ∙ h.bundle_file in
      let bytes : is_held.bytes ≡ bundle_bytes words = cc in
      let reads : bundle_of is_held.bytes ≡ Ok words = ap bundle_of bytes ∙ read_back in
      chosen (length words.bidders == length entries) words other
      (sym (ap (λ (r : Reading Words). counted (Some (length entries)) r) reads) ∙ is_held.is)

  words-held : Yields held (all_words_errand (wanted_of None grid) (Some (length entries)) (Bundle h.words))
      (λ all. all ≡ all_of words)
  words-held =
      let Q : AllWords → Type 0 = λ all. all ≡ all_of words in
      let step = reads h.words LONGEST_FILE counted_words in
      then-yields held step
      (λ words next. enough_of_all (wanted_of None grid) (cut_servers (counts_of grid) words) (next (all_of words)))
      (λ other. other ≡ words) Q
      (weaker-yield held step (IsHeld held h.words LONGEST_FILE counted_words) (λ other. other ≡ words) is-bundle
      (held-yield held h.words LONGEST_FILE counted_words)) (λ other is.
      servers-yield held (wanted_of None grid) (cut_servers (counts_of grid) other) (gives (all_of other)) Q (λ one two three.
      gives-yield held Q (all_of other) (ap all_of is)))

  -- ---- the whole

  abbrev pub IsSecond : AuctionWithBidders → Type 0
  IsSecond loaded = loaded ≡ loaded_with second (cut_words grid words)

  abbrev setting : Setting
  setting = record { grid = grid; sources = Bundle h.words; entries = entries }

  rest-held : Yields held (limited_rest None 0 list setting) IsSecond
  unfolding rest_errand
  rest-held =
      passes-yield {A = AuctionWithBidders} held (nat_lt MOST_PRODUCT (0 + length entries * grid.prices)) BadFile
      (fault_line_of list over_product.place over_product.reason) _ IsSecond (λ within.
      then-yields held (all_words_errand (wanted_of None grid) (Some (length entries)) (Bundle h.words))
      (λ all next. farmers_errand (wanted_of None grid) grid all.bidders [] entries
      (λ farmers. next (record { grid = grid; servers = all.servers; farmers = farmers })))
      (λ all. all ≡ all_of words) IsSecond words-held (λ all is.
      subst (λ (all : AllWords). Yields {A = AuctionWithBidders} held
      (λ next. farmers_errand (wanted_of None grid) grid all.bidders [] entries
      (λ farmers. next (record { grid = grid; servers = all.servers; farmers = farmers }))) IsSecond) (sym is) (
      then-yields held (farmers_errand (wanted_of None grid) grid (Some words.bidders) [] entries)
      (λ farmers. gives (record { grid = grid; servers = cut_servers (counts_of grid) words; farmers = farmers }))
      (λ farmers. farmers ≡ farmers_of second.bidders (map cut words.bidders)) IsSecond
      (farmers-held [] words.bidders [] refl entries second.bidders book.bids count
      (h.bids book.book.bytes entries book.book.held book.book.is)) (λ farmers are.
      gives-yield held IsSecond
      (record { grid = grid; servers = cut_servers (counts_of grid) words; farmers = farmers })
      (ap
      (λ (l : List BidderWithWords). record { grid = grid; servers = cut_servers (counts_of grid) words; farmers = l }) are)))))

  -- where a recording of these files is done, it has read the second book with these words
  pub second-yield : Yields held (limited_errand name servers list) IsSecond
  unfolding limited_errand setting_errand
  second-yield =
      then-yields held (reads name AUCTION_LIMIT auction_of) _ (IsHeld held name AUCTION_LIMIT auction_of) IsSecond
      (held-yield held name AUCTION_LIMIT auction_of) (λ other_grid a.
      then-yields held (reads servers SERVERS_LIMIT servers_of) _
      (IsHeld held servers SERVERS_LIMIT servers_of) IsSecond
      (held-yield held servers SERVERS_LIMIT servers_of) (λ sources b.
      then-yields held (reads list BOOK_LIMIT book_of) _ (IsHeld held list BOOK_LIMIT book_of) IsSecond
      (held-yield held list BOOK_LIMIT book_of) (λ others c.
      let grids =
      same-value files held name auction AUCTION_LIMIT auction_of other_grid grid h.auction_file a grid_held in
      let bundles =
      same-value held held servers servers SERVERS_LIMIT servers_of sources (Bundle h.words) refl b h.sources in
      let lists = same-value files held list list2 BOOK_LIMIT book_of others entries h.book_file c book.book in
      let read : Setting = record { grid = other_grid; sources = sources; entries = others } in
      let is : read ≡ setting =
      λ i. record { grid = grids i; sources = bundles i; entries = lists i } in
      subst (λ (x : Setting). Yields held (limited_rest None 0 list x) IsSecond) (sym is) rest-held)))
