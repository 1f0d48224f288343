-- Bidders that are read and kept.
use Rattle.std.proofs.Common.{◌≡◌, ◌≤◌, ◌<◌, ℕ, ◌+◌, List, [], ◌∷◌, ◌++◌, map, length, drop, get_or, Option, All, Ok}
use Rattle.std.proofs.Common.{Err, arith, refl, sym, ap, ◌∙◌, subst, length-append, length-drop}
use Rattle.std.proofs.lemmas.List.{length-map}
use Rattle.std.proofs.lemmas.List.Elements.{All-append, All-map, All-nil, All-cons}
use Rattle.beet_field.specs.declared.trio.Trio.{Trio}
use Rattle.beet_store.specs.Files.{Seen}
use Rattle.beet_words.specs.Bundles.{Words}
use Rattle.beet_bids.specs.Books.{Book}
use Rattle.beet_bids.specs.Curves.{Curve, IsOfGrid}
use Rattle.beet_bids.specs.BidFiles.{bid_of}
use Rattle.beet_bids.specs.Grids.{Grid}
use Rattle.beet_bids.specs.declared.book.Bidder.{Bidder}
use Rattle.beet_book.specs.declared.entries.Entry.{Entry}
use Rattle.beet_book.specs.Farmers.{BidderWithWords, farmers_of}
use Rattle.beet_errand.specs.Errands.{reads}
use Rattle.beet_errand.specs.Fetches.{ReadsFor, Reads}
use Rattle.beet_errand.specs.declared.answer.Stop.{Stop}
use Rattle.beet_errand.proofs.Frame.{Reached, reached_none, reached_more, reached_last, stopped}
use Rattle.beet_load.specs.declared.wanted.Wanted.{Wanted}
use Rattle.beet_load.specs.Farmers.{list_at, farmer_errand, farmers_errand}
use Rattle.beet_load.specs.Counts.{Counts, counts_of}
use Rattle.beet_load.specs.Loading.{AuctionWithBidders}
use Rattle.beet_load.specs.Servers.{ServerWords, HaveEnough, AreCut}
use Rattle.beet_load.specs.Wholes.{AreKept, CanDeal, CanStart, IsFarmer, all_words, bids_errand, by_server}
use Rattle.beet_load.proofs.Summing.{next_entry, none_left}
use Rattle.beet_bids.specs.declared.bid_file.TheConstants.{BID_LIMIT}

-- these bidders are read and kept, and the others of the entries are left
pub record KeepsBidders (wanted : Wanted) (grid : Grid) (lists : Option (List (List ℕ))) (entries rest : List Entry)
    (old now : Seen) (farmers : List BidderWithWords) : Type 0 where
  pub read : Reached old now (farmers_errand wanted grid lists [] entries)
      (farmers_errand wanted grid lists farmers rest)
  pub count : length farmers + length rest ≡ length entries
  pub each : All (IsFarmer wanted.counts grid) farmers

-- one bidder is kept after the others
pub record KeepsFarmer (counts : Counts) (grid : Grid) (before after : List BidderWithWords)
    (farmer : BidderWithWords) : Type 0 where
  pub is_farmer : IsFarmer counts grid farmer
  pub kept : after ≡ before ++ farmer ∷ []

-- no bidder is read yet
pub keeps_none : {wanted : Wanted} (grid : Grid) (lists : Option (List (List ℕ))) (entries : List Entry) (seen : Seen) →
    KeepsBidders wanted grid lists entries entries seen seen []
keeps_none grid lists entries seen = record { read = reached_none; count = omega arith; each = All-nil _ }

module _ {wanted : Wanted} (grid : Grid) (lists : Option (List (List ℕ))) (entries : List Entry) (i : ℕ) (entry : Entry)
    (given : Option (List ℕ)) (old middle now : Seen)
    (before : List BidderWithWords) (lt : i < length entries) (e : entry ≡ get_or entries i entry) (same : given ≡ list_at lists i)
    (h : KeepsBidders wanted grid lists entries (drop i entries) old middle before) where
  here : KeepsBidders wanted grid lists entries (entry ∷ drop (i + 1) entries) old middle before
  here = rw (next_entry entries i entry lt e) at h

  many : length before ≡ i
  many = let c = h.count in omega (arith, c, length-drop i entries, lt)

  -- the bidder at a place is read and kept
  pub keeps_at : (after : List BidderWithWords) →
      ReadsFor (λ (done : Unit {0}) farmer. KeepsFarmer wanted.counts grid before after farmer) middle now
      (farmer_errand wanted grid given (i + 1) entry) (Ok tt) →
      KeepsBidders wanted grid lists entries (drop (i + 1) entries) old now after
  unfolding here many
  keeps_at after r =
      let r' = rw (sym many) at (rw same at r) in
      let k = r'.gives.1 in
      let farmer = r'.gives.0 in
      let long : length after ≡ length before + 1 = ap length k.kept ∙ length-append before (farmer ∷ []) in
      record {
        read = rw k.kept (reached_more (λ f. farmers_errand wanted grid lists (before ++ f ∷ []) (drop (i + 1) entries)) here.read r');
        count = let c = here.count in omega (arith, long, c);
        each = let P = IsFarmer wanted.counts grid in
            rw k.kept (All-append P before (farmer ∷ []) here.each (All-cons P farmer [] k.is_farmer (All-nil P)));
      }

  -- the bidder at a place stops the job
  pub keeps_stopped_at : {T U : Type 0} {shows : T → BidderWithWords → Type 0} {last : U → List BidderWithWords → Type 0} (stop : Stop) →
      ReadsFor shows middle now (farmer_errand wanted grid given (i + 1) entry) (Err stop) →
      ReadsFor last old now (farmers_errand wanted grid lists [] entries) (Err stop)
  unfolding here many
  keeps_stopped_at stop r =
      reached_last here.read (stopped {
      rest = λ f. farmers_errand wanted grid lists (before ++ f ∷ []) (drop (i + 1) entries)} (rw (sym many) at (rw same at r)))

-- all bidders are read
pub keeps_all : {wanted : Wanted} {grid : Grid} {
    lists : Option (List (List ℕ))} {entries : List Entry} {old now : Seen} {kept : List BidderWithWords} (i : ℕ) → length entries ≤ i →
    KeepsBidders wanted grid lists entries (drop i entries) old now kept →
    ReadsFor (AreKept wanted.counts grid entries) old now (farmers_errand wanted grid lists [] entries) (Ok kept)
keeps_all {entries = entries} {kept = kept} i ge k =
    let h = rw (none_left entries i ge) at k in
    let c = h.count in
    record {
      gives = (kept, record { same = refl; count = omega arith; each = h.each }, h.read.went);
      cause = h.read.kept;
      later = omega (arith, h.read.kept);
    }

-- the book of bidders that are kept, and their words
module _ (grid : Grid) (kept : List BidderWithWords) (each : All (IsFarmer (counts_of grid) grid) kept) (bidders : List Bidder)
    (is : bidders ≡ map (λ farmer. farmer.bidder) kept) where
  pub kept-many : length bidders ≡ length kept
  kept-many = ap length is ∙ length-map kept (λ farmer. farmer.bidder)

  pub kept-of-grid : All (λ bidder. IsOfGrid grid bidder.curve) bidders
  kept-of-grid =
      subst (All (λ bidder. IsOfGrid grid bidder.curve)) (sym is)
      (All-map (λ bidder. IsOfGrid grid bidder.curve) (λ farmer. farmer.bidder) kept (λ i d lt. (each i d lt).of_grid))

  pub kept-runs : (servers : Trio ServerWords) (all : List (List ℕ)) (book : Book) (made : Words) →
      all ≡ map (λ farmer. farmer.words) kept →
      book ≡ record { grid = grid; bidders = bidders } → made ≡ all_words servers all →
      HaveEnough (counts_of grid) servers → AreCut (counts_of grid) servers → CanStart book made
  kept-runs servers all book made these b m enough cut =
      let many : length all ≡ length bidders = ap length these ∙ length-map kept (λ farmer. farmer.words) ∙ sym kept-many in
      let P = CanDeal (counts_of grid) in
      let deal : All P all = subst (All P) (sym these) (All-map P (λ farmer. farmer.words) kept (λ i d lt. (each i d lt).words)) in
      rw (b, m) (record { servers = enough; cut = cut; lists = many; bidders = deal })

-- what is loaded, by what is kept of it
pub kept-same : (grid : Grid) (servers : Trio ServerWords) (kept : List BidderWithWords) (bidders : List Bidder)
    (all : List (List ℕ)) (book : Book) (made : Words) →
    farmers_of bidders all ≡ kept → book ≡ record { grid = grid; bidders = bidders } → made ≡ all_words servers all →
    (loaded : AuctionWithBidders) →
    loaded ≡ record { grid = book.grid; servers = by_server made; farmers = farmers_of book.bidders made.bidders } →
    loaded ≡ record { grid = grid; servers = servers; farmers = kept }
kept-same grid servers kept bidders all book made f b m loaded l = l ∙ rw (b, m, f) refl

-- the bidders of the first entries are read without their words, and kept
pub record KeepsBids (grid : Grid) (entries rest : List Entry) (old now : Seen) (bidders : List Bidder) : Type 0 where
  pub read : Reached old now (bids_errand grid [] entries) (bids_errand grid bidders rest)
  pub count : length bidders + length rest ≡ length entries
  pub of_grid : All (λ bidder. IsOfGrid grid bidder.curve) bidders

-- no bid is read yet
pub bids_none : (grid : Grid) (entries : List Entry) (seen : Seen) → KeepsBids grid entries entries seen seen []
bids_none grid entries seen = record { read = reached_none; count = omega arith; of_grid = All-nil _ }

module _ (grid : Grid) (entries : List Entry) (i : ℕ) (entry : Entry) (old middle now : Seen) (before : List Bidder)
    (lt : i < length entries)
    (e : entry ≡ get_or entries i entry) (h : KeepsBids grid entries (drop i entries) old middle before) where
  bids_here : KeepsBids grid entries (entry ∷ drop (i + 1) entries) old middle before
  bids_here = rw (next_entry entries i entry lt e) at h

  -- the bid of the entry at a place is read and kept
  pub bids_at : (curve : Curve) (after : List Bidder) → IsOfGrid grid curve →
      Reads (λ (curve : Curve). curve) middle now (reads entry.bid BID_LIMIT (bid_of grid)) (Ok curve) →
      after ≡ before ++ record { known = entry.known; curve = curve } ∷ [] → KeepsBids grid entries (drop (i + 1) entries) old now after
  unfolding bids_here
  bids_at curve after of_grid r kept =
      let bidder : Bidder = record { known = entry.known; curve = curve } in
      let long : length after ≡ length before + 1 = ap length kept ∙ length-append before (bidder ∷ []) in
      record {
        read = rw kept (subst (λ (c : Curve). Reached old now (bids_errand grid [] entries)
            (bids_errand grid (before ++ record { known = entry.known; curve = c } ∷ []) (drop (i + 1) entries)))
            r.gives.1 (reached_more _ bids_here.read r));
        count = let c = bids_here.count in omega (arith, long, c);
        of_grid = let P = λ (b : Bidder). IsOfGrid grid b.curve in
            rw kept (All-append P before (bidder ∷ []) bids_here.of_grid (All-cons P bidder [] of_grid (All-nil P)));
      }

  -- that bid stops the job
  pub bids_stopped_at : {T U : Type 0} {shows : T → Curve → Type 0} {last : U → List Bidder → Type 0} (stop : Stop) →
      ReadsFor shows middle now (reads entry.bid BID_LIMIT (bid_of grid)) (Err stop) →
      ReadsFor last old now (bids_errand grid [] entries) (Err stop)
  unfolding bids_here
  bids_stopped_at stop r = reached_last bids_here.read (stopped r)

-- all bids are read
pub bids_all : {grid : Grid} {entries : List Entry} {old now : Seen} {T : Type 0} {bidders : List Bidder} (i : ℕ)
    (view : T → List Bidder) (kept : T) →
    view kept ≡ bidders → length entries ≤ i → KeepsBids grid entries (drop i entries) old now bidders →
    Reads view old now (bids_errand grid [] entries) (Ok kept)
bids_all {entries = entries} i view kept e ge k =
    let h = rw (none_left entries i ge, sym e) at k in
    record { gives = (view kept, refl, h.read.went); cause = h.read.kept; later = omega (arith, h.read.kept) }
