-- Bidders that are read, each of which is dealt before the next.
use Rattle.std.proofs.Common.{◌≡◌, ◌≤◌, ◌<◌, ℕ, ◌+◌, List, [], ◌∷◌, ◌++◌, length, drop, get_or, All, None, Ok, Err, refl}
use Rattle.std.proofs.lemmas.List.Elements.{All-append, All-nil, All-cons}
use Rattle.beet_store.specs.Files.{Seen}
use Rattle.beet_words.specs.Words.{IsWord}
use Rattle.beet_bids.specs.Grids.{Grid}
use Rattle.beet_book.specs.Farmers.{BidderWithWords}
use Rattle.beet_book.specs.declared.entries.Entry.{Entry}
use Rattle.beet_errand.specs.Fetches.{Reads, ReadsFor}
use Rattle.beet_errand.specs.declared.answer.Stop.{Stop}
use Rattle.beet_errand.proofs.Frame.{shown}
use Rattle.beet_five_dealing.specs.FiveTotals.{DealsOne, FiveTotals, HasDealtFive}
use Rattle.beet_load.specs.Farmers.{farmer_errand, farmers_errand}
use Rattle.beet_load.specs.Wholes.{IsFarmer}
use Rattle.beet_load.proofs.KeptFarmers.{KeepsBidders, keeps_all, keeps_at, keeps_none, keeps_stopped_at}
use Rattle.beet_five_load.specs.FiveDealing.{AreDealt}
use Rattle.beet_five_load.specs.FiveWants.{counts_of_five, wanted_of_five}

-- some bidders are read and dealt, and those of the other entries are left
pub record DealsFarmers (grid : Grid) (entries rest : List Entry) (old now : Seen) (totals : FiveTotals) : Type 0 where
  pub farmers : List BidderWithWords
  pub keeps : KeepsBidders (wanted_of_five grid) grid None entries rest old now farmers
  pub words : All (λ farmer. All IsWord farmer.words) farmers
  pub dealt : HasDealtFive grid farmers totals

-- no bidder is read yet
pub deals-none : (grid : Grid) (entries : List Entry) (seen : Seen) (totals : FiveTotals) → HasDealtFive grid [] totals →
    DealsFarmers grid entries entries seen seen totals
deals-none grid entries seen totals h =
    record { farmers = []; keeps = keeps_none grid None entries seen; words = All-nil _; dealt = h }

module _ (grid : Grid) (entries : List Entry) (i : ℕ) (entry : Entry) (old middle now : Seen) (before : FiveTotals)
    (lt : i < length entries) (e : entry ≡ get_or entries i entry)
    (h : DealsFarmers grid entries (drop i entries) old middle before) where
  -- the bidder at a place is read and dealt
  pub deals-more : {T : Type 0} (view : T → BidderWithWords) (value : T) (after : FiveTotals) →
      IsFarmer (counts_of_five grid) grid (view value) → All IsWord (view value).words →
      DealsOne (view value).bidder.curve (view value).words before after →
      Reads view middle now (farmer_errand (wanted_of_five grid) grid None (i + 1) entry) (Ok value) →
      DealsFarmers grid entries (drop (i + 1) entries) old now after
  deals-more view value after is words deals r =
      let more = h.farmers ++ view value ∷ [] in
      let P = λ (farmer : BidderWithWords). All IsWord farmer.words in
      record {
        farmers = more;
        keeps = keeps_at grid None entries i entry None old middle now h.farmers lt e refl h.keeps more
            (shown r (record { is_farmer = is; kept = refl }));
        words = All-append P h.farmers (view value ∷ []) h.words (All-cons P (view value) [] words (All-nil P));
        dealt = deals.dealt grid h.farmers (view value).bidder refl h.dealt;
      }

  -- that bidder stops the job
  pub deals-stopped : {T U : Type 0} {shows : T → BidderWithWords → Type 0} {last : U → List BidderWithWords → Type 0} (stop : Stop) →
      ReadsFor shows middle now (farmer_errand (wanted_of_five grid) grid None (i + 1) entry) (Err stop) →
      ReadsFor last old now (farmers_errand (wanted_of_five grid) grid None [] entries) (Err stop)
  deals-stopped stop r = keeps_stopped_at grid None entries i entry None old middle now h.farmers lt e refl h.keeps stop r

-- all bidders are read and dealt
pub deals-all : (grid : Grid) (entries : List Entry) (i : ℕ) (old now : Seen) (totals : FiveTotals) → length entries ≤ i →
    DealsFarmers grid entries (drop i entries) old now totals →
    ReadsFor (AreDealt grid entries) old now (farmers_errand (wanted_of_five grid) grid None [] entries) (Ok totals)
deals-all grid entries i old now totals ge h =
    let k = keeps_all i ge h.keeps in
    let (farmers, are, went) = k.gives in
    record {
      gives = (
        farmers,
        rw are.same (record {
          many = are.count;
          each = λ k d lt. record { is_farmer = are.each k d lt; words = h.words k d lt };
          dealt = h.dealt;
        }),
        went,
      );
      cause = k.cause;
      later = k.later;
    }
