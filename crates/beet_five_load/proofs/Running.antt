-- An auction that is read can be run among five servers.
use Rattle.std.proofs.Common.{◌≡◌, ◌≤◌, ℕ, ◌*◌, List, [], ◌∷◌, length, map, All, refl, sym, ap, ◌∙◌}
use Rattle.std.proofs.lemmas.List.{length-map}
use Rattle.std.proofs.lemmas.List.Elements.{All-map}
use Rattle.beet_words.specs.Words.{IsWord, accepted}
use Rattle.beet_words.specs.declared.bundle.TheConstants.{MOST_BIDDERS}
use Rattle.beet_bids.specs.Books.{Book, IsBook}
use Rattle.beet_bids.specs.Curves.{IsCurve, IsOfGrid}
use Rattle.beet_bids.specs.Grids.{Grid}
use Rattle.beet_bids.specs.declared.book.Bidder.{Bidder}
use Rattle.beet_book.specs.Farmers.{BidderWithWords, book_with, farmers_of}
use Rattle.beet_five_dealing.specs.FiveWords.{CanRun}
use Rattle.beet_load.specs.Counts.{Counts}
use Rattle.beet_load.specs.Wholes.{IsFarmer}
use Rattle.beet_five_load.specs.FiveLoading.{FiveRead, read_with, words_with}
use Rattle.beet_five_load.specs.FiveServers.{CanServeAll, ServerLists}
use Rattle.beet_five_load.specs.FiveWants.{counts_of_five}
use Rattle.beet_five_load.proofs.Serving.{are-word-lists}

-- bidders that are read make a book
pub makes-book : (counts : Counts) (grid : Grid) (farmers : List BidderWithWords) → All (IsFarmer counts grid) farmers →
    length farmers ≤ MOST_BIDDERS → IsBook (book_with grid farmers)
makes-book counts grid farmers each few = record {
  few = rw (length-map farmers (λ farmer. farmer.bidder)) few;
  curves = All-map (λ (bidder : Bidder). IsCurve bidder.curve) (λ farmer. farmer.bidder) farmers (λ k d lt. (each k d lt).curve);
  of_grid = All-map (λ (bidder : Bidder). IsOfGrid grid bidder.curve) (λ farmer. farmer.bidder) farmers (λ k d lt. (each k d lt).of_grid);
}

-- their auction can be run with the words of servers that can serve
pub can-run : (grid : Grid) (lists : ServerLists) (farmers : List BidderWithWords) → CanServeAll grid lists →
    All (IsFarmer (counts_of_five grid) grid) farmers → All (All IsWord) (map (λ farmer. farmer.words) farmers) →
    CanRun (book_with grid farmers) (words_with lists farmers)
can-run grid lists farmers s each words = record {
  are_words = record {
    masks = s.masks;
    coefficients = s.coefficients;
    bidders = are-word-lists _ words;
  };
  masks = s.dealing;
  coefficients = s.drawing;
  count = length-map farmers (λ farmer. farmer.words) ∙ sym (length-map farmers (λ farmer. farmer.bidder));
  bidders = λ k lt. All-map (λ (list : List ℕ). 2 * (2 * grid.prices) ≤ length (accepted list)) (λ farmer. farmer.words) farmers
      (λ k d lt. (each k d lt).words.enough) k [] lt;
}

-- bidders with their words, from both lists
pub farmers-again : (farmers : List BidderWithWords) →
    farmers_of (map (λ farmer. farmer.bidder) farmers) (map (λ farmer. farmer.words) farmers) ≡ farmers
farmers-again [] = refl
farmers-again (farmer ∷ farmers) = ap (λ fs. farmer ∷ fs) (farmers-again farmers)

-- what is kept of an auction that is read whole
module _ (grid : Grid) (servers kept : ServerLists) (farmers : List BidderWithWords) (book : Book) (bidders : List Bidder)
    (lists : List (List ℕ)) (made : book ≡ record { grid = grid; bidders = bidders })
    (is : bidders ≡ map (λ farmer. farmer.bidder) farmers) (these : lists ≡ map (λ farmer. farmer.words) farmers)
    (same : kept ≡ servers) where
  -- can be run
  pub whole-runs : CanServeAll grid servers → All (IsFarmer (counts_of_five grid) grid) farmers → All (All IsWord) lists →
      CanRun book (record { masks = kept.masks; coefficients = kept.coefficients; bidders = lists })
  whole-runs s each words = rw (made, is, these, same) (can-run grid servers farmers s each (rw these at words))

  -- and is what is read
  pub whole-read : record { book = book; words = record { masks = kept.masks; coefficients = kept.coefficients; bidders = lists } }
      ≡ read_with grid servers farmers
  whole-read = rw (made, is, these, same) refl

  -- with as many bidders
  pub whole-many : length book.bidders ≡ length farmers
  whole-many = rw (made, is) (length-map farmers (λ farmer. farmer.bidder))

  pub whole-grid : book.grid ≡ grid
  whole-grid = rw made refl

-- what is read, by what is handed on of it
pub read-same : (grid : Grid) (taken kept lists : ServerLists) (farmers these : List BidderWithWords) (read : FiveRead) →
    read ≡ read_with grid taken farmers → taken ≡ kept → kept ≡ lists → these ≡ farmers → read_with grid lists these ≡ read
read-same grid taken kept lists farmers these read r t k f = rw (r, t, k, f) refl
