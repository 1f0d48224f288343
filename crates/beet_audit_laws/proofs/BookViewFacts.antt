-- The views of the auction of a book hold words, and keep the curves of the bidders whose marks name their servers.
use Rattle.std.proofs.Common.{◌≡◌, ◌<◌, ℕ, List, [], map, length, get_or, None, All, arith, sym, subst}
use Rattle.std.specs.Prelude.{IfSome}
use Rattle.std.proofs.lemmas.List.{get_or-map, length-map}
use Rattle.beet_field.proofs.Trios.{at-each}
use Rattle.beet_field.specs.Trio.{member, trio_of}
use Rattle.beet_field.specs.declared.point.Point.{Point}
use Rattle.beet_words.specs.Bundles.{Words, AreWords}
use Rattle.beet_words.specs.Words.{IsWord}
use Rattle.beet_bids.specs.Books.{Book, IsBook}
use Rattle.beet_bids.specs.Curves.{IsOfGrid}
use Rattle.beet_book.specs.Farmers.{BidderWithWords, farmers_of}
use Rattle.beet_masking.proofs.Words.{word-small}
use Rattle.beet_book.proofs.FarmerLists.{farmers-words}
use Rattle.beet_sharing.proofs.Lined.{member-trio}
use Rattle.beet_load.specs.Wholes.{CanStart}
use Rattle.beet_view.specs.BookViews.{names, seen_at, view_for}
use Rattle.beet_view.specs.declared.view.Seen.{Seen}
use Rattle.beet_transcripts.proofs.FittingViews.{own-kept}
use Rattle.beet_transcripts.proofs.BookRuns.{seen-all}
use Rattle.beet_audit.specs.Audits.{bidder_at}
use Rattle.beet_audit_laws.proofs.KeptWords.{IsKeptAt}
use Rattle.beet_audit_laws.proofs.ThirdFacts.{IsSound, kept-from}

module _ (book : Book) (words : Words) (b : IsBook book) (can : CanStart book words) (are : AreWords words) where
  abbrev farmers : List BidderWithWords
  farmers = farmers_of book.bidders words.bidders

  -- the words of each bidder
  farmer-words : (n : ℕ) (d : BidderWithWords) → n < length farmers → All IsWord (get_or farmers n d).words
  farmer-words n d lt =
      let list = λ (f : BidderWithWords). f.words in
      let all : All (All IsWord) (map list farmers) =
      subst (All (All IsWord)) (farmers-words book.bidders words.bidders can.lists) are.bidders in
      subst (All IsWord) (get_or-map list farmers n d d.words lt) (all n d.words (omega (arith, length-map farmers list, lt)))

  -- what is kept of each bidder
  kept-at : (s : Point) (n : ℕ) → n < length (view_for book words s).bidders →
      IsKeptAt s (bidder_at (view_for book words s) n).known (bidder_at (view_for book words s) n).own
  kept-at s n lt =
      let nobody : Seen = record { known = None; points = []; own = None } in
      let none : BidderWithWords = record { bidder = record { known = None; curve = record { buy = []; sell = [] } }; words = [] } in
      let lt' : n < length farmers = omega (arith, length-map farmers (seen_at book.grid s), lt) in
      let farmer = get_or farmers n none in
      let is : bidder_at (view_for book words s) n ≡ seen_at book.grid s farmer =
      get_or-map (seen_at book.grid s) farmers n none nobody lt' in
      kept-from s (bidder_at (view_for book words s) n).known (bidder_at (view_for book words s) n).own (λ own. IsOfGrid book.grid own.0)
      (seen-all book words b can s n nobody lt).own
      (subst (λ (seen : Seen). IfSome seen.own (λ own. All IsWord own.1)) (sym is)
      (own-kept (λ own. All IsWord own.1) (names farmer.bidder.known s) (farmer.bidder.curve, farmer.words) (farmer-words n none lt')))

  pub sound-for : (s : Point) → IsSound (member (trio_of (view_for book words)) s)
  sound-for s =
      subst IsSound (sym (member-trio (view_for book words) s))
      (record {
        masks = word-small (member words.masks s) (at-each (All IsWord) words.masks are.masks s);
        coefficients = word-small (member words.coefficients s) (at-each (All IsWord) words.coefficients are.coefficients s);
        kept = kept-at s;
      })
