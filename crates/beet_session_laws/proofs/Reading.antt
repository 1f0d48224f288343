-- What the files of a session are read as: lots, each a book of accepted bids with words with which its auction can be
-- run.
use Rattle.std.proofs.Common.{◌≡◌, ◌≤◌, ◌+◌, ℕ, List, [], ◌∷◌, ◌++◌, length, map, Some, refl, ap, arith, length-append, suc}
use Rattle.std.specs.Prelude.{All}
use Rattle.std.proofs.lemmas.List.Elements.{All-append, All-cons, All-head, All-nil, All-tail}
use Rattle.beet_store.specs.Files.{File}
use Rattle.beet_bids.specs.AuctionFiles.{auction_of}
use Rattle.beet_bids.specs.declared.auction_file.TheConstants.{AUCTION_LIMIT}
use Rattle.beet_book.specs.BookFiles.{book_of}
use Rattle.beet_book.specs.declared.book_file.TheConstants.{BOOK_LIMIT}
use Rattle.beet_book.specs.declared.sources.Servers.{Servers}
use Rattle.beet_words.specs.declared.bundle.TheConstants.{MOST_BIDDERS}
use Rattle.beet_errand.specs.Errands.{Step, reads}
use Rattle.beet_load.specs.Loading.{AuctionWithBidders, rest_errand}
use Rattle.beet_lot_files.specs.declared.session_file.LotRow.{LotRow}
use Rattle.beet_lot_load.specs.Lots.{each_row, lot_errand, lots_errand, next_lot}
use Rattle.beet_program_laws.proofs.Files.{book-few}
use Rattle.beet_program_laws.proofs.Jobs.{book_in, runs-in, words_in}
use Rattle.beet_program_laws.proofs.Read.{IsLoaded, back, rest-yield}
use Rattle.beet_program_laws.proofs.Steps.{Yields, any-yield, gives-yield, reads-yield, then-yields, weaker-yield}
use Rattle.beet_session_laws.specs.Lots.{Lot, loaded_lot}

-- ---- lots that are read

abbrev pub lot-of : (loaded : AuctionWithBidders) → IsLoaded loaded → Lot
lot-of loaded h = record { book = book_in loaded h; words = words_in loaded h; run = runs-in loaded h }

abbrev pub lots-of : (all : List AuctionWithBidders) → All IsLoaded all → List Lot
lots-of [] h = []
lots-of (loaded ∷ all) h =
    lot-of loaded (All-head IsLoaded loaded all h) ∷ lots-of all (All-tail IsLoaded loaded all h)

pub lots-many : (all : List AuctionWithBidders) (h : All IsLoaded all) → length (lots-of all h) ≡ length all
lots-many [] h = refl
lots-many (loaded ∷ all) h = ap suc (lots-many all (All-tail IsLoaded loaded all h))

-- they are read as they are kept
pub lots-back : (all : List AuctionWithBidders) (h : All IsLoaded all) → map loaded_lot (lots-of all h) ≡ all
lots-back [] h = refl
lots-back (loaded ∷ all) h =
    let rest = lots-back all (All-tail IsLoaded loaded all h) in
    λ i. back loaded.grid loaded.servers loaded.farmers i ∷ rest i

-- ---- reading

-- values for so many rows, each of which has P
pub record AreAll {A : Type 0} (P : A → Type 0) (count : ℕ) (values : List A) : Type 0 where
  pub each : All P values
  pub many : length values ≡ count

-- a step for each row in order yields such values, where it does for one row
module _ {A : Type 0} (files : List File) (step : List A → LotRow → Step A) (P : A → Type 0)
    (one : (read : List A) (row : LotRow) → Yields files (step read row) P) where
  more-yield : (read : List A) → All P read → (rows : List LotRow) →
      Yields files (each_row step read rows) (AreAll P (length read + length rows))
  more-yield read are [] =
      gives-yield files (AreAll P (length read + 0)) read (record { each = are; many = omega arith })
  more-yield read are (row ∷ rows) =
      then-yields files (step read row) (λ value. each_row step (read ++ value ∷ []) rows) P
      (AreAll P (length read + length (row ∷ rows))) (one read row) (λ value is.
      let all = All-append P read (value ∷ []) are (All-cons P value [] is (All-nil P)) in
      let long : length (read ++ value ∷ []) ≡ length read + 1 = length-append read (value ∷ []) in
      weaker-yield files (each_row step (read ++ value ∷ []) rows)
      (AreAll P (length (read ++ value ∷ []) + length rows)) (AreAll P (length read + length (row ∷ rows)))
      (λ values h. record { each = h.each; many = omega (arith, h.many, long) })
      (more-yield (read ++ value ∷ []) all rows))

  pub each-yield : (rows : List LotRow) → Yields files (each_row step [] rows) (AreAll P (length rows))
  each-yield rows =
      weaker-yield files (each_row step [] rows) (AreAll P (0 + length rows)) (AreAll P (length rows))
      (λ values h. record { each = h.each; many = omega (arith, h.many) })
      (more-yield [] (All-nil P) rows)

module _ (files : List File) (sources : Servers) where
  lot-yield : (lot : ℕ) (row : LotRow) → Yields files (lot_errand sources lot row) IsLoaded
  unfolding rest_errand
  lot-yield lot row =
      then-yields files (reads row.auction AUCTION_LIMIT auction_of) _ (λ grid. Unit {0}) IsLoaded
      (any-yield files row.auction AUCTION_LIMIT auction_of) (λ grid any.
      then-yields files (reads row.book BOOK_LIMIT book_of) _ (λ entries. length entries ≤ MOST_BIDDERS) IsLoaded
      (reads-yield files row.book BOOK_LIMIT book_of (λ entries. length entries ≤ MOST_BIDDERS)
      (λ bytes entries e. book-few bytes entries e)) (λ entries few.
      rest-yield files (Some lot) grid sources entries few))

  pub lots-yield : (rows : List LotRow) → Yields files (lots_errand sources rows) (AreAll IsLoaded (length rows))
  lots-yield rows = each-yield files (next_lot sources) IsLoaded (λ read row. lot-yield (length read) row) rows
