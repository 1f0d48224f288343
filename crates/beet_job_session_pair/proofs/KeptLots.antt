-- The lots that are kept, one after another, and their books and words.
use Rattle.std.proofs.Common.{◌≡◌, ◌<◌, ◌≤◌, ◌+◌, ℕ, zero, suc, List, [], ◌∷◌, ◌++◌, map, length, get_or, refl, sym, ap}
use Rattle.std.proofs.Common.{subst, ◌∙◌, arith}
use Rattle.std.proofs.lemmas.List.{map-append}
use Rattle.std.proofs.lemmas.List.Sums.{sum_by_push}
use Rattle.beet_words.specs.Bundles.{Words}
use Rattle.beet_bids.specs.Books.{Book}
use Rattle.beet_book.proofs.FarmerLists.{book-whole, farmers-words}
use Rattle.beet_auction.specs.Endings.{book_finish, book_rounds}
use Rattle.beet_auction_map.specs.Enough.{AreEnough}
use Rattle.beet_load.specs.Counts.{coefficients_wanted, words_wanted}
use Rattle.beet_load.specs.Loading.{AuctionWithBidders}
use Rattle.beet_load.specs.Wholes.{CanStart}
use Rattle.beet_load.specs.WholeViews.{loaded_with}
use Rattle.beet_run.specs.Outcomes.{cleared, outcome_answer}
use Rattle.beet_lots.specs.declared.lots.TheConstants.{MOST_LOTS}
use Rattle.beet_lot_map.specs.LotMaps.{AreEnoughEach}
use Rattle.beet_job_session_pair.specs.Kept.{AreKept, KeepsLot, loaded_each}
use Rattle.beet_lot_files.specs.declared.session_file.LotRow.{LotRow}
use Rattle.beet_job_session_pair.specs.Reading.{Both, LimitedLot, book_of_lot, words_of_lot}
use Rattle.beet_job_session_pair.specs.Starting.{CanStartEach}
use Rattle.beet_job_session_pair.specs.declared.sessions.WholeLots.{WholeLots}
use Rattle.beet_trades.proofs.EnoughFacts.{has-accepted}

-- ---- one lot

-- words with which an auction can run are enough for it
pub start-enough : (book : Book) (words : Words) → CanStart book words → AreEnough book words
start-enough book words r =
    let wanted = coefficients_wanted book.grid in
    record {
      masks = (r.servers.one.masks, r.servers.two.masks, r.servers.three.masks);
      one = has-accepted wanted words.coefficients.one r.cut.one.coefficients r.servers.one.coefficients;
      two = has-accepted wanted words.coefficients.two r.cut.two.coefficients r.servers.two.coefficients;
      three = has-accepted wanted words.coefficients.three r.cut.three.coefficients r.servers.three.coefficients;
      count = r.lists;
      bidders = λ k d lt.
          let h = r.bidders k d lt in has-accepted (words_wanted book.grid) (get_or words.bidders k d) h.kept h.enough;
    }

-- the words that are kept of a lot are those that were read
words-whole : (book : Book) (words : Words) → CanStart book words → words_of_lot (loaded_with book words) ≡ words
words-whole book words r = λ i. record {
  masks = words.masks;
  coefficients = words.coefficients;
  bidders = sym (farmers-words book.bidders words.bidders r.lists) i;
}

-- the auction of a lot ends as that of its book
pub cleared-is : (book : Book) (words : Words) → CanStart book words →
    cleared (loaded_with book words) ≡ outcome_answer book.grid (book_finish book words.masks) (book_rounds book words.masks)
cleared-is book words r =
    ap (λ (b : Book). outcome_answer book.grid (book_finish b words.masks) (book_rounds b words.masks))
    (book-whole book words.bidders r.lists)

-- ---- all lots

pub start-more : (books : List Book) (words : List Words) (book : Book) (held : Words) → CanStartEach books words → CanStart book held →
    CanStartEach (books ++ book ∷ []) (words ++ held ∷ [])
start-more [] [] book held h one = (one, tt)
start-more [] (w ∷ words) book held h one = absurd h
start-more (b ∷ books) [] book held h one = absurd h
start-more (b ∷ books) (w ∷ words) book held h one = (h.0, start-more books words book held h.1 one)

pub start-many : (books : List Book) (words : List Words) → CanStartEach books words → length words ≡ length books
start-many [] [] h = refl
start-many [] (w ∷ words) h = absurd h
start-many (b ∷ books) [] h = absurd h
start-many (b ∷ books) (w ∷ words) h = ap suc (start-many books words h.1)

pub start-at : (books : List Book) (words : List Words) (k : ℕ) (book : Book) (held : Words) → CanStartEach books words →
    k < length books → book ≡ get_or books k book → held ≡ get_or words k held → CanStart book held
start-at [] words k book held h lt e f = absurd (omega (arith, lt))
start-at (b ∷ books) [] k book held h lt e f = absurd h
start-at (b ∷ books) (w ∷ words) zero book held h lt e f = rw (e, f) h.0
start-at (b ∷ books) (w ∷ words) (suc k) book held h lt e f = start-at books words k book held h.1 (omega (arith, lt)) e f

pub each-enough : (books : List Book) (words : List Words) → CanStartEach books words → AreEnoughEach books words
each-enough [] words h k book held e f = absurd cc
each-enough (b ∷ books) [] h k book held e f = absurd h
each-enough (b ∷ books) (w ∷ words) h zero book held e f =
    let eb : b ≡ book = cc in let ew : w ≡ held = cc in rw (← eb, ← ew) (start-enough b w h.0)
each-enough (b ∷ books) (w ∷ words) h (suc k) book held e f = each-enough books words h.1 k book held e f

loaded-more : (books : List Book) (words : List Words) (book : Book) (held : Words) → CanStartEach books words →
    loaded_each (books ++ book ∷ []) (words ++ held ∷ []) ≡ loaded_each books words ++ loaded_with book held ∷ []
loaded-more [] [] book held h = refl
loaded-more [] (w ∷ words) book held h = absurd h
loaded-more (b ∷ books) [] book held h = absurd h
loaded-more (b ∷ books) (w ∷ words) book held h =
    ap (λ (l : List AuctionWithBidders). loaded_with b w ∷ l) (loaded-more books words book held h.1)

pub loaded-many : (books : List Book) (words : List Words) → CanStartEach books words → length (loaded_each books words) ≡ length books
loaded-many [] [] h = refl
loaded-many [] (w ∷ words) h = absurd h
loaded-many (b ∷ books) [] h = absurd h
loaded-many (b ∷ books) (w ∷ words) h = ap suc (loaded-many books words h.1)

pub loaded-at : (books : List Book) (words : List Words) (k : ℕ) (book : Book) (held : Words) (d : AuctionWithBidders) →
    CanStartEach books words → k < length books → book ≡ get_or books k book → held ≡ get_or words k held →
    get_or (loaded_each books words) k d ≡ loaded_with book held
loaded-at [] words k book held d h lt e f = absurd (omega (arith, lt))
loaded-at (b ∷ books) [] k book held d h lt e f = absurd h
loaded-at (b ∷ books) (w ∷ words) zero book held d h lt e f = rw (e, f) refl
loaded-at (b ∷ books) (w ∷ words) (suc k) book held d h lt e f = loaded-at books words k book held d h.1 (omega (arith, lt)) e f

-- the books of the lots are those that are kept
pub first-books : (books : List Book) (words : List Words) → CanStartEach books words → map book_of_lot (loaded_each books words) ≡ books
first-books [] [] h = refl
first-books [] (w ∷ words) h = absurd h
first-books (b ∷ books) [] h = absurd h
first-books (b ∷ books) (w ∷ words) h =
    let here = book-whole b w.bidders h.0.lists in
    let rest = first-books books words h.1 in
    λ i. here i ∷ rest i

-- and so are the words
pub first-words : (books : List Book) (words : List Words) → CanStartEach books words → map words_of_lot (loaded_each books words) ≡ words
first-words [] [] h = refl
first-words [] (w ∷ words) h = absurd h
first-words (b ∷ books) [] h = absurd h
first-words (b ∷ books) (w ∷ words) h =
    let here = words-whole b w h.0 in
    let rest = first-words books words h.1 in
    λ i. here i ∷ rest i

-- ---- reading

-- no lot is kept yet
pub kept-none : (kept : WholeLots) → kept.books.items ≡ [] → kept.words.items ≡ [] → kept.product ≡ 0 → AreKept kept []
kept-none kept e f p = record { lots = rw e refl; product = p }

-- one lot more is
pub kept-more : (before after : WholeLots) (read : List LimitedLot) (limited : LimitedLot) →
    CanStartEach before.books.items before.words.items → AreKept before read → KeepsLot before after limited →
    AreKept after (read ++ limited ∷ [])
kept-more before after read limited h k more = record {
  lots = map-append (λ (l : LimitedLot). l.lot) read (limited ∷ [])
      ∙ ap (λ (l : List AuctionWithBidders). l ++ limited.lot ∷ []) k.lots
      ∙ ap (λ (lot : AuctionWithBidders). loaded_each before.books.items before.words.items ++ lot ∷ []) more.lot
      ∙ sym (loaded-more before.books.items before.words.items more.book more.held h)
      ∙ sym (ap (λ (books : List Book). loaded_each books (before.words.items ++ more.held ∷ [])) more.books)
      ∙ sym (ap (λ (words : List Words). loaded_each after.books.items words) more.words);
  product = more.product ∙ ap (λ n. n + limited.product) k.product
      ∙ sym (sum_by_push (λ (l : LimitedLot). l.product) read limited);
}

pub starts-more : (before after : WholeLots) (limited : LimitedLot) → CanStartEach before.books.items before.words.items →
    KeepsLot before after limited → CanStartEach after.books.items after.words.items
starts-more before after limited h more =
    rw (more.books, more.words) (start-more before.books.items before.words.items more.book more.held h more.runs)

abbrev pub both_with : List LotRow → List AuctionWithBidders → List Book → Both
both_with rows lots seconds = record { rows = rows; lots = lots; seconds = seconds }

-- what is kept of both sessions, as it was handed on, is what was read
pub both-is : (rows held last : List LotRow) (kept lots : WholeLots) (read : List LimitedLot) (seconds : List Book) → held ≡ rows →
    ◌≡◌ {A = List LotRow × WholeLots} (last, lots) (held, kept) → AreKept kept read →
    both_with rows (map (λ (l : LimitedLot). l.lot) read) seconds ≡ both_with last (loaded_each lots.books.items lots.words.items) seconds
both-is rows held last kept lots read seconds e f k =
    ap (λ (l : List AuctionWithBidders). both_with rows l seconds) k.lots
    ∙ ap (λ (r : List LotRow). both_with r (loaded_each kept.books.items kept.words.items) seconds) (sym e)
    ∙ ap (λ (p : List LotRow × WholeLots). both_with p.0 (loaded_each p.1.books.items p.1.words.items) seconds) (sym f)

module _ (held last : List LotRow) (kept lots : WholeLots) (e : ◌≡◌ {A = List LotRow × WholeLots} (last, lots) (held, kept)) where
  -- the lots can run as they were handed on
  pub both-run : CanStartEach kept.books.items kept.words.items → CanStartEach lots.books.items lots.words.items
  both-run h = subst (λ (p : List LotRow × WholeLots). CanStartEach p.1.books.items p.1.words.items) (sym e) h

  -- and there is one for each row
  pub both-count : length kept.books.items ≡ length held → length lots.books.items ≡ length last
  both-count h = subst (λ (p : List LotRow × WholeLots). length p.1.books.items ≡ length p.0) (sym e) h

  pub both-few : length held ≤ MOST_LOTS → length last ≤ MOST_LOTS
  both-few h = subst (λ (p : List LotRow × WholeLots). length p.0 ≤ MOST_LOTS) (sym e) h
