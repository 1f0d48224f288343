-- What the files of two sessions are read as: lots with words, and books of accepted bids.
use Rattle.std.proofs.Common.{◌≡◌, ◌≤◌, ◌+◌, ◌*◌, ℕ, Bool, false, List, [], length, map, nat_lt, Some, if◌then◌else◌}
use Rattle.std.proofs.Common.{sym, ap, subst, ◌∙◌, arith}
use Rattle.std.specs.Prelude.{All}
use Rattle.std.proofs.lemmas.Bool.{ltb-false}
use Rattle.std.proofs.lemmas.List.{length-map}
use Rattle.std.proofs.lemmas.List.Elements.{All-map}
use Rattle.beet_store.specs.Files.{File}
use Rattle.beet_forms.specs.FaultLines.{fault_line_of}
use Rattle.beet_words.specs.declared.bundle.TheConstants.{MOST_BIDDERS}
use Rattle.beet_bids.specs.AuctionFiles.{auction_of}
use Rattle.beet_bids.specs.Books.{Book, IsBook}
use Rattle.beet_bids.specs.Grids.{Grid}
use Rattle.beet_bids.specs.declared.auction_file.TheConstants.{AUCTION_LIMIT}
use Rattle.beet_bids.specs.declared.book.Bidder.{Bidder}
use Rattle.beet_book.specs.BookFiles.{book_of}
use Rattle.beet_book.specs.declared.book_file.TheConstants.{BOOK_LIMIT, MOST_PRODUCT}
use Rattle.beet_book.specs.declared.server_file.TheConstants.{SERVERS_LIMIT}
use Rattle.beet_book.specs.declared.entries.Entry.{Entry}
use Rattle.beet_book.specs.declared.sources.Servers.{Servers}
use Rattle.beet_errand.specs.Errands.{Answer, Errand, bad_file, gives, reads}
use Rattle.beet_errand.specs.Fetches.{IsDone}
use Rattle.beet_errand.specs.Overs.{ReadsTo, answer_over}
use Rattle.beet_errand.specs.declared.answer.Refusal.TheVariants.{BadFile}
use Rattle.beet_load.specs.Limits.{over_product}
use Rattle.beet_load.specs.Loading.{AuctionWithBidders, rest_errand}
use Rattle.beet_load.specs.Servers.{ServerWords}
use Rattle.beet_load.specs.Settings.{Setting}
use Rattle.beet_load.specs.Wholes.{bids_errand, curves_errand, limited_rest}
use Rattle.beet_load.proofs.Farming.{lt_false}
use Rattle.beet_lot_files.specs.SeedFiles.{seed_servers_of}
use Rattle.beet_lot_files.specs.SessionFiles.{session_of}
use Rattle.beet_lot_files.specs.declared.session_file.LotRow.{LotRow}
use Rattle.beet_lot_files.specs.declared.session_file.TheConstants.{SESSION_LIMIT}
use Rattle.beet_lot_load.specs.Lots.{each_row}
use Rattle.beet_job_worlds.specs.Reading.{Both as Books}
use Rattle.beet_job_session_pair.specs.Reading.{Both, LimitedLot, alone_errand, books_errand, both_errand, limited_lot, next_alone}
use Rattle.beet_job_session_pair.specs.Reading.{next_limited, taken_by, taken_by_books}
use Rattle.beet_app_laws.proofs.Telling.{IsTold, told-both as told-books, told-each, told-list}
use Rattle.beet_program_laws.proofs.Compared.{is-right}
use Rattle.beet_program_laws.proofs.Files.{book-few}
use Rattle.beet_program_laws.proofs.Read.{IsLoaded, curves-yield, rest-yield}
use Rattle.beet_program_laws.proofs.Steps.{Yields, any-yield, gives-yield, passes-yield, reads-yield, then-told, then-yields}
use Rattle.beet_program_laws.proofs.Steps.{weaker-yield}
use Rattle.beet_session_laws.proofs.Reading.{AreAll, each-yield}
use Rattle.beet_app_laws.proofs.Telling.{part}

-- ---- one session after the other

-- a lot that is read within the limit on its session
abbrev IsLimitedLot : LimitedLot → Type 0
IsLimitedLot limited = IsLoaded limited.lot

-- what is read of two sessions
pub record IsBoth (both : Both) : Type 0 where
  pub lots : All IsLoaded both.lots
  pub many : length both.lots ≡ length both.rows
  pub seconds : All IsBook both.seconds

-- what is within the limit with what is taken before it is so alone
alone-within : (before product : ℕ) → nat_lt MOST_PRODUCT (before + product) ≡ false → nat_lt MOST_PRODUCT (0 + product) ≡ false
alone-within before product within =
    let few : before + product ≤ MOST_PRODUCT = ltb-false MOST_PRODUCT (before + product) within in
    lt_false MOST_PRODUCT (0 + product) (omega (arith, few))

module _ (files : List File) where
  limited-lot-yield : (sources : Servers) (lot before : ℕ) (row : LotRow) →
      Yields files (limited_lot sources lot before row) IsLimitedLot
  unfolding rest_errand
  limited-lot-yield sources lot before row =
      then-yields files (reads row.auction AUCTION_LIMIT auction_of) _ (λ grid. Unit {0}) IsLimitedLot
      (any-yield files row.auction AUCTION_LIMIT auction_of) (λ grid any.
      then-yields files (reads row.book BOOK_LIMIT book_of) _ (λ entries. length entries ≤ MOST_BIDDERS) IsLimitedLot
      (reads-yield files row.book BOOK_LIMIT book_of (λ entries. length entries ≤ MOST_BIDDERS)
      (λ bytes entries e. book-few bytes entries e)) (λ entries few.
      let setting : Setting = record { grid = grid; sources = sources; entries = entries } in
      then-yields files (limited_rest (Some lot) before row.book setting)
      (λ loaded. gives {A = LimitedLot} (record { lot = loaded; product = length entries * grid.prices })) IsLoaded IsLimitedLot
      (passes-yield {A = AuctionWithBidders} files (nat_lt MOST_PRODUCT (before + length entries * grid.prices)) BadFile
      (fault_line_of row.book over_product.place over_product.reason) (rest_errand (Some lot) setting) IsLoaded
      (λ within. rest-yield files (Some lot) grid sources entries few)) (λ loaded h.
      gives-yield files IsLimitedLot (record { lot = loaded; product = length entries * grid.prices }) h)))

  -- the bids of a book, whatever is taken before it
  module _ (book : List ℕ) (grid : Grid) where
    abbrev AreBids : List Bidder → Type 0
    AreBids bidders = IsBook (record { grid = grid; bidders = bidders })

    abbrev judged_alone : Bool → List Entry → (List Bidder → Errand) → Errand
    judged_alone over entries next = if over then bad_file book over_product else bids_errand grid [] entries next

    alone-yield : (entries : List Entry) → ReadsTo files (reads book BOOK_LIMIT book_of) entries →
        nat_lt MOST_PRODUCT (0 + length entries * grid.prices) ≡ false → Yields files (bids_errand grid [] entries) AreBids
    alone-yield entries r within next done =
        let same : (next : List Bidder → Errand) →
        answer_over files (curves_errand 0 book grid next) ≡ answer_over files (bids_errand grid [] entries next) =
        λ next. r (λ entries. judged_alone (nat_lt MOST_PRODUCT (0 + length entries * grid.prices)) entries next)
        ∙ ap (λ over. answer_over files (judged_alone over entries next)) within in
        let (bidders, s, h) =
        curves-yield files book grid next (subst (λ (a : Answer). IsDone a.status) (sym (same next)) done) in
        (bidders, λ next. sym (same next) ∙ s next, h)

    curves-before : (before : ℕ) → Yields files (curves_errand before book grid) AreBids
    curves-before before =
        then-told files (reads book BOOK_LIMIT book_of) _ (λ entries. Unit {0}) AreBids
        (any-yield files book BOOK_LIMIT book_of) (λ entries r any.
        passes-yield {A = List Bidder} files (nat_lt MOST_PRODUCT (before + length entries * grid.prices)) BadFile
        (fault_line_of book over_product.place over_product.reason) (bids_errand grid [] entries) AreBids (λ within.
        alone-yield entries r (alone-within before (length entries * grid.prices) within)))

  book-yield : (before : ℕ) (row : LotRow) → Yields files (alone_errand before row) IsBook
  book-yield before row =
      then-yields files (reads row.auction AUCTION_LIMIT auction_of) _ (λ grid. Unit {0}) IsBook
      (any-yield files row.auction AUCTION_LIMIT auction_of) (λ grid any.
      then-yields files (curves_errand before row.book grid)
      (λ bidders. gives {A = Book} (record { grid = grid; bidders = bidders }))
      (λ bidders. IsBook (record { grid = grid; bidders = bidders })) IsBook (curves-before row.book grid before)
      (λ bidders is. gives-yield files IsBook (record { grid = grid; bidders = bidders }) is))

  books-yield : (session : List ℕ) → Yields files (books_errand session) (All IsBook)
  books-yield session =
      then-yields files (reads session SESSION_LIMIT session_of) _ (λ rows. Unit {0}) (All IsBook)
      (any-yield files session SESSION_LIMIT session_of) (λ rows any.
      weaker-yield files (each_row next_alone [] rows) (AreAll IsBook (length rows)) (All IsBook) (λ books h. h.each)
      (each-yield files next_alone IsBook (λ read row. book-yield (taken_by_books read) row) rows))

  pub both-yield : (session1 session2 servers : List ℕ) → Yields files (both_errand session1 session2 servers) IsBoth
  unfolding both_errand
  both-yield session1 session2 servers =
      then-yields files (reads session1 SESSION_LIMIT session_of) _ (λ rows. Unit {0}) IsBoth
      (any-yield files session1 SESSION_LIMIT session_of) (λ rows any.
      then-yields files (reads servers SERVERS_LIMIT seed_servers_of) _ (λ sources. Unit {0}) IsBoth
      (any-yield files servers SERVERS_LIMIT seed_servers_of) (λ sources any.
      then-yields files (each_row (next_limited sources) [] rows) _ (AreAll IsLimitedLot (length rows)) IsBoth
      (each-yield files (next_limited sources) IsLimitedLot
      (λ read row. limited-lot-yield sources (length read) (taken_by read) row) rows) (λ limited h.
      then-yields files (books_errand session2) _ (All IsBook) IsBoth (books-yield session2) (λ seconds k.
      let lots = map (λ (l : LimitedLot). l.lot) limited in
      gives-yield files IsBoth (record { rows = rows; lots = lots; seconds = seconds }) (record {
        lots = All-map IsLoaded (λ (l : LimitedLot). l.lot) limited h.each;
        many = length-map limited (λ (l : LimitedLot). l.lot) ∙ h.many;
        seconds = k;
      })))))

-- ---- what is read is one

told-row : IsTold LotRow
told-row a b h =
    let name = part told-list (λ (r : LotRow). r.name) a b h in
    let auction = part told-list (λ (r : LotRow). r.auction) a b h in
    let book = part told-list (λ (r : LotRow). r.book) a b h in
    λ i. record { name = name i; auction = auction i; book = book i }

-- an auction as one with no second book
abbrev with_none : AuctionWithBidders → Books
with_none loaded = record { first = loaded; second = [] }

told-loaded : IsTold AuctionWithBidders
told-loaded a b h = ap (λ (x : Books). x.first) (part told-books with_none a b h)

-- a book as the second one over its grid
abbrev as_second : Book → Books
as_second book =
    let none : ServerWords = record { masks = []; coefficients = [] } in
    record {
      first = record { grid = book.grid; servers = record { one = none; two = none; three = none }; farmers = [] };
      second = book.bidders;
    }

told-book : IsTold Book
told-book a b h =
    ap (λ (x : Books). record { grid = x.first.grid; bidders = x.second }) (part told-books as_second a b h)

pub told-both : IsTold Both
told-both a b h =
    let rows = part (told-each told-row) (λ (x : Both). x.rows) a b h in
    let lots = part (told-each told-loaded) (λ (x : Both). x.lots) a b h in
    let seconds = part (told-each told-book) (λ (x : Both). x.seconds) a b h in
    λ i. record { rows = rows i; lots = lots i; seconds = seconds i }

-- what was read of both sessions is right
pub is-both : (files : List File) (session1 session2 servers : List ℕ) (both : Both) →
    ReadsTo files (both_errand session1 session2 servers) both → IsBoth both
is-both files session1 session2 servers =
    is-right (both_errand session1 session2 servers) files IsBoth (both-yield files session1 session2 servers) told-both
