-- What `watch` has read and said.
use Rattle.std.proofs.Common.{◌≡◌, ◌++◌, ℕ, List, [], ◌∷◌, ap, length, subst, sym, ◌∙◌}
use Rattle.std.specs.Prelude.{codes}
use Rattle.beet_field.specs.declared.point.Point.TheVariants.{One, Two, Three}
use Rattle.beet_store.specs.Files.{File}
use Rattle.beet_words.specs.Bundles.{Words}
use Rattle.beet_gates.specs.Clear.{clear_values}
use Rattle.beet_gates.specs.Scripts.{LawFrom, bounds_of, start_of}
use Rattle.beet_bids.specs.Books.{Book, IsBook}
use Rattle.beet_bids.specs.Sums.{sums_of}
use Rattle.beet_bids.proofs.BookSums.{length-sums}
use Rattle.beet_book.specs.Farmers.{BidderWithWords, book_with, farmers_of}
use Rattle.beet_book.proofs.FarmerLists.{book-whole}
use Rattle.beet_plan.specs.Auction.{Auction, auction_batch, auction_over, most_coefficients, most_masks, most_rounds}
use Rattle.beet_plan.specs.Auction.{most_wires}
use Rattle.beet_plan.proofs.AuctionLaw.{auction-law}
use Rattle.beet_sharing.specs.Runs.{Setup, shared_at}
use Rattle.beet_sharing.proofs.Rounds.{ends-alike}
use Rattle.beet_auction.specs.Setups.{rounds_for, setup_for}
use Rattle.beet_auction.proofs.BookLines.{book-lines, slopes_of}
use Rattle.beet_headline.proofs.Standings.{ends}
use Rattle.beet_desk.specs.Counts.{count_in}
use Rattle.beet_desk.specs.declared.counts.NoteCount.{NoteCount}
use Rattle.beet_errand.specs.Overs.{ReadsTo}
use Rattle.beet_errand.specs.Statuses.{IsDoneCode}
use Rattle.beet_load.specs.Loading.{AuctionWithBidders, loaded_errand}
use Rattle.beet_run.specs.Outcomes.{cleared}
use Rattle.beet_job_watch.specs.Watch.{book_count, book_opened, count_text, watched}
use Rattle.beet_app_laws.specs.Calls.{Call, IsOf, RunsJobOf, Says}
use Rattle.beet_program_laws.specs.Commands.{Watches}
use Rattle.beet_program_laws.specs.Outcomes.{ServersOpen}
use Rattle.beet_program_laws.proofs.Ends.{WentOut}
use Rattle.beet_program_laws.proofs.Jobs.{book_in, loads, opens-book, runs-in, words_in}
use Rattle.beet_program_laws.proofs.Read.{IsLoaded}

-- the run of a book opens as many numbers as its script does on the book's sums
opened : (book : Book) (words : Words) → ServersOpen book words →
    length (shared_at (setup_for book words) (rounds_for book words)).opened ≡ book_opened book words.masks
opened book words run =
    let a : Auction = auction_over book.grid in
    let o : Setup = setup_for book words in
    let farmers : List BidderWithWords = farmers_of book.bidders words.bidders in
    let there : Book = book_with book.grid farmers in
    let whole : there ≡ book = book-whole book words.bidders run.can_run.enough.count in
    let is_book : IsBook there = subst IsBook (sym whole) run.is_book in
    let law : LawFrom o.next (bounds_of (most_wires a) (most_masks a) (most_coefficients a)) (most_rounds a)
    (start_of (length (sums_of there))) [] = rw (length-sums there) (auction-law a) in
    let alike = ends-alike o (bounds_of (most_wires a) (most_masks a) (most_coefficients a)) (most_rounds a)
    (sums_of there) (slopes_of book.grid farmers) law (book-lines book.grid farmers is_book) in
    ap length alike.1
    ∙ ap (λ (x : Book). length (clear_values (auction_batch a) (most_rounds a) (sums_of x) words.masks).opened) whole

-- and it has as many rounds
count-is : (book : Book) (words : Words) → ServersOpen book words →
    book_count book words.masks ≡ count_in (setup_for book words) (rounds_for book words)
count-is book words run =
    let rounds = sym (ends book words run.is_book run.can_run).counted in
    let numbers = sym (opened book words run) in
    λ i. record { notes = rounds i; opened = numbers i }

module _ (files : List File) (call : Call) (from : IsOf files call) (w : IsDoneCode call.status) where
  watched-by : (auction servers list : List ℕ) (loaded : AuctionWithBidders) (h : IsLoaded loaded) →
      ReadsTo files (loaded_errand auction servers list) loaded →
      WentOut (watched loaded) call → Watches files auction servers list call
  watched-by auction servers list loaded h read out = record {
    opens = opens-book loaded h files (loaded_errand auction servers list) read call.status out.code;
    said =
        subst (λ (count : NoteCount). Says call
        ((cleared loaded).text ++ count_text One count ++ count_text Two count ++ count_text Three count))
        (count-is (book_in loaded h) (words_in loaded h) (runs-in loaded h)) out.calls;
  }

  pub watches : (auction servers list : List ℕ) → RunsJobOf (codes "watch" ∷ auction ∷ servers ∷ list ∷ []) call →
      Watches files auction servers list call
  watches auction servers list ran =
      let f = loads files call from w watched auction servers list ran in
      watched-by auction servers list f.value f.holds f.read f.out
