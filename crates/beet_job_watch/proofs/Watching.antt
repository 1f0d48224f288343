-- What the job `watch` tells, once its run has ended.
use Rattle.std.proofs.Common.{◌≡◌, ◌≤◌, ◌<◌, ◌*◌, ◌^◌, ℕ, List, [], length, arith, ap, sym, ◌∙◌}
use Rattle.beet_field.specs.Trio.{member, trio_of}
use Rattle.beet_field.specs.declared.point.Point.{Point}
use Rattle.beet_field.specs.declared.point.Point.TheVariants.{One, Two, Three}
use Rattle.beet_field.specs.declared.trio.Trio.{Trio}
use Rattle.beet_gates.specs.Scripts.{LawFrom, bounds_of, start_of}
use Rattle.beet_gates.specs.declared.Gates.{Gates}
use Rattle.beet_gates.specs.declared.Gates.TheVariants.{Chain, Tree}
use Rattle.beet_bids.specs.Books.{Book, IsBook}
use Rattle.beet_bids.specs.Grids.{Grid, IsGrid}
use Rattle.beet_bids.specs.Sums.{sums_of}
use Rattle.beet_bids.specs.declared.grid.TheConstants.{MOST_PRICES}
use Rattle.beet_bids.specs.declared.outcomes.Policy.{Policy}
use Rattle.beet_bids.proofs.BookSums.{length-sums}
use Rattle.beet_bids.proofs.GridFacts.{few_comparisons}
use Rattle.beet_book.specs.Dealing.{AreShares}
use Rattle.beet_book.specs.Farmers.{book_with}
use Rattle.beet_plan.specs.Auction.{Auction, auction_batch, auction_over, most_coefficients, most_masks, most_rounds, most_wires}
use Rattle.beet_plan.specs.declared.Finish.{Finish}
use Rattle.beet_plan.proofs.AuctionLaw.{auction-law}
use Rattle.beet_server.specs.Cores.{Core, setup_of}
use Rattle.beet_server.specs.Lockstep.{HaveEnded}
use Rattle.beet_link.specs.Streams.{rounds_from}
use Rattle.beet_auction.specs.Setups.{inputs_of}
use Rattle.beet_sharing.specs.Runs.{Setup, shared_at}
use Rattle.beet_sharing.proofs.Rounds.{ends-alike}
use Rattle.beet_desk.specs.Counts.{count_in}
use Rattle.beet_desk.specs.declared.counts.NoteCount.{NoteCount}
use Rattle.beet_load.specs.Loading.{AuctionWithBidders, AuctionWithInputs, IsKeptOf}
use Rattle.beet_load.specs.Servers.{ServerWords, masks_of}
use Rattle.beet_run.specs.Outcomes.{outcome_answer}
use Rattle.beet_run.specs.Runs.{EndsAuction, Starts, setup_with}
use Rattle.beet_run.proofs.BookRuns.{book-run, tells-run}
use Rattle.beet_run.proofs.ShareLines.{shares-lines}
use Rattle.beet_job_watch.specs.Watch.{book_count, watched, with_counts}

few-of : (prices : ℕ) (gates : Gates) (policy : Policy) → prices ≤ MOST_PRICES →
    3 * most_rounds (record { prices = prices; gates = gates; policy = policy }) < 2 ^ 31
few-of prices Chain policy few = omega (arith, few_comparisons prices few)
few-of prices Tree policy few = omega (arith, few_comparisons prices few)

-- the rounds of an auction are few
pub few-rounds : (grid : Grid) → IsGrid grid → 3 * most_rounds (auction_over grid) < 2 ^ 31
few-rounds grid g = few-of grid.prices grid.gates grid.policy g.prices_limit

-- the counts of three servers that have ended are those of the run that they began
pub watched-counts : (grid : Grid) (inputs : Trio (List ℕ)) (words : Trio ServerWords) (start end : Trio (Core Auction))
    (counts : Trio NoteCount) (rounds : ℕ) → Starts grid inputs words start →
    HaveEnded auction_batch inputs_of most_rounds start end →
    ((s : Point) → member counts s ≡ count_in (setup_of auction_batch inputs_of start)
    (rounds_from auction_batch inputs_of most_rounds start)) →
    rounds ≡ end.one.round → (s : Point) → member counts s ≡ count_in (setup_with grid inputs words) rounds
watched-counts grid inputs words start end counts rounds starts ended each is s =
    let there : rounds_from auction_batch inputs_of most_rounds start ≡ rounds = sym (ended.ended One).round ∙ sym is in
    each s ∙ (λ i. count_in (starts.setup i) (there i))

-- a run on shares of a book's sums has the book's count
pub run-count : (book : Book) (inputs : Trio (List ℕ)) (words : Trio ServerWords) (finish : Finish) (rounds : ℕ) → IsBook book →
    AreShares (sums_of book) inputs → EndsAuction book.grid inputs words finish rounds →
    count_in (setup_with book.grid inputs words) rounds ≡ book_count book (masks_of words)
run-count book inputs words finish rounds b x h =
    let a : Auction = auction_over book.grid in
    let o : Setup = setup_with book.grid inputs words in
    let law : LawFrom o.next (bounds_of (most_wires a) (most_masks a) (most_coefficients a)) (most_rounds a)
    (start_of (length (sums_of book))) [] = rw (length-sums book) (auction-law a) in
    let alike = ends-alike o (bounds_of (most_wires a) (most_masks a) (most_coefficients a)) (most_rounds a) (sums_of book) x.slopes law
    (shares-lines book inputs b x) in
    let opened = ap (λ r. length (shared_at o r).opened) (sym h.ends.counted) ∙ ap length alike.1 in
    let notes = (book-run book inputs words finish rounds b x h).1 in
    λ i. record { notes = notes i; opened = opened i }

-- the answer tells the finish, the rounds and the counts of the run
pub tells-watched : (kept : AuctionWithInputs) (loaded : AuctionWithBidders) (finish : Finish) (rounds : ℕ) (counts : Trio NoteCount) →
    IsKeptOf kept loaded → EndsAuction kept.grid kept.inputs kept.servers finish rounds →
    ((s : Point) → member counts s ≡ count_in (setup_with kept.grid kept.inputs kept.servers) rounds) →
    watched loaded ≡ with_counts counts (outcome_answer kept.grid finish rounds)
tells-watched kept loaded finish rounds counts k run each =
    let here : NoteCount = book_count (book_with kept.grid loaded.farmers) (masks_of kept.servers) in
    let there : NoteCount = book_count (book_with loaded.grid loaded.farmers) (masks_of loaded.servers) in
    let moved : there ≡ here = λ i. book_count (book_with (k.grid i) loaded.farmers) (masks_of (k.servers i)) in
    let is : (s : Point) → there ≡ member counts s = λ s.
    moved ∙ sym (run-count (book_with kept.grid loaded.farmers) kept.inputs kept.servers finish rounds k.book k.shares run)
    ∙ sym (each s) in
    let all : trio_of (λ _. there) ≡ counts = λ i. record { one = is One i; two = is Two i; three = is Three i } in
    λ i. with_counts (all i) (tells-run kept loaded finish rounds k run i)
