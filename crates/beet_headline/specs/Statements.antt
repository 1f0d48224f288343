-- The auction of a book among three servers: how a server stands after any events, and which words of two worlds go
-- with each other.
use Rattle.std.specs.Prelude.{◌≡◌, ◌≢◌, ◌<◌, ◌⊎◌, ℕ, List, All, AllPairs, Bool, Option, Some, length, map, slice_get}
use Rattle.std.specs.Prelude.{true, false, if◌then◌else◌}
use Rattle.beet_field.specs.Trio.{member}
use Rattle.beet_field.specs.declared.point.Point.{Point}
use Rattle.beet_words.specs.Bundles.{AreWords, Words}
use Rattle.beet_gates.specs.Plans.{plan_finish}
use Rattle.beet_bids.specs.Books.{Book, IsBook}
use Rattle.beet_bids.specs.Outcomes.{clearing_place, outcome_of}
use Rattle.beet_bids.specs.declared.book.Bidder.{Bidder}
use Rattle.beet_plan.specs.Auction.{Auction, auction_batch, auction_over, auction_plan}
use Rattle.beet_plan.specs.Runs.{finish_of}
use Rattle.beet_masking.specs.Masks.{is_spent, mask_at}
use Rattle.beet_plan.specs.Search.{path}
use Rattle.beet_plan.specs.declared.Finish.{Finish}
use Rattle.beet_plan.specs.declared.Finish.TheVariants.{MasksSpent}
use Rattle.beet_delivery.specs.Events.{Triple, after, undelivered}
use Rattle.beet_server.specs.Cores.{Core, has_ended}
use Rattle.beet_server.specs.Endings.{Ending, Ends, Waits, ending_of}
use Rattle.beet_world.specs.Worlds.{World, delivered_in}
use Rattle.beet_auction.specs.Endings.{book_rounds}
use Rattle.beet_auction.specs.Setups.{rounds_for, setup_for}
use Rattle.beet_auction.specs.WorldEnds.{auction_in}
use Rattle.beet_view.specs.declared.view.Seen.{Seen}
use Rattle.beet_two_books.specs.Agreement.{Agree}
use Rattle.beet_auction_map.specs.Enough.{AreEnough}
use Rattle.beet_auction_map.specs.MappedWords.{IsOnlyFirst, IsOnlySecond, Mapped}
use Rattle.beet_auction_map.specs.ViewsWith.{transcript_with, view_with}
use Rattle.beet_auction_map.specs.Worlds.{AlwaysSame}

-- words with which the auction of a book can be run: each is below 2^61, and they are enough
pub record CanRun (book : Book) (words : Words) : Type 0 where
  pub are_words : AreWords words
  pub enough : AreEnough book words

-- whether the masks are spent: among as many as the search makes comparisons, and the spare ones, more are rejected
-- than there are spare
abbrev pub are_spent : Book → Words → Bool
are_spent book words = is_spent (mask_at words.masks) (length (path book.grid.prices (clearing_place book)))

-- the servers of a `World` began with the auction of a book and these words
pub record Began (book : Book) (words : Words) (w : World Auction) : Type 0 where
  pub script : w.start.one.script ≡ auction_over book.grid
  pub setup : auction_in w ≡ setup_for book words

-- and were given these events
pub record WereGiven (book : Book) (words : Words) (es : List Triple) (w : World Auction) : Type 0 where
  pub began : Began book words w
  pub given : delivered_in w ≡ after (rounds_for book words) es

-- how the core of a server stands: it waits in a round, or has ended with what its script names after the numbers that
-- it has opened
abbrev pub ending_at : Core Auction → Ending Finish
ending_at c =
    if has_ended auction_batch c then Ends (plan_finish (auction_plan c.script) c.opened) else Waits c.round

-- how a server stands after a list of events, by the definition of its end: it waits in a round, or has ended with what
-- the script names after the numbers that the run opens
abbrev pub standing : Book → Words → List Triple → Point → Ending Finish
standing book words es s =
    let rounds = rounds_for book words in
    ending_of (plan_finish (auction_plan (auction_over book.grid))) (setup_for book words) rounds (after rounds es) s

-- a server that stands so and has ended has opened the outcome of the book, or the masks are spent; one that has not
-- waits in one of the rounds that the book and the mask words tell
pub record StandsRight (book : Book) (words : Words) (stands : Ending Finish) : Type 0 where
  pub opens : are_spent book words ≡ false → (end : Option Finish) → stands ≡ Ends end →
      end ≡ Some (finish_of (outcome_of book))
  pub spent : are_spent book words ≡ true → (end : Option Finish) → stands ≡ Ends end → end ≡ Some MasksSpent
  pub waits : (t : ℕ) → stands ≡ Waits t → t < book_rounds book words.masks
  pub rounds : rounds_for book words ≡ book_rounds book words.masks

-- so a server stands by the definition of its end
abbrev pub OpensTheOutcome : Book → Words → List Triple → Point → Type 0
OpensTheOutcome book words es s = StandsRight book words (standing book words es s)

-- so its core stands, and as that definition says of these events
pub record CoreOpensTheOutcome (book : Book) (words : Words) (es : List Triple) (s : Point)
    (c : Core Auction) : Type 0 where
  pub right : StandsRight book words (ending_at c)
  pub defined : ending_at c ≡ standing book words es s

-- whatever the events, a server that has ended has ended with this
abbrev pub AllEndWith : Book → Words → Finish → Type 0
AllEndWith book words finish =
    (es : List Triple) (s : Point) (end : Option Finish) → standing book words es s ≡ Ends end → end ≡ Some finish

-- no message is left that was sent and not delivered
abbrev pub AllDelivered : Book → Words → List Triple → Type 0
AllDelivered book words es = undelivered (rounds_for book words) (after (rounds_for book words) es) ≡ 0

-- all three servers have opened the outcome of the book, or all three have met a rejected mask too many
abbrev pub AllHaveEnded : Book → Words → List Triple → Type 0
AllHaveEnded book words es =
    ((are_spent book words ≡ false)
    × ((s : Point) → standing book words es s ≡ Ends (Some (finish_of (outcome_of book)))))
    ⊎ ((are_spent book words ≡ true) × ((s : Point) → standing book words es s ≡ Ends (Some MasksSpent)))

-- two books of accepted bids that agree for server s
pub record AreTwoBooks (s : Point) (first second : Book) : Type 0 where
  pub first_book : IsBook first
  pub second_book : IsBook second
  pub agree : Agree s first second

-- each list of the one has as many words as that of the other
pub record AreAsLong (words words' : Words) : Type 0 where
  pub masks : (j : Point) → length (member words'.masks j) ≡ length (member words.masks j)
  pub coefficients : (j : Point) → length (member words'.coefficients j) ≡ length (member words.coefficients j)
  pub bidders : map (λ list. length list) words'.bidders ≡ map (λ list. length list) words.bidders

-- words of two worlds that are mapped, and go with no others: both are enough and as long, and server s cannot tell
-- which world it is in by what it sees and the bytes of its transcript, nor by what it has, receives and sends after
-- any events
pub record AreOnePair (s : Point) (first : Book) (words : Words) (second : Book) (words' : Words) : Type 0 where
  pub mapped : Mapped s first words second words'
  pub only_second : IsOnlySecond s first words second words'
  pub only_first : IsOnlyFirst s first words second words'
  pub first_runs : CanRun first words
  pub second_runs : CanRun second words'
  pub as_long : AreAsLong words words'
  pub views : view_with second words' s ≡ view_with first words s
  pub transcripts : transcript_with second words' s ≡ transcript_with first words s
  pub always : AlwaysSame s first words second words'

-- choices of words with which the auction of a book can be run, none of them twice
pub record AreChoices (book : Book) (choices : List Words) : Type 0 where
  pub can_run : All (CanRun book) choices
  pub once : AllPairs (λ a b. a ≢ b) choices

-- as many choices for two books, each of which goes with the one at its place
pub record ArePairs (s : Point) (first : Book) (choices : List Words) (second : Book)
    (others : List Words) : Type 0 where
  pub as_many : length others ≡ length choices
  pub each_one : (k : ℕ) (words words' : Words) → slice_get choices k ≡ Some words → slice_get others k ≡ Some words' →
      AreOnePair s first words second words'

-- choices of words that show a server this transcript
abbrev pub AllShow : Point → Book → List ℕ → List Words → Type 0
AllShow s book transcript choices = All (λ words. transcript_with book words s ≡ transcript) choices

-- the bidder at a place of a book, the words that it deals with, and what a server sees of it
pub record IsSeen (s : Point) (book : Book) (words : Words) (k : ℕ) (bidder : Bidder) (list : List ℕ)
    (seen : Seen) : Type 0 where
  pub bids : slice_get book.bidders k ≡ Some bidder
  pub deals : slice_get words.bidders k ≡ Some list
  pub shows : slice_get (view_with book words s).bidders k ≡ Some seen
