-- All that is said of the words of the second world.
use Rattle.std.specs.Prelude.{◌≡◌, ℕ, List, map}
use Rattle.beet_field.specs.declared.point.Point.{Point}
use Rattle.beet_words.specs.Bundles.{Words}
use Rattle.beet_bids.specs.Books.{Book}
use Rattle.beet_delivery.specs.Events.{Triple}
use Rattle.beet_sharing.specs.Runs.{HasRounds}
use Rattle.beet_trades.specs.ListsMapped.{ListsMapped}
use Rattle.beet_two_books.specs.Agreement.{Agree}
use Rattle.beet_auction_map.specs.Enough.{AreEnough}
use Rattle.beet_auction_map.specs.MappedBidders.{party_of}
use Rattle.beet_auction_map.specs.MappedWords.{IsOnlyFirst, IsOnlySecond, Mapped}
use Rattle.beet_auction.specs.Setups.{setup_for, rounds_for}
use Rattle.beet_auction_map.specs.Moments.{SameAfter}
use Rattle.beet_auction_map.specs.ViewsWith.{view_with}

-- at every moment server s has and does the same in both worlds
abbrev pub AlwaysSame : Point → Book → Words → Book → Words → Type 0
AlwaysSame s first words second words' =
    (es : List Triple) →
    SameAfter s (setup_for first words) (rounds_for first words) (setup_for second words') (rounds_for second words') es

-- the run of a book with these words has its rounds: its end comes after them, and not before
abbrev pub Ends : Book → Words → Type 0
Ends book words = HasRounds (setup_for book words) (rounds_for book words)

-- words that are enough for the first book, a second book that agrees with it for server s, and words of the second
-- book's bidders that are mapped from those of the first; all bidders' words are below 2^61
pub record HasBidders (s : Point) (first : Book) (words : Words) (second : Book) (bidders : List (List ℕ)) :
    Type 0 where
  pub enough : AreEnough first words
  pub agree : Agree s first second
  pub bidders_mapped : ListsMapped s (map party_of first.bidders) (map party_of second.bidders) words.bidders bidders

-- words of two worlds: mapped in the one way there is, enough for the second book, and server s cannot tell which is
-- which
pub record WorldsMapped (s : Point) (first : Book) (words : Words) (second : Book) (words' : Words) : Type 0 where
  pub mapped : Mapped s first words second words'
  pub enough : AreEnough second words'
  pub ends : Ends first words
  pub ends' : Ends second words'
  pub looks : view_with second words' s ≡ view_with first words s
  pub moments : AlwaysSame s first words second words'
  pub only : IsOnlySecond s first words second words'
  pub back : IsOnlyFirst s first words second words'
