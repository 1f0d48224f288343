-- The words of two worlds of the auction among five servers that two of them cannot tell apart.
use Rattle.std.specs.Prelude.{◌≡◌, ◌<◌, ◌*◌, ℕ, List, [], ◌∷◌, Bool, true, false, length, Option, Some, None}
use Rattle.std.specs.List.{slice_get}
use Rattle.beet_field.specs.Point.{number_of}
use Rattle.beet_field.specs.declared.point.Point.{Point}
use Rattle.beet_bids.specs.Books.{Book, IsBook}
use Rattle.beet_bids.specs.Curves.{quantity}
use Rattle.beet_bids.specs.declared.book.Bidder.{Bidder}
use Rattle.beet_book.specs.Farmers.{BidderWithWords, farmers_of}
use Rattle.beet_two_books.specs.Agreement.{AgreeFor}
use Rattle.beet_two_books.specs.Losses.{losses_of}
use Rattle.beet_linear_sharing.specs.Schemes.{five_servers}
use Rattle.beet_linear_sharing.specs.Sharings.{IsAmong}
use Rattle.beet_coalition.specs.Coalitions.{LooksAlike}
use Rattle.beet_coalition.specs.Lists.{at_server}
use Rattle.beet_coalition.specs.Moved.{WordsMoved}
use Rattle.beet_coalition.specs.Watchers.{two_watch}
use Rattle.beet_coalition.specs.Words.{WordsMapped}
use Rattle.beet_plan.specs.FivePlan.{five_batch, five_over}
use Rattle.beet_five_dealing.specs.FiveInputs.{rounds_of, setup_of, share_for, world_of}
use Rattle.beet_five_map.specs.FiveMasks.{MasksMappedFor}
use Rattle.beet_five_dealing.specs.FiveWords.{AreAllWords, CanRun, FiveWords}

-- the number of the server that a bidder is marked by, and 0 if there is none; so servers 4 and 5 know no bidder
abbrev pub known_by : Option Point → ℕ
known_by None = 0
known_by (Some s) = number_of s

-- whether server a or b knows a bidder
abbrev pub is_own : ℕ → ℕ → Bidder → Bool
is_own a b bidder = (two_watch a b).watches (known_by bidder.known)

-- whether a server that marks bidders is a or b
abbrev pub watching : ℕ → ℕ → Point → Bool
watching a b s = (two_watch a b).watches (number_of s)

-- two books over one grid, with as many bidders with the same marks, the same curves of those known to a or b, and the
-- same outcome
abbrev pub Agree : ℕ → ℕ → Book → Book → Type 0
Agree a b first second = AgreeFor (watching a b) first second

-- two books of accepted bids that agree for servers a and b
pub record AreTwoBooks (a b : ℕ) (first second : Book) : Type 0 where
  pub first_book : IsBook first
  pub second_book : IsBook second
  pub agree : Agree a b first second

-- a bidder and its words in two worlds, over so many prices: the words of one that a or b knows stay, and the two
-- numbers that hide a quantity of another are moved by it
pub record BidderMapped (a b prices : ℕ) (one other : BidderWithWords) : Type 0 where
  pub known : other.bidder.known ≡ one.bidder.known
  pub own : is_own a b one.bidder ≡ true → other.words ≡ one.words
  pub moved : is_own a b one.bidder ≡ false →
      WordsMoved five_servers (two_watch a b) (2 * prices) (quantity one.bidder.curve) (quantity other.bidder.curve)
      one.words other.words

-- as many bidders, each mapped to the one at its place
abbrev pub BiddersMapped : ℕ → ℕ → ℕ → List BidderWithWords → List BidderWithWords → Type 0
BiddersMapped a b prices [] [] = Unit {0}
BiddersMapped a b prices [] (other ∷ others) = ⊥
BiddersMapped a b prices (one ∷ ones) [] = ⊥
BiddersMapped a b prices (one ∷ ones) (other ∷ others) =
    BidderMapped a b prices one other × BiddersMapped a b prices ones others

-- the words of two worlds, mapped for servers a and b. All are words, with as many lists. The mask words of the lowest
-- other server turn each mask that is compared. The words of bidders are mapped, and so are the coefficient words:
-- those that are all ones stand at the same places, those of a and b are the same, and the numbers that another server
-- draws for a secret are moved by it
pub record MappedForTwo (a b : ℕ) (first : Book) (words : FiveWords) (second : Book) (words' : FiveWords) : Type 0 where
  pub are_words : AreAllWords words
  pub are_words' : AreAllWords words'
  pub masks : MasksMappedFor a b (losses_of first second) words.masks words'.masks
  pub lists : length words'.bidders ≡ length words.bidders
  pub bidders : BiddersMapped a b first.grid.prices (farmers_of first.bidders words.bidders)
      (farmers_of second.bidders words'.bidders)
  pub coefficients : WordsMapped five_servers (two_watch a b) (five_batch (five_over first.grid))
      (rounds_of first words.masks) (world_of first words) (world_of second words') (at_server words.coefficients)
      (at_server words'.coefficients)

-- servers a and b hold the same shares of each quantity of each bidder, over so many prices
abbrev pub SameShares : ℕ → ℕ → ℕ → List BidderWithWords → List BidderWithWords → Type 0
SameShares a b prices ones others =
    (k : ℕ) (one other : BidderWithWords) → slice_get ones k ≡ Some one → slice_get others k ≡ Some other →
    (s n : ℕ) → IsAmong five_servers.servers s → (two_watch a b).watches s ≡ true → n < 2 * prices →
    share_for other s n ≡ share_for one s n

-- servers a and b have the same lists
abbrev pub SameOwn : ℕ → ℕ → List (List ℕ) → List (List ℕ) → Type 0
SameOwn a b lists lists' =
    (s : ℕ) → IsAmong five_servers.servers s → (two_watch a b).watches s ≡ true → at_server lists' s ≡ at_server lists s

-- words of two worlds that are mapped, and go with no others; both are enough, and servers a and b together cannot tell
-- which world they are in: they have the same words, hold the same shares of each bidder, and in each round of runs
-- that are as long they hold the same points, get the same messages and open the same numbers
pub record AreOnePair (a b : ℕ) (first : Book) (words : FiveWords) (second : Book) (words' : FiveWords) : Type 0 where
  pub mapped : MappedForTwo a b first words second words'
  pub only_second : (other : FiveWords) → MappedForTwo a b first words second other → other ≡ words'
  pub only_first : (other : FiveWords) → MappedForTwo a b first other second words' → other ≡ words
  pub first_runs : CanRun first words
  pub second_runs : CanRun second words'
  pub own_masks : SameOwn a b words.masks words'.masks
  pub own_coefficients : SameOwn a b words.coefficients words'.coefficients
  pub shares : SameShares a b first.grid.prices (farmers_of first.bidders words.bidders)
      (farmers_of second.bidders words'.bidders)
  pub rounds : rounds_of second words'.masks ≡ rounds_of first words.masks
  pub looks : LooksAlike five_servers (two_watch a b) (rounds_of first words.masks) (setup_of first words)
      (setup_of second words')
