-- Those who deal quantities among three servers, and their words in two worlds in which one server holds the same
-- points.
use Rattle.std.specs.Prelude.{◌≡◌, ◌≢◌, ◌<◌, ◌≤◌, ◌==◌, ℕ, List, [], ◌∷◌, length, slice_index, slice_get, Option, Some}
use Rattle.std.specs.Prelude.{nat_lt, if◌then◌else◌}
use Rattle.beet_field.specs.declared.point.Point.{Point}
use Rattle.beet_words.specs.Words.{accepted, ones, ones_in}
use Rattle.beet_map.specs.Mapped.{moved_of}

-- the server that knows it, if there is one, and the quantities that it deals, in order
pub record Party : Type 0 where
  pub known : Option Point
  pub quantities : List ℕ

-- a party and the words that it deals with
pub record Dealer : Type 0 where
  pub party : Party
  pub words : List ℕ

-- parties with their words, in order
abbrev pub dealers_of : List Party → List (List ℕ) → List Dealer
dealers_of [] words = []
dealers_of (party ∷ parties) [] = []
dealers_of (party ∷ parties) (list ∷ words) = record { party = party; words = list } ∷ dealers_of parties words

-- the n-th accepted word in the second world: moved for each quantity; a word that is all ones stays
abbrev pub slope_mapped : Point → List ℕ → List ℕ → ℕ → ℕ → ℕ
slope_mapped s one other n word =
    if word == ones then word else
    (if nat_lt n (length one) then moved_of s word (slice_index one n) (slice_index other n) else word)

-- the words that deal two lists of quantities: with those that are all ones at the same places, the accepted word for
-- each quantity is moved by what the quantity is more than in the second list, and all other words are the same
pub record SlopesMoved (s : Point) (one other words words' : List ℕ) : Type 0 where
  pub places : ones_in words' ≡ ones_in words
  pub moves : (n : ℕ) → n < length one →
      slice_index (accepted words') n
      ≡ moved_of s (slice_index (accepted words) n) (slice_index one n) (slice_index other n)
  pub rest : (n : ℕ) → length one ≤ n → slice_index (accepted words') n ≡ slice_index (accepted words) n

-- a party and its words in two worlds: the words of one that is known to the server stay
pub record DealerMapped (s : Point) (one other : Dealer) : Type 0 where
  pub known : other.party.known ≡ one.party.known
  pub count : length other.party.quantities ≡ length one.party.quantities
  pub own : one.party.known ≡ Some s → other.words ≡ one.words
  pub moved : one.party.known ≢ Some s → SlopesMoved s one.party.quantities other.party.quantities one.words other.words

-- all of them
pub record DealersMapped (s : Point) (dealers dealers' : List Dealer) : Type 0 where
  pub count : length dealers' ≡ length dealers
  pub each_one : (k : ℕ) (one other : Dealer) → slice_get dealers k ≡ Some one → slice_get dealers' k ≡ Some other →
      DealerMapped s one other
