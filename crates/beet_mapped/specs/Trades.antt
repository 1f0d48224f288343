-- The words of two worlds of a script that one server cannot tell apart.
use Rattle.std.specs.Prelude.{◌≡◌, ℕ, List, length}
use Rattle.beet_field.specs.Trio.{member}
use Rattle.beet_field.specs.declared.point.Point.{Point}
use Rattle.beet_field.specs.declared.trio.Trio.{Trio}
use Rattle.beet_words.specs.Bundles.{Words, AreWords}
use Rattle.beet_words.specs.Words.{ones_in}
use Rattle.beet_gates.specs.declared.Batch.{Batch}
use Rattle.beet_sharing.specs.Runs.{Setup, numbers_of, rounds_among}
use Rattle.beet_map.specs.Mapped.{GateMapped}
use Rattle.beet_mapped.specs.Dealers.{Party, Dealer, DealersMapped, dealers_of}
use Rattle.beet_turned.specs.MappedMasks.{MasksMapped}

-- what is run in a world: a script of at most so many rounds, those who deal, and the inputs that come of their words
pub record Trade : Type 0 where
  pub next : ℕ → List ℕ → Batch
  pub most : ℕ
  pub parties : List Party
  pub inputs : List (List ℕ) → Trio (List ℕ)

-- what the servers begin with, if the parties have these words
abbrev pub setup_in : Trade → Words → Setup
setup_in trade words = record {
  next = trade.next;
  inputs = trade.inputs words.bidders;
  masks = words.masks;
  numbers = numbers_of words.coefficients;
}

abbrev pub rounds_in : Trade → Words → ℕ
rounds_in trade words = rounds_among (setup_in trade words) trade.most

abbrev pub dealers_in : Trade → Words → List Dealer
dealers_in trade words = dealers_of trade.parties words.bidders

-- the words of two worlds, mapped for server s, if the numbers that are compared lose these amounts. There are as many
-- lists, and all numbers are words. Of the coefficient words those that are all ones stand at the same places, those of
-- s are the same, and the numbers drawn in the first run are mapped
pub record TradesMapped (s : Point) (losses : List ℕ) (first : Trade) (words : Words) (second : Trade) (words' : Words)
    : Type 0 where
  pub lists : length words'.bidders ≡ length words.bidders
  pub are_words : AreWords words
  pub are_words' : AreWords words'
  pub masks : MasksMapped s losses words.masks words'.masks
  pub dealers : DealersMapped s (dealers_in first words) (dealers_in second words')
  pub places : (j : Point) → ones_in (member words'.coefficients j) ≡ ones_in (member words.coefficients j)
  pub own : member words'.coefficients s ≡ member words.coefficients s
  pub numbers : GateMapped s (rounds_in first words) (setup_in first words) (setup_in second words')

-- no other words are so
abbrev pub IsOnly : (Words → Type 0) → Words → Type 0
IsOnly mapped words = (other : Words) → mapped other → other ≡ words
