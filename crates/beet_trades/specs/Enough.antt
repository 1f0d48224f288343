-- Words that are enough for a run, and those of them that are read for it.
use Rattle.std.specs.Prelude.{◌≡◌, ◌≤◌, ℕ, List, length, map, take, All}
use Rattle.beet_field.specs.Trio.{of_each}
use Rattle.beet_words.specs.Bundles.{Words}
use Rattle.beet_words.specs.Words.{accepted}
use Rattle.beet_gates.specs.Scripts.{HasWords}
use Rattle.beet_masking.specs.Masks.{with_spare}

-- so many words of a list are not all ones, among as many and the spare ones
abbrev pub HasAccepted : ℕ → List ℕ → Type 0
HasAccepted wanted words = wanted ≤ length (accepted (take (with_spare wanted) words))

-- what is wanted: mask words and numbers of each server, and numbers of each who deals
pub record Wants : Type 0 where
  pub masks : ℕ
  pub coefficients : ℕ
  pub quantities : ℕ

-- a list for each of so many who deal, with a word for each quantity, and the mask words and coefficient words of each
-- server
pub record HasEnough (wants : Wants) (parties : ℕ) (words : Words) : Type 0 where
  pub masks : HasWords wants.masks words.masks
  pub one : HasAccepted wants.coefficients words.coefficients.one
  pub two : HasAccepted wants.coefficients words.coefficients.two
  pub three : HasAccepted wants.coefficients words.coefficients.three
  pub count : length words.bidders ≡ parties
  pub bidders : All (HasAccepted wants.quantities) words.bidders

-- the words that are read: of each list as many as are kept
abbrev pub read_words : Wants → Words → Words
read_words wants words = record {
  masks = of_each (take wants.masks) words.masks;
  coefficients = of_each (take (with_spare wants.coefficients)) words.coefficients;
  bidders = map (take (with_spare wants.quantities)) words.bidders;
}
