-- The words of an auction among five servers.
use Rattle.std.specs.Prelude.{◌≡◌, ◌<◌, ◌≤◌, ◌*◌, ℕ, List, [], length, slice_index, slice_index_or}
use Rattle.beet_words.specs.Words.{IsWord, accepted}
use Rattle.beet_bids.specs.Books.{Book}
use Rattle.beet_bids.specs.Grids.{Grid}
use Rattle.beet_linear_sharing.specs.Schemes.{five_servers}
use Rattle.beet_linear_sharing.specs.Sharings.{IsAmong}
use Rattle.beet_coalition.specs.Lists.{at_server}
use Rattle.beet_plan.specs.FivePlan.{five_over, most_masks, most_secrets}

-- the mask words and the coefficient words of each server, and the words of each bidder
pub record FiveWords : Type 0 where
  pub masks : List (List ℕ)
  pub coefficients : List (List ℕ)
  pub bidders : List (List ℕ)

-- all numbers are words
abbrev pub AreWordLists : List (List ℕ) → Type 0
AreWordLists lists = (k i : ℕ) → IsWord (slice_index (slice_index_or lists k []) i)

-- five lists of words
pub record AreFive (lists : List (List ℕ)) : Type 0 where
  pub five : length lists ≡ 5
  pub small : AreWordLists lists

-- all are words, and there is a list of each kind for each server
pub record AreAllWords (words : FiveWords) : Type 0 where
  pub masks : AreFive words.masks
  pub coefficients : AreFive words.coefficients
  pub bidders : AreWordLists words.bidders

-- so many words of each list are not all ones
abbrev pub AllAccepted : ℕ → List (List ℕ) → Type 0
AllAccepted wanted lists = (k : ℕ) → k < length lists → wanted ≤ length (accepted (slice_index_or lists k []))

-- coefficient words from which each server can draw two numbers for each secret that it hides
abbrev pub CanDraw : Grid → List (List ℕ) → Type 0
CanDraw grid coefficients =
    (j : ℕ) → IsAmong five_servers.servers j →
    2 * most_secrets (five_over grid) ≤ length (accepted (at_server coefficients j))

-- the auction of a book can be run with these words: there are mask words and coefficient words for each server, and
-- two numbers for each of the quantities of a bidder
pub record CanRun (book : Book) (words : FiveWords) : Type 0 where
  pub are_words : AreAllWords words
  pub masks : (j : ℕ) → IsAmong five_servers.servers j →
      most_masks (five_over book.grid) ≤ length (at_server words.masks j)
  pub coefficients : CanDraw book.grid words.coefficients
  pub count : length words.bidders ≡ length book.bidders
  pub bidders : AllAccepted (2 * (2 * book.grid.prices)) words.bidders
