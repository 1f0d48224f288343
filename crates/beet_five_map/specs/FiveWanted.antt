-- What is counted of the words of an auction among five servers.
use Rattle.std.specs.Prelude.{◌≡◌, ◌≤◌, ◌*◌, All, length}
use Rattle.beet_words.specs.Words.{accepted}
use Rattle.beet_bids.specs.Books.{Book}
use Rattle.beet_plan.specs.FivePlan.{five_over, most_masks, most_secrets}
use Rattle.beet_five_dealing.specs.FiveWords.{FiveWords}

-- five lists of enough mask words, five from which two numbers can be drawn for each secret, and one for each bidder
-- from which two can be drawn for each of its quantities
pub record AreWanted (book : Book) (words : FiveWords) : Type 0 where
  pub masks_five : length words.masks ≡ 5
  pub coefficients_five : length words.coefficients ≡ 5
  pub count : length words.bidders ≡ length book.bidders
  pub masks : All (λ list. most_masks (five_over book.grid) ≤ length list) words.masks
  pub coefficients : All (λ list. 2 * most_secrets (five_over book.grid) ≤ length (accepted list)) words.coefficients
  pub bidders : All (λ list. 4 * book.grid.prices ≤ length (accepted list)) words.bidders
