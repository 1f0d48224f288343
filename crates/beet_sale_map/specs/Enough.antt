-- Words that are enough for a sale.
use Rattle.std.specs.Prelude.{ℕ, List, length}
use Rattle.beet_words.specs.Bundles.{Words}
use Rattle.beet_trades.specs.Enough.{HasEnough, Wants, read_words}
use Rattle.beet_sale_plan.specs.Sale.{most_coefficients_of, most_masks_of}
use Rattle.beet_sale_file.specs.declared.rows.SaleBid.{SaleBid}

-- what a sale of so many bidders wants: of each bidder one number
abbrev pub wants_of : ℕ → Wants
wants_of bidders = record {
  masks = most_masks_of bidders;
  coefficients = most_coefficients_of bidders;
  quantities = 1;
}

abbrev pub AreEnough : List SaleBid → Words → Type 0
AreEnough bids words = HasEnough (wants_of (length bids)) (length bids) words

-- the words that are read for a sale
abbrev pub cut_words : List SaleBid → Words → Words
cut_words bids words = read_words (wants_of (length bids)) words
