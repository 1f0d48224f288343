-- What five servers begin with in the auction of a book.
use Rattle.std.specs.Prelude.{ℕ, ◌*◌, ◌%◌, List, sum_by}
use Rattle.beet_field.specs.Field.{p}
use Rattle.beet_gates.specs.Clear.{rounds_dealt}
use Rattle.beet_gates.specs.Each.{each}
use Rattle.beet_bids.specs.Books.{Book}
use Rattle.beet_bids.specs.Curves.{quantity}
use Rattle.beet_bids.specs.Sums.{sums_of}
use Rattle.beet_book.specs.Farmers.{BidderWithWords, farmers_of}
use Rattle.beet_book.specs.Totals.{supply_first}
use Rattle.beet_masking.specs.Masks.{dealt_at}
use Rattle.beet_linear_sharing.specs.Runs.{Setup}
use Rattle.beet_linear_sharing.specs.Schemes.{five_servers}
use Rattle.beet_coalition.specs.Lists.{at_server}
use Rattle.beet_coalition.specs.Moved.{hiding}
use Rattle.beet_coalition.specs.Premise.{Secrets}
use Rattle.beet_coalition.specs.Words.{run_with}
use Rattle.beet_plan.specs.FivePlan.{five_batch, five_over, most_rounds}
use Rattle.beet_five_dealing.specs.FiveWords.{FiveWords}

-- the share of server i of the n-th quantity of a bidder, which two numbers drawn from its words hide
abbrev pub share_for : BidderWithWords → ℕ → ℕ → ℕ
share_for farmer i n = five_servers.share (quantity farmer.bidder.curve n) (hiding five_servers farmer.words n) i

-- the shares of the n-th quantities of all bidders, added up
abbrev pub summed_share : List BidderWithWords → ℕ → ℕ → ℕ
summed_share farmers i n = sum_by (λ farmer. share_for farmer i n) farmers % p

-- the inputs of server i, over so many prices: supply at each place, and then demand at each place
abbrev pub inputs_at : ℕ → List BidderWithWords → ℕ → List ℕ
inputs_at prices farmers i = supply_first prices (each (summed_share farmers i) (2 * prices))

-- the secrets of a book's auction: its sums, the inputs of each server, and the words that each deals
abbrev pub world_of : Book → FiveWords → Secrets
world_of book words = record {
  values = sums_of book;
  inputs = inputs_at book.grid.prices (farmers_of book.bidders words.bidders);
  masks = at_server words.masks;
}

-- what the servers begin with
abbrev pub setup_of : Book → FiveWords → Setup
setup_of book words = run_with (five_batch (five_over book.grid)) (world_of book words) (at_server words.coefficients)

-- how many rounds the run on the sums of a book has with these mask words
abbrev pub rounds_of : Book → List (List ℕ) → ℕ
rounds_of book masks =
    rounds_dealt (five_batch (five_over book.grid)) (most_rounds (five_over book.grid)) (sums_of book) (dealt_at masks)
