-- Five servers can begin the auction of a book with words with which it can be run.
use Rattle.std.proofs.Common.{◌≡◌, ◌*◌, length, refl, sym, ap, ◌∙◌}
use Rattle.beet_gates.proofs.EachFacts.{length-each}
use Rattle.beet_bids.specs.Books.{Book}
use Rattle.beet_book.specs.Farmers.{farmers_of}
use Rattle.beet_book.proofs.Sums.{length-first}
use Rattle.beet_linear_sharing.proofs.Arithmetic.{among-bounds}
use Rattle.beet_plan.specs.FivePlan.{five_batch, five_over, most_masks, most_secrets}
use Rattle.beet_five_dealing.proofs.Lists.{at-five}
use Rattle.beet_five_dealing.specs.FiveInputs.{inputs_at, setup_of, summed_share}
use Rattle.beet_five_dealing.specs.FiveTotals.{five_inputs_of}
use Rattle.beet_five_dealing.specs.FiveWords.{CanRun, FiveWords}
use Rattle.beet_five_run.specs.FiveRuns.{CanStart, HasFewWords, OpensWith}

module _ (book : Book) (words : FiveWords) where
  -- they can begin
  pub can-begin : CanRun book words → HasFewWords words →
      CanStart (λ script. 2 * script.prices) most_secrets most_masks (five_over book.grid)
      (five_inputs_of book.grid (farmers_of book.bidders words.bidders)) words.masks words.coefficients
  can-begin can few =
      let farmers = farmers_of book.bidders words.bidders in
      let prices = book.grid.prices in
      record {
        has_inputs = record {
          five = refl;
          are = λ j at.
              ap length (at-five (inputs_at prices farmers) j (among-bounds j at))
              ∙ length-first prices _ (length-each (summed_share farmers j) (2 * prices));
        };
        has_masks = record {
          five = can.are_words.masks.five;
          are = λ j at. record { enough = can.masks j (among-bounds j at); few = few.masks j at };
        };
        has_coefficients = record {
          five = can.are_words.coefficients.five;
          are = λ j at. record { enough = can.coefficients j (among-bounds j at); few = few.coefficients j at };
        };
      }

  -- what they begin is the run of the book
  pub opens-book : OpensWith five_batch (setup_of book words) (five_over book.grid)
      (five_inputs_of book.grid (farmers_of book.bidders words.bidders)) words.masks words.coefficients
  opens-book j at =
      let dealt = at-five (inputs_at book.grid.prices (farmers_of book.bidders words.bidders)) j (among-bounds j at) in
      record { has_script = refl; has_inputs = sym dealt; has_words = refl; has_numbers = refl }
