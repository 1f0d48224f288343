-- How many words an auction among five servers wants.
use Rattle.std.specs.Prelude.{◌*◌, None}
use Rattle.beet_bids.specs.Grids.{Grid}
use Rattle.beet_plan.specs.FivePlan.{five_over, most_masks, most_secrets}
use Rattle.beet_load.specs.Counts.{Counts}
use Rattle.beet_load.specs.declared.wanted.Wanted.{Wanted}

-- a server draws two numbers for each secret, and a bidder two for each quantity, of which there are two at each price
abbrev pub counts_of_five : Grid → Counts
counts_of_five grid = record {
  masks = most_masks (five_over grid);
  coefficients = 2 * most_secrets (five_over grid);
  words = 2 * (2 * grid.prices);
}

-- what the auction wants, which is no lot
abbrev pub wanted_of_five : Grid → Wanted
wanted_of_five grid = record { counts = counts_of_five grid; lot = None }
