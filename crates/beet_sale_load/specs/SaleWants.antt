-- How many words a sale wants.
use Rattle.std.specs.Prelude.{ℕ, List, length, None}
use Rattle.beet_load.specs.Counts.{Counts}
use Rattle.beet_load.specs.declared.wanted.Wanted.{Wanted}
use Rattle.beet_sale_plan.specs.Sale.{most_coefficients_of, most_masks_of}
use Rattle.beet_sale_file.specs.declared.rows.SaleRow.{SaleRow}

-- what a sale of so many bidders wants: of each bidder one number
abbrev pub counts_of : ℕ → Counts
counts_of bidders = record {
  masks = most_masks_of bidders;
  coefficients = most_coefficients_of bidders;
  words = 1;
}

-- what the sale of these rows wants
abbrev pub wanted_of : List SaleRow → Wanted
wanted_of rows = record { counts = counts_of (length rows); lot = None }
