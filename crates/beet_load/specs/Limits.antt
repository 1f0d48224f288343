-- The limit on a book of which everything is kept.
use Rattle.std.specs.Prelude.{ℕ, ◌+◌, ◌*◌, List, nat_lt, if◌then◌else◌}
use Rattle.beet_forms.specs.Faults.{Fault, at_row}
use Rattle.beet_bids.specs.Grids.{Grid}
use Rattle.beet_errand.specs.Errands.{Errand, bad_file}
use Rattle.beet_book.specs.declared.book_file.TheConstants.{MOST_PRODUCT, OVER_PRODUCT}

-- what stands for a book that is above the limit
abbrev pub over_product : Fault
over_product = at_row 0 OVER_PRODUCT

-- a book of so many bidders is within the limit, of which the lots before have this much, or it is refused
abbrev pub within_product : ℕ → List ℕ → Grid → ℕ → Errand → Errand
within_product before book grid count next =
    if nat_lt MOST_PRODUCT (before + count * grid.prices) then bad_file book over_product else next
