-- The points of several bidders, added up; they need not lie on lines.
use Rattle.std.specs.Prelude.{◌≡◌, ℕ, ◌%◌, List, ◌++◌, slice_index, sum_by}
use Rattle.beet_field.specs.Field.{p}
use Rattle.beet_field.specs.Trio.{member}
use Rattle.beet_field.specs.declared.point.Point.{Point}
use Rattle.beet_field.specs.declared.trio.Trio.{Trio}
use Rattle.beet_bids.specs.Grids.{Grid}
use Rattle.beet_book.specs.Totals.{Totals, inputs_by, sums_by}

-- the n-th points of all bidders at a server, added up
abbrev pub sum_at : List (Trio (List ℕ)) → Point → ℕ → ℕ
sum_at bidders s n = sum_by (λ points. slice_index (member points s) n) bidders % p

-- the sums at each server, over so many prices: buy first
abbrev pub sums_at : ℕ → List (Trio (List ℕ)) → Trio (List ℕ)
sums_at prices bidders = sums_by (sum_at bidders) prices

-- the inputs at each server: supply at each place, and then demand at each place
abbrev pub inputs_at : ℕ → List (Trio (List ℕ)) → Trio (List ℕ)
inputs_at prices bidders = inputs_by (sum_at bidders) prices

-- the totals are the points of these bidders, added up
abbrev pub AddsUp : Grid → Totals → List (Trio (List ℕ)) → Type 0
AddsUp grid totals bidders = totals ≡ record { prices = grid.prices; points = sums_at grid.prices bidders }

-- totals that are the points of some bidders, added up, are afterwards those of these bidders and a block of further
-- ones
abbrev pub AddsBlock : Totals → List (Trio (List ℕ)) → Totals → Type 0
AddsBlock before block after =
    (grid : Grid) (bidders : List (Trio (List ℕ))) → AddsUp grid before bidders → AddsUp grid after (bidders ++ block)
