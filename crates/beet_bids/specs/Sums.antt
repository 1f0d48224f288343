-- What all bidders together sell and buy at a place.
use Rattle.std.specs.Prelude.{ℕ, List, ◌++◌, map, sum_by, slice_index}
use Rattle.beet_bids.specs.Books.{Book}
use Rattle.beet_bids.specs.Grids.{places_of}
use Rattle.beet_bids.specs.declared.book.Bidder.{Bidder}

-- what all bidders sell at a place
abbrev pub supply_at : List Bidder → ℕ → ℕ
supply_at bidders place = sum_by (λ bidder. slice_index bidder.curve.sell place) bidders

-- what all bidders buy at a place
abbrev pub demand_at : List Bidder → ℕ → ℕ
demand_at bidders place = sum_by (λ bidder. slice_index bidder.curve.buy place) bidders

-- what a book puts in: the supply at each place, and then the demand at each place
abbrev pub sums_of : Book → List ℕ
sums_of book = map (supply_at book.bidders) (places_of book.grid) ++ map (demand_at book.bidders) (places_of book.grid)
