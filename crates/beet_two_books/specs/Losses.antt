-- What the numbers that are compared in the auctions of two books lose from the first to the second.
use Rattle.std.specs.Prelude.{ℕ, List, map}
use Rattle.beet_field.specs.Field.{sub_of}
use Rattle.beet_bids.specs.Books.{Book}
use Rattle.beet_bids.specs.Outcomes.{clearing_place}
use Rattle.beet_bids.specs.Sums.{supply_at, demand_at}
use Rattle.beet_compare.specs.Compare.{doubled}
use Rattle.beet_plan.specs.Search.{path}

-- twice the difference of supply and demand at a place, modulo p
abbrev pub doubled_at : Book → ℕ → ℕ
doubled_at book place = doubled (supply_at book.bidders place) (demand_at book.bidders place)

-- by how much it is more in the first book than in the second, modulo p
abbrev pub lost_at : Book → Book → ℕ → ℕ
lost_at first second place = sub_of (doubled_at first place) (doubled_at second place)

-- what each comparison of the first book's auction loses, in their order
abbrev pub losses_of : Book → Book → List ℕ
losses_of first second = map (lost_at first second) (path first.grid.prices (clearing_place first))
