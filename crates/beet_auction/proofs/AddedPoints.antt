-- The points of several bidders, added up, are inputs of an auction.
use Rattle.std.proofs.Common.{◌≡◌, ℕ, ◌*◌, List, length, take, drop, All, arith}
use Rattle.std.proofs.lemmas.List.Elements.{All-append, All-take, All-drop, All-from_get_or}
use Rattle.beet_field.specs.Field.{IsElement}
use Rattle.beet_field.specs.Trio.{member}
use Rattle.beet_field.specs.declared.point.Point.{Point}
use Rattle.beet_field.specs.declared.point.Point.TheVariants.{One, Two, Three}
use Rattle.beet_field.specs.declared.trio.Trio.{Trio}
use Rattle.beet_gates.specs.Each.{each}
use Rattle.beet_gates.proofs.EachFacts.{length-each, item-each}
use Rattle.beet_bids.specs.Grids.{Grid}
use Rattle.beet_book.specs.Totals.{supply_first}
use Rattle.beet_book.proofs.Sums.{length-first}
use Rattle.beet_plan.specs.Auction.{auction_over}
use Rattle.beet_auction.specs.AnyPoints.{ArePoints}
use Rattle.beet_book.specs.PointSums.{sum_at, inputs_at}

first-elements : (prices : ℕ) (xs : List ℕ) → All IsElement xs → All IsElement (supply_first prices xs)
first-elements prices xs all =
    All-append IsElement (drop prices xs) (take prices xs) (All-drop IsElement prices xs all) (All-take IsElement prices xs all)

below : (bidders : List (Trio (List ℕ))) (s : Point) (n : ℕ) → All IsElement (each (sum_at bidders s) n)
below bidders s n =
    All-from_get_or IsElement (each (sum_at bidders s) n) 0
    (λ k lt. rw (item-each (sum_at bidders s) n k (omega (arith, length-each (sum_at bidders s) n))) (omega arith))

-- at each server there are two inputs for each price
pub inputs-many : (prices : ℕ) (bidders : List (Trio (List ℕ))) (s : Point) → length (member (inputs_at prices bidders) s) ≡ 2 * prices
inputs-many prices bidders One =
    length-first prices (each (sum_at bidders One) (2 * prices)) (length-each (sum_at bidders One) (2 * prices))
inputs-many prices bidders Two =
    length-first prices (each (sum_at bidders Two) (2 * prices)) (length-each (sum_at bidders Two) (2 * prices))
inputs-many prices bidders Three =
    length-first prices (each (sum_at bidders Three) (2 * prices)) (length-each (sum_at bidders Three) (2 * prices))

inputs-elements : (prices : ℕ) (bidders : List (Trio (List ℕ))) (s : Point) → All IsElement (member (inputs_at prices bidders) s)
inputs-elements prices bidders One = first-elements prices (each (sum_at bidders One) (2 * prices)) (below bidders One (2 * prices))
inputs-elements prices bidders Two = first-elements prices (each (sum_at bidders Two) (2 * prices)) (below bidders Two (2 * prices))
inputs-elements prices bidders Three = first-elements prices (each (sum_at bidders Three) (2 * prices)) (below bidders Three (2 * prices))

-- and they are numbers of the field
pub are-points : (grid : Grid) (bidders : List (Trio (List ℕ))) → ArePoints (auction_over grid) (inputs_at grid.prices bidders)
are-points grid bidders = record { lengths = inputs-many grid.prices bidders; elements = inputs-elements grid.prices bidders }
