-- Totals: the points of several bidders added up, and put in the order of an auction's input wires.
use Rattle.std.specs.Prelude.{◌≡◌, ℕ, ◌+◌, ◌*◌, ◌%◌, ◌<◌, List, ◌++◌, length, map, take, drop, slice_index, sum_by}
use Rattle.std.specs.Prelude.{replicate, Some, Vec}
use Rattle.std.specs.Global.{Global}
use Rattle.std.specs.List.{fold, range_with_len, slice_get}
use Rattle.beet_field.specs.Trio.{trio_of}
use Rattle.beet_field.specs.declared.point.Point.{Point}
use Rattle.beet_field.specs.declared.trio.Trio.{Trio}
use Rattle.beet_field.specs.Field.{p, add_of}
use Rattle.beet_shamir.specs.Line.{recombined}
use Rattle.beet_gates.specs.Each.{each}
use Rattle.beet_bids.specs.Curves.{Curve, quantity}
use Rattle.beet_book.specs.Dealing.{pairwise, quantities, AreShares}

-- summed points of bidders, buy first, over a grid with so many prices
pub record Totals : Type 0 where
  pub prices : ℕ
  pub points : Trio (List ℕ)

-- the sums place by place, modulo p
abbrev pub field_sums : List ℕ → List ℕ → List ℕ
field_sums xs ys = pairwise add_of xs ys

-- the numbers of each server's list
abbrev pub items_of : Trio (Vec ℕ Global) → Trio (List ℕ)
items_of lists = record { one = lists.one.items; two = lists.two.items; three = lists.three.items }

-- the sums at each server
abbrev pub added : Trio (List ℕ) → Trio (List ℕ) → Trio (List ℕ)
added a b = record { one = field_sums a.one b.one; two = field_sums a.two b.two; three = field_sums a.three b.three }

-- no points yet
abbrev pub none_of : ℕ → Totals
none_of prices = record {
  prices = prices;
  points = record {
    one = replicate (2 * prices) 0;
    two = replicate (2 * prices) 0;
    three = replicate (2 * prices) 0;
  };
}

-- supply at each place and then demand at each place, of a list that has buy first
abbrev pub supply_first : ℕ → List ℕ → List ℕ
supply_first prices xs = drop prices xs ++ take prices xs

-- by the n-th sum at each server, the sums over so many prices: buy first
abbrev pub sums_by : (Point → ℕ → ℕ) → ℕ → Trio (List ℕ)
sums_by sum prices = trio_of (λ s. each (sum s) (2 * prices))

-- and the inputs: supply at each place, and then demand at each place
abbrev pub inputs_by : (Point → ℕ → ℕ) → ℕ → Trio (List ℕ)
inputs_by sum prices = trio_of (λ s. supply_first prices (each (sum s) (2 * prices)))

-- the inputs of the servers, wire by wire
abbrev pub wires_of : Totals → Trio (List ℕ)
wires_of totals = record {
  one = supply_first totals.prices totals.points.one;
  two = supply_first totals.prices totals.points.two;
  three = supply_first totals.prices totals.points.three;
}

-- the three points of one wire
abbrev pub points_on : Trio (List ℕ) → ℕ → Trio ℕ
points_on wires wire = record {
  one = slice_index wires.one wire;
  two = slice_index wires.two wire;
  three = slice_index wires.three wire;
}

-- the plain sums, place by place
abbrev pub plain_sums : List ℕ → List ℕ → List ℕ
plain_sums xs ys = pairwise (λ x y. x + y) xs ys

-- points of lines are added to points of lines with the sums of their values
abbrev pub AddsValues : Trio (List ℕ) → Trio (List ℕ) → Trio (List ℕ) → Type 0
AddsValues a b sum = (v w : List ℕ) → AreShares v a → AreShares w b → AreShares (plain_sums v w) sum

-- the points of several bidders, added one after another
abbrev pub all_added : Trio (List ℕ) → List (Trio (List ℕ)) → Trio (List ℕ)
all_added points bidders = fold added points bidders

-- the points of each bidder are those of lines with its values
pub record HaveValues (values : List (List ℕ)) (bidders : List (Trio (List ℕ))) : Type 0 where
  pub count : length values ≡ length bidders
  pub each : (i : ℕ) (own : List ℕ) (points : Trio (List ℕ)) →
      slice_get values i ≡ Some own → slice_get bidders i ≡ Some points → AreShares own points

-- points of lines of several bidders are added to points of lines with the sums of all their values
abbrev pub AddsAllValues : Trio (List ℕ) → List (Trio (List ℕ)) → Trio (List ℕ) → Type 0
AddsAllValues before bidders after =
    (v : List ℕ) (values : List (List ℕ)) → AreShares v before → HaveValues values bidders →
    AreShares (fold plain_sums v values) after

-- points of lines become points of lines with the quantities of the curve added to their values
abbrev pub AddsQuantities : Curve → Trio (List ℕ) → Trio (List ℕ) → Type 0
AddsQuantities curve before after =
    (v : List ℕ) → AreShares v before → AreShares (plain_sums v (quantities curve)) after

-- if the totals are points of lines, each wire recombines to the value of its line, modulo p
abbrev pub CarriesValues : Totals → Trio (List ℕ) → Type 0
CarriesValues totals wires =
    (v : List ℕ) → AreShares v totals.points → length v ≡ 2 * totals.prices → (wire : ℕ) → wire < 2 * totals.prices →
    recombined (points_on wires wire) ≡ slice_index (supply_first totals.prices v) wire % p

-- the sum of the n-th quantities of the curves, for each n
abbrev pub summed_quantities : ℕ → List Curve → List ℕ
summed_quantities prices curves = map (λ n. sum_by (λ curve. quantity curve n) curves) (range_with_len 0 (2 * prices))
