-- What several bidders deal among five servers, added up.
use Rattle.std.specs.Prelude.{◌≡◌, ◌+◌, ◌*◌, ℕ, List, [], ◌∷◌, ◌++◌, length, replicate, slice_index}
use Rattle.beet_field.specs.Field.{add_of}
use Rattle.beet_gates.specs.Each.{each}
use Rattle.beet_bids.specs.Curves.{Curve}
use Rattle.beet_bids.specs.Grids.{Grid}
use Rattle.beet_bids.specs.declared.book.Bidder.{Bidder}
use Rattle.beet_book.specs.Farmers.{BidderWithWords}
use Rattle.beet_weights.specs.Quadratics.{of_five, point_of}
use Rattle.beet_five_dealing.specs.FiveInputs.{inputs_at, summed_share}

-- a list of each server
pub record FiveLists : Type 0 where
  pub one : List ℕ
  pub two : List ℕ
  pub three : List ℕ
  pub four : List ℕ
  pub five : List ℕ

-- the lists that a rule gives
abbrev pub lists_by : (ℕ → List ℕ) → FiveLists
lists_by f = record { one = f 1; two = f 2; three = f 3; four = f 4; five = f 5 }

-- the sums of shares of each server, over a grid with so many prices: buy first
pub record FiveTotals : Type 0 where
  pub prices : ℕ
  pub sums : FiveLists

-- no shares yet
abbrev pub no_totals : ℕ → FiveTotals
no_totals prices = record { prices = prices; sums = lists_by (λ i. replicate (2 * prices) 0) }

-- the share of server i of the n-th of some values, which the next two of some numbers hide
abbrev pub share_of : List ℕ → List ℕ → ℕ → ℕ → ℕ
share_of values numbers i n =
    point_of (slice_index values n) (slice_index numbers (2 * n)) (slice_index numbers (2 * n + 1)) i

-- the sums with the shares of server i of these values, which these numbers hide, added place by place
abbrev pub shares_added : ℕ → List ℕ → List ℕ → List ℕ → List ℕ
shares_added i values numbers sums =
    each (λ n. add_of (slice_index sums n) (share_of values numbers i n)) (length sums)

-- and so at each server
abbrev pub added_to_each : List ℕ → List ℕ → FiveLists → FiveLists
added_to_each values numbers sums = record {
  one = shares_added 1 values numbers sums.one;
  two = shares_added 2 values numbers sums.two;
  three = shares_added 3 values numbers sums.three;
  four = shares_added 4 values numbers sums.four;
  five = shares_added 5 values numbers sums.five;
}

-- each server has so many sums
pub record HaveSums (count : ℕ) (sums : FiveLists) : Type 0 where
  pub one : length sums.one ≡ count
  pub two : length sums.two ≡ count
  pub three : length sums.three ≡ count
  pub four : length sums.four ≡ count
  pub five : length sums.five ≡ count

-- the totals are the shares that these bidders deal over the grid, added up
pub record HasDealtFive (grid : Grid) (farmers : List BidderWithWords) (totals : FiveTotals) : Type 0 where
  pub prices : totals.prices ≡ grid.prices
  pub sums : totals.sums ≡ lists_by (λ i. each (summed_share farmers i) (2 * grid.prices))

-- totals of what some bidders deal are afterwards those of these and of one more, with this curve and these words
pub record DealsOne (curve : Curve) (words : List ℕ) (old new : FiveTotals) : Type 0 where
  pub prices : new.prices ≡ old.prices
  pub dealt : (grid : Grid) (farmers : List BidderWithWords) (bidder : Bidder) → bidder.curve ≡ curve →
      HasDealtFive grid farmers old →
      HasDealtFive grid (farmers ++ record { bidder = bidder; words = words } ∷ []) new

-- the inputs of five servers, from what these bidders deal over a grid
abbrev pub five_inputs_of : Grid → List BidderWithWords → List (List ℕ)
five_inputs_of grid farmers = of_five (inputs_at grid.prices farmers)
