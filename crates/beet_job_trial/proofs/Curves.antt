-- The curves that the rule makes are curves of their grid.
use Rattle.std.proofs.Common.{◌≡◌, ◌≤◌, ◌<◌, ℕ, ◌+◌, ◌*◌, ◌-◌, ◌%◌, ◌==◌, List, [], ◌∷◌, ◌++◌, length, map, get_or}
use Rattle.std.proofs.Common.{Bool, true, false, arith, refl, sym, ◌∙◌, All}
use Rattle.std.specs.Prelude.{if◌then◌else◌, AllPairs}
use Rattle.std.specs.List.{range_with_len}
use Rattle.std.proofs.Math.Nat.{mul-le-mul_left}
use Rattle.std.proofs.lemmas.Nat.{mul-le}
use Rattle.std.proofs.lemmas.List.FromFn.{get_or-map-range_with_len, length-map-range_with_len, map-range_with_len_more}
use Rattle.beet_bids.specs.Curves.{Curve, IsCurve, IsOfGrid}
use Rattle.beet_bids.specs.declared.curve.TheConstants.{LARGEST_QUANTITY}
use Rattle.beet_bids.specs.Grids.{Grid}
use Rattle.beet_job_trial.specs.declared.rules.TheConstants.{PERIOD}
use Rattle.beet_job_trial.specs.Rules.{weight, buying, selling, bought, sold, trial_curve, trial_curves}
use Rattle.beet_bids.specs.declared.grid.TheConstants.{MOST_PRICES}

small : (weight count prices : ℕ) → weight ≤ 7 → count ≤ prices → prices ≤ MOST_PRICES → weight * count ≤ 7 * MOST_PRICES
small weight count prices w c p = omega (arith, mul-le weight count 7 MOST_PRICES w (omega arith))

pub light : (b : Bool) (i : ℕ) → (if b then weight i else 0) ≤ 7
light true i = omega arith
light false i = omega arith

pub light-else : (b : Bool) (i : ℕ) → (if b then 0 else weight i) ≤ 7
light-else true i = omega arith
light-else false i = omega arith

length-bought : (prices weight : ℕ) → length (bought prices weight) ≡ prices
length-bought prices weight = length-map-range_with_len (λ k. weight * (prices - k)) 0 prices

length-sold : (prices weight : ℕ) → length (sold prices weight) ≡ prices
length-sold prices weight = length-map-range_with_len (λ k. weight * k) 0 prices

item-bought : (prices weight k d : ℕ) → k < prices → get_or (bought prices weight) k d ≡ weight * (prices - k)
item-bought prices weight k d h = get_or-map-range_with_len (λ k. weight * (prices - k)) 0 prices k k d h (omega arith)

item-sold : (prices weight k d : ℕ) → k < prices → get_or (sold prices weight) k d ≡ weight * k
item-sold prices weight k d h = get_or-map-range_with_len (λ k. weight * k) 0 prices k k d h (omega arith)

-- the quantities are small
bought-small : (prices weight : ℕ) → weight ≤ 7 → prices ≤ MOST_PRICES →
    All (λ quantity. quantity ≤ LARGEST_QUANTITY) (bought prices weight)
bought-small prices weight w p = λ k d h.
    let within : k < prices = omega (arith, h, length-bought prices weight) in
    let item = item-bought prices weight k d within in
    let few = small weight (prices - k) prices w (omega arith) p in
    omega (arith, item, few)

sold-small : (prices weight : ℕ) → weight ≤ 7 → prices ≤ MOST_PRICES → All (λ quantity. quantity ≤ LARGEST_QUANTITY) (sold prices weight)
sold-small prices weight w p = λ k d h.
    let within : k < prices = omega (arith, h, length-sold prices weight) in
    let item = item-sold prices weight k d within in
    let few = small weight k prices w (omega arith) p in
    omega (arith, item, few)

-- what is bought falls from place to place, and what is sold rises
bought-falls : (prices weight : ℕ) → AllPairs (λ before after. after ≤ before) (bought prices weight)
bought-falls prices weight = λ i j d lt h.
    let last : j < prices = omega (arith, h, length-bought prices weight) in
    let first : i < prices = omega arith in
    let falls : weight * (prices - j) ≤ weight * (prices - i) = mul-le-mul_left weight (omega arith) in
    omega (arith, item-bought prices weight i d first, item-bought prices weight j d last, falls)

sold-rises : (prices weight : ℕ) → AllPairs (λ before after. before ≤ after) (sold prices weight)
sold-rises prices weight = λ i j d lt h.
    let last : j < prices = omega (arith, h, length-sold prices weight) in
    let first : i < prices = omega arith in
    let rises : weight * i ≤ weight * j = mul-le-mul_left weight (omega arith) in
    omega (arith, item-sold prices weight i d first, item-sold prices weight j d last, rises)

pub is-curve : (grid : Grid) (i : ℕ) → grid.prices ≤ MOST_PRICES → IsCurve (trial_curve grid i)
is-curve grid i p = record {
  one_length = length-sold grid.prices (selling i) ∙ sym (length-bought grid.prices (buying i));
  buy_limit = bought-small grid.prices (buying i) (light (i % 2 == 0) i) p;
  sell_limit = sold-small grid.prices (selling i) (light-else (i % 2 == 0) i) p;
  buy_never_rises = bought-falls grid.prices (buying i);
  sell_never_falls = sold-rises grid.prices (selling i);
}

pub is-of-grid : (grid : Grid) (i : ℕ) → IsOfGrid grid (trial_curve grid i)
is-of-grid grid i = record {
  buy_length = length-bought grid.prices (buying i);
  sell_length = length-sold grid.prices (selling i);
}

-- and so are lists that are made by the rule
pub made : (grid : Grid) (i prices b s : ℕ) (buy sell : List ℕ) → prices ≡ grid.prices → b ≡ buying i → s ≡ selling i →
    buy ≡ bought prices b →
    sell ≡ sold prices s → grid.prices ≤ MOST_PRICES →
    IsOfGrid grid (record { buy = buy; sell = sell }) × IsCurve (record { buy = buy; sell = sell })
made grid i prices b s buy sell p e f g h limit =
    let same : record { buy = buy; sell = sell } ≡ trial_curve grid i = cc in
    rw same (is-of-grid grid i, is-curve grid i limit)

-- one more place
pub bought-more : (quantities : List ℕ) (prices weight place : ℕ) → quantities ≡ map (λ k. weight * (prices - k)) (range_with_len 0 place) →
    quantities ++ (weight * (prices - place)) ∷ [] ≡ map (λ k. weight * (prices - k)) (range_with_len 0 (place + 1))
bought-more quantities prices weight place e =
    rw (e, map-range_with_len_more (λ k. weight * (prices - k)) 0 place place (omega arith)) refl

pub sold-more : (quantities : List ℕ) (weight place : ℕ) → quantities ≡ map (λ k. weight * k) (range_with_len 0 place) →
    quantities ++ (weight * place) ∷ [] ≡ map (λ k. weight * k) (range_with_len 0 (place + 1))
sold-more quantities weight place e = rw (e, map-range_with_len_more (λ k. weight * k) 0 place place (omega arith)) refl

-- the curves come again
again : (grid : Grid) (i : ℕ) → trial_curve grid (i % PERIOD) ≡ trial_curve grid i
again grid i =
    let weights : i % PERIOD % 7 ≡ i % 7 = omega arith in
    let sides : i % PERIOD % 2 ≡ i % 2 = omega arith in
    rw (weights, sides) refl

pub length-curves : (grid : Grid) → length (trial_curves grid) ≡ PERIOD
unfolding trial_curves
length-curves grid = length-map-range_with_len (trial_curve grid) 0 PERIOD

pub curve-at : (grid : Grid) (curves : List Curve) (i : ℕ) (d : Curve) → curves ≡ trial_curves grid →
    get_or curves (i % PERIOD) d ≡ trial_curve grid i
unfolding trial_curves
curve-at grid curves i d e =
    let lt : i % PERIOD < PERIOD = omega arith in
    rw e (get_or-map-range_with_len (trial_curve grid) 0 PERIOD (i % PERIOD) (i % PERIOD) d lt (omega arith)) ∙ again grid i

pub curves-all : (grid : Grid) → map (trial_curve grid) (range_with_len 0 PERIOD) ≡ trial_curves grid
unfolding trial_curves
curves-all grid = refl

pub curves-more : (grid : Grid) (curves : List Curve) (i : ℕ) → curves ≡ map (trial_curve grid) (range_with_len 0 i) →
    curves ++ trial_curve grid i ∷ [] ≡ map (trial_curve grid) (range_with_len 0 (i + 1))
curves-more grid curves i e = rw (e, map-range_with_len_more (trial_curve grid) 0 i i (omega arith)) refl
