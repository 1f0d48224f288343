-- The two words of a trial: how many bidders and how many prices.
use Rattle.std.specs.Prelude.{ℕ, ◌≤◌, nat_lt, if◌then◌else◌, List, Option, Some, None, Result, Ok, Err, option_map}
use Rattle.std.specs.Prelude.{option_and_then}
use Rattle.beet_forms.specs.Numbers.{number_of}
use Rattle.beet_forms.specs.declared.decimals.NumberFault.{NumberFault}
use Rattle.beet_words.specs.declared.bundle.TheConstants.{MOST_BIDDERS}
use Rattle.beet_bids.specs.declared.grid.TheConstants.{MOST_PRICES}

-- at most 2,000 bidders, and 1 to 4,096 prices
pub record AreSizes (bidders prices : ℕ) : Type 0 where
  pub few : bidders ≤ MOST_BIDDERS
  pub prices_some : 1 ≤ prices
  pub prices_limit : prices ≤ MOST_PRICES

-- the number that was read, if it is not below the lowest
abbrev pub from_low : ℕ → Result ℕ NumberFault → Option ℕ
from_low low (Ok n) = if nat_lt n low then None else Some n
from_low low (Err fault) = None

-- the number from the lowest to the highest that a word writes, or none
abbrev pub number_within : ℕ → ℕ → List ℕ → Option ℕ
number_within low high word = from_low low (number_of word high)

-- the numbers of bidders and of prices that two words write, or none
abbrev pub sizes_of : List ℕ → List ℕ → Option (ℕ × ℕ)
sizes_of bidders prices =
    option_and_then (λ count. option_map (λ places. (count, places)) (number_within 1 MOST_PRICES prices))
    (number_within 0 MOST_BIDDERS bidders)
