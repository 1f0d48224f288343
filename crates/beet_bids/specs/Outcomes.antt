-- The outcome of a book: the first price at which supply reaches demand, with what the policy of its grid opens there.
use Rattle.std.specs.Prelude.{ℕ, Bool, List, [], ◌∷◌, Option, None, Some, nat_le, find, slice_get, unwrap_or}
use Rattle.beet_bids.specs.Grids.{places_of, price_of}
use Rattle.beet_bids.specs.Books.{Book}
use Rattle.beet_bids.specs.Sums.{supply_at, demand_at}
use Rattle.beet_bids.specs.declared.outcomes.Policy.{Policy}
use Rattle.beet_bids.specs.declared.outcomes.Policy.TheVariants.{Price as PriceAlone, Volume, Full}
use Rattle.beet_bids.specs.declared.outcomes.Outcome.{Outcome}
use Rattle.beet_bids.specs.declared.outcomes.Outcome.TheVariants.{Price, No}

-- of the demand and the supply at the place of the price, those that a policy opens: none, the demand, or both, the
-- demand first
abbrev pub shown_by : {A : Type 0} → Policy → A → A → List A
shown_by PriceAlone demand supply = []
shown_by Volume demand supply = demand ∷ []
shown_by Full demand supply = demand ∷ supply ∷ []

-- whether supply reaches demand at a place
abbrev pub is_reached : Book → ℕ → Bool
is_reached book place = nat_le (demand_at book.bidders place) (supply_at book.bidders place)

-- the first of all places at which it does
abbrev pub reached_place : Book → Option ℕ
reached_place book = find (is_reached book) (places_of book.grid)

-- the same place, or the number of places if there is none
abbrev pub clearing_place : Book → ℕ
clearing_place book = unwrap_or (reached_place book) book.grid.prices

-- the outcome with this place; of the numbers that are opened there the first is the volume, and the second the supply
abbrev pub outcome_at : Book → Option ℕ → Outcome
outcome_at book None = No
outcome_at book (Some place) =
    let shown = shown_by book.grid.policy (demand_at book.bidders place) (supply_at book.bidders place) in
    Price place (price_of book.grid place) (slice_get shown 0) (slice_get shown 1)

abbrev pub outcome_of : Book → Outcome
outcome_of book = outcome_at book (reached_place book)
