-- Books with equal outcomes: the clearing place, and what the policy shows of it.
use Rattle.std.proofs.Common.{◌≡◌, ℕ, ◌<◌, List, [], ◌++◌, slice_get, Option, Some, None, refl, sym, ap, ◌∙◌, arith}
use Rattle.std.specs.Prelude.{option_to_list, unwrap_or}
use Rattle.beet_field.specs.declared.point.Point.{Point}
use Rattle.beet_bids.specs.Books.{Book}
use Rattle.beet_bids.specs.Grids.{Grid}
use Rattle.beet_bids.specs.Sums.{supply_at, demand_at}
use Rattle.beet_bids.specs.Outcomes.{outcome_at, outcome_of, clearing_place, reached_place, shown_by}
use Rattle.beet_bids.specs.declared.outcomes.Policy.{Policy}
use Rattle.beet_bids.specs.declared.outcomes.Policy.TheVariants.{Price as PriceAlone, Volume, Full}
use Rattle.beet_bids.specs.declared.outcomes.Outcome.{Outcome}
use Rattle.beet_bids.specs.declared.outcomes.Outcome.TheVariants.{Price, No}
use Rattle.beet_two_books.specs.Agreement.{Agree}

abbrev place_in : Outcome → ℕ → ℕ
place_in (Price place price volume supply) none = place
place_in No none = none

-- the numbers that an outcome tells of its place
abbrev told_in : Outcome → List ℕ
told_in (Price place price volume supply) = option_to_list volume ++ option_to_list supply
told_in No = []

-- the first and the second of the numbers that a policy shows are all of them
all-shown : (policy : Policy) (demand supply : ℕ) →
    let shown = shown_by policy demand supply in option_to_list (slice_get shown 0) ++ option_to_list (slice_get shown 1) ≡ shown
all-shown PriceAlone demand supply = refl
all-shown Volume demand supply = refl
all-shown Full demand supply = refl

-- what a policy shows of a place of a book
abbrev pub shown_at : Policy → Book → ℕ → List ℕ
shown_at policy book place = shown_by policy (demand_at book.bidders place) (supply_at book.bidders place)

module _ (book : Book) where
  place-at : (o : Option ℕ) → place_in (outcome_at book o) book.grid.prices ≡ unwrap_or o book.grid.prices
  place-at None = refl
  place-at (Some z) = refl

  told-at : (o : Option ℕ) → unwrap_or o book.grid.prices < book.grid.prices →
      told_in (outcome_at book o) ≡ shown_at book.grid.policy book (unwrap_or o book.grid.prices)
  told-at None h = absurd (omega arith)
  told-at (Some z) h = all-shown book.grid.policy (demand_at book.bidders z) (supply_at book.bidders z)

-- two books over one grid with the same outcome
module _ (first second : Book) (grids : second.grid ≡ first.grid) (outcomes : outcome_of second ≡ outcome_of first) where
  pub prices-alike : second.grid.prices ≡ first.grid.prices
  prices-alike = ap (λ (g : Grid). g.prices) grids

  pub clearing-alike : clearing_place second ≡ clearing_place first
  clearing-alike =
      sym (place-at second (reached_place second)) ∙ (λ i. place_in (outcomes i) (prices-alike i)) ∙ place-at first (reached_place first)

  pub shown-alike : clearing_place first < first.grid.prices →
      shown_at first.grid.policy second (clearing_place first) ≡ shown_at first.grid.policy first (clearing_place first)
  shown-alike h =
      let h' : clearing_place second < second.grid.prices = omega (arith, clearing-alike, prices-alike) in
      sym (λ i. shown_at (grids i).policy second (clearing-alike i)) ∙ sym (told-at second (reached_place second) h')
      ∙ ap told_in outcomes ∙ told-at first (reached_place first) h

module _ (s : Point) (first second : Book) (a : Agree s first second) where
  pub prices-same : second.grid.prices ≡ first.grid.prices
  prices-same = prices-alike first second a.grids a.outcomes

  pub clearing-same : clearing_place second ≡ clearing_place first
  clearing-same = clearing-alike first second a.grids a.outcomes

  pub shown-same : clearing_place first < first.grid.prices →
      shown_at first.grid.policy second (clearing_place first) ≡ shown_at first.grid.policy first (clearing_place first)
  shown-same = shown-alike first second a.grids a.outcomes
