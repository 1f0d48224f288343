-- How the outcome of a book is told by the search.
use Rattle.std.proofs.Common.{◌≡◌, ℕ, ◌<◌, true, false, Option, Some, None, refl, arith}
use Rattle.std.specs.Prelude.{unwrap_or, nat_lt}
use Rattle.std.proofs.lemmas.Bool.Decides.{nat_tests}
use Rattle.beet_bids.specs.Books.{Book}
use Rattle.beet_bids.specs.Sums.{supply_at, demand_at}
use Rattle.beet_bids.specs.Outcomes.{reached_place, clearing_place, outcome_at, outcome_of, shown_by}
use Rattle.beet_bids.proofs.BookSums.{reached-within}
use Rattle.beet_plan.specs.Auction.{price_with}
use Rattle.beet_plan.specs.Runs.{found, finish_of}

-- the finish at the clearing place tells the outcome
pub found-outcome : (book : Book) (supply demand : ℕ → ℕ) → ((k : ℕ) → k < book.grid.prices → supply k ≡ supply_at book.bidders k) →
    ((k : ℕ) → k < book.grid.prices → demand k ≡ demand_at book.bidders k) →
    found book.grid.policy book.grid.prices supply demand (clearing_place book) ≡ finish_of (outcome_of book)
found-outcome book supply demand sold bought = by_place (reached_place book) refl where
  by_place : (o : Option ℕ) → reached_place book ≡ o →
      found book.grid.policy book.grid.prices supply demand (unwrap_or o book.grid.prices) ≡ finish_of (outcome_at book o)
  by_place None e = let t : nat_lt book.grid.prices book.grid.prices ≡ false = grind (arith, nat_tests) in rw t refl
  by_place (Some z) e =
      let h : z < book.grid.prices = reached-within book z e in
      let t : nat_lt z book.grid.prices ≡ true = grind (arith, nat_tests) in
      rw t (λ i. price_with z (shown_by book.grid.policy (bought z h i) (sold z h i)))
