-- The lines of a book's inputs are there.
use Rattle.std.proofs.Common.{◌≡◌, ◌+◌, ◌*◌, ◌++◌, ℕ, List, length, map, slice_index, refl, sym, subst, ◌∙◌}
use Rattle.std.proofs.lemmas.List.{map-append}
use Rattle.beet_field.specs.Field.{IsElement}
use Rattle.beet_shamir.specs.declared.Line.{Line}
use Rattle.beet_gates.specs.Each.{each}
use Rattle.beet_gates.proofs.EachFacts.{map-each}
use Rattle.beet_bids.specs.Books.{Book, IsBook}
use Rattle.beet_bids.specs.Sums.{demand_at, supply_at, sums_of}
use Rattle.beet_bids.proofs.BookSums.{sums-elements}
use Rattle.beet_map.proofs.Places.{element-at}
use Rattle.beet_map.specs.Secrets.{values_of}
use Rattle.beet_auction_map.specs.InputLines.{AreInputLines, summed_slope}
use Rattle.beet_auction_map.proofs.InputFacts.{input-lines}

module _ (book : Book) (words : List (List ℕ)) where
  abbrev sums : List ℕ
  sums = each (summed_slope words) (2 * book.grid.prices)

  abbrev supply_line : ℕ → Line
  supply_line k = record { value = supply_at book.bidders k; slope = slice_index sums (book.grid.prices + k) }

  abbrev demand_line : ℕ → Line
  demand_line k = record { value = demand_at book.bidders k; slope = slice_index sums k }

  abbrev pub lines_of : List Line
  lines_of = each supply_line book.grid.prices ++ each demand_line book.grid.prices

  lines-by : (f : Line → ℕ) →
      map f lines_of ≡ each (λ k. f (supply_line k)) book.grid.prices ++ each (λ k. f (demand_line k)) book.grid.prices
  lines-by f =
      let n : ℕ = book.grid.prices in
      map-append f (each supply_line n) (each demand_line n) ∙ (λ i. map-each f supply_line n i ++ map-each f demand_line n i)

  pub lines-there : IsBook book → length words ≡ length book.bidders → AreInputLines book words lines_of
  lines-there b count = input-lines book words lines_of sums b count refl (lines-by (λ (l : Line). l.value))
      (lines-by (λ (l : Line). l.slope))

pub values-small : (book : Book) (words : List (List ℕ)) (lines : List Line) → IsBook book → AreInputLines book words lines →
    (k : ℕ) → IsElement (slice_index (values_of lines) k)
values-small book words lines b are k =
    subst (λ l. IsElement (slice_index l k)) (sym are.values) (element-at (sums_of book) (sums-elements book b) k)
