-- The lines on which the inputs of a book's auction lie.
use Rattle.std.specs.Prelude.{◌≡◌, ◌*◌, ◌%◌, ℕ, List, map, slice_index, sum_by}
use Rattle.beet_field.specs.Field.{p}
use Rattle.beet_field.specs.Trio.{member}
use Rattle.beet_field.specs.declared.point.Point.{Point}
use Rattle.beet_shamir.specs.Line.{point_of}
use Rattle.beet_shamir.specs.declared.Line.{Line}
use Rattle.beet_words.specs.Words.{accepted}
use Rattle.beet_gates.specs.Each.{each}
use Rattle.beet_bids.specs.Books.{Book}
use Rattle.beet_bids.specs.Sums.{sums_of}
use Rattle.beet_book.specs.Totals.{supply_first}
use Rattle.beet_book.specs.Farmers.{book_inputs, farmers_of}

-- the sum of the slopes for the n-th quantity of all bidders with these words
abbrev pub summed_slope : List (List ℕ) → ℕ → ℕ
summed_slope words n = sum_by (λ list. slice_index (accepted list) n) words % p

-- a line for each input: its value is the book's sum, its slope the sum of the bidders' slopes, and its points are the
-- inputs
pub record AreInputLines (book : Book) (words : List (List ℕ)) (lines : List Line) : Type 0 where
  pub values : map (λ l. l.value) lines ≡ sums_of book
  pub slopes : map (λ l. l.slope) lines
      ≡ supply_first book.grid.prices (each (summed_slope words) (2 * book.grid.prices))
  pub points : (i : Point) →
      map (λ l. point_of l.value l.slope i) lines
      ≡ member (book_inputs book.grid.prices (farmers_of book.bidders words)) i
