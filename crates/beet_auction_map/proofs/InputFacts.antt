-- The lines of a book's inputs.
use Rattle.std.proofs.Common.{◌≡◌, ◌≤◌, ◌<◌, ◌+◌, ◌*◌, ◌%◌, ℕ, zero, suc, List, [], ◌∷◌, ◌++◌, map, take, drop, length}
use Rattle.std.proofs.Common.{get_or, slice_index, refl, sym, ap, ◌∙◌, arith, append_assoc, length-drop}
use Rattle.std.specs.Prelude.{sum_by}
use Rattle.std.proofs.lemmas.List.{ext_get_or, map-append, take_all, get_or-drop, get_or-take, length-map, length-take-le}
use Rattle.std.proofs.lemmas.List.Sums.{sum_by-cons, sum_by_more}
use Rattle.beet_field.specs.Field.{p, add_of}
use Rattle.beet_field.specs.Trio.{member}
use Rattle.beet_field.specs.declared.point.Point.{Point}
use Rattle.beet_shamir.specs.Line.{point_of}
use Rattle.beet_shamir.specs.declared.Line.{Line}
use Rattle.beet_words.specs.Words.{accepted}
use Rattle.beet_gates.specs.Each.{each}
use Rattle.beet_gates.proofs.EachFacts.{each-more, each-same, item-each, length-each}
use Rattle.beet_bids.specs.Books.{Book, IsBook}
use Rattle.beet_bids.specs.Sums.{supply_at, demand_at, sums_of}
use Rattle.beet_bids.specs.declared.book.Bidder.{Bidder}
use Rattle.beet_bids.proofs.BookSums.{length-sums}
use Rattle.beet_book.specs.Totals.{supply_first}
use Rattle.beet_sharing.specs.Lines.{OnLines}
use Rattle.beet_book.specs.Farmers.{book_inputs, book_with, slope_for, farmers_of}
use Rattle.beet_auction.proofs.BookLines.{book-lines, slopes_of}
use Rattle.beet_auction_map.specs.InputLines.{AreInputLines, summed_slope}
use Rattle.beet_book.proofs.FarmerLists.{farmers-bidders}

-- sums item by item
pub sums-all : (items : List ℕ) (words : List (List ℕ)) (count i : ℕ) → length items ≡ count → length words ≤ i →
    ((k : ℕ) → k < count → slice_index items k ≡ summed_slope (take i words) k) → items ≡ each (summed_slope words) count
sums-all items words count i long past h =
    let whole : take i words ≡ words = take_all i words past in
    ext_get_or 0 items (each (summed_slope words) count) (long ∙ sym (length-each (summed_slope words) count))
    (λ k lt.
    let l : k < count = omega (arith, long) in
    h k l ∙ ap (λ w. summed_slope w k) whole ∙ sym (item-each (summed_slope words) count k l))

-- the words of one bidder more
pub sums-more : (words : List (List ℕ)) (list : List ℕ) (i k sum more : ℕ) → i < length words → list ≡ get_or words i list →
    sum ≡ summed_slope (take i words) k → more ≡ add_of sum (slice_index (accepted list) k) → more ≡ summed_slope (take (i + 1) words) k
sums-more words list i k sum more lt is so_far added =
    let slope : List ℕ → ℕ = λ l. slice_index (accepted l) k in
    let all = sum_by_more slope words i list lt in
    let here : slope list ≡ slope (get_or words i list) = ap slope is in
    omega (arith, so_far, added, all, here)

-- one line more
pub lines-more : (lines after : List Line) (vs ss : List ℕ) (f g : ℕ → ℕ) (k value slope : ℕ) →
    map (λ (l : Line). l.value) lines ≡ vs ++ each f k →
    map (λ (l : Line). l.slope) lines ≡ ss ++ each g k → after ≡ lines ++ record { value = value; slope = slope } ∷ [] →
    value ≡ f k → slope ≡ g k →
    (map (λ (l : Line). l.value) after ≡ vs ++ each f (k + 1)) × (map (λ (l : Line). l.slope) after ≡ ss ++ each g (k + 1))
lines-more lines after vs ss f g k value slope v s new e d =
    let line : Line = record { value = value; slope = slope } in (
      ap (map (λ (l : Line). l.value)) new ∙ map-append (λ (l : Line). l.value) lines (line ∷ [])
          ∙ (λ j. v j ++ e j ∷ []) ∙ append_assoc vs (each f k) (f k ∷ [])
          ∙ ap (λ l. vs ++ l) (sym (each-more f k)),
      ap (map (λ (l : Line). l.slope)) new ∙ map-append (λ (l : Line). l.slope) lines (line ∷ [])
          ∙ (λ j. s j ++ d j ∷ []) ∙ append_assoc ss (each g k) (g k ∷ [])
          ∙ ap (λ l. ss ++ l) (sym (each-more g k)),
    )

sums-each : (book : Book) → each (supply_at book.bidders) book.grid.prices ++ each (demand_at book.bidders) book.grid.prices ≡ sums_of book
unfolding each
sums-each book = refl

-- supply comes first
supply-each : (prices : ℕ) (xs : List ℕ) → length xs ≡ 2 * prices →
    each (λ k. slice_index xs (prices + k)) prices ++ each (slice_index xs) prices ≡ supply_first prices xs
supply-each prices xs h =
    let back : each (λ k. slice_index xs (prices + k)) prices ≡ drop prices xs =
    ext_get_or 0 (each (λ k. slice_index xs (prices + k)) prices) (drop prices xs)
    (omega (arith, length-each (λ k. slice_index xs (prices + k)) prices, length-drop prices xs))
    (λ k lt. item-each (λ k. slice_index xs (prices + k)) prices k
    (omega (arith, length-each (λ k. slice_index xs (prices + k)) prices)) ∙ sym (get_or-drop prices xs k 0)) in
    let front : each (slice_index xs) prices ≡ take prices xs =
    ext_get_or 0 (each (slice_index xs) prices) (take prices xs)
    (omega (arith, length-each (slice_index xs) prices, length-take-le prices xs (omega arith)))
    (λ k lt.
    let l : k < prices = omega (arith, length-each (slice_index xs) prices) in
    item-each (slice_index xs) prices k l ∙ sym (get_or-take prices xs k 0 l)) in
    λ j. back j ++ front j

slopes-summed : (bidders : List Bidder) (words : List (List ℕ)) (n : ℕ) → length words ≡ length bidders →
    sum_by (λ farmer. slope_for farmer n) (farmers_of bidders words) ≡ sum_by (λ list. slice_index (accepted list) n) words
slopes-summed [] [] n e = refl
slopes-summed [] (w ∷ ws) n e = absurd (omega arith)
slopes-summed (b ∷ bs) [] n e = absurd (omega arith)
slopes-summed (b ∷ bs) (w ∷ ws) n e =
    let rest = slopes-summed bs ws n (let l : length ws ≡ length bs = omega arith in l) in
    sum_by-cons (λ farmer. slope_for farmer n) (record { bidder = b; words = w }) (farmers_of bs ws)
    ∙ ap (λ k. slice_index (accepted w) n + k) rest ∙ sym (sum_by-cons (λ list. slice_index (accepted list) n) w ws)

-- the points of lines, by their values and slopes
point-item : (lines : List Line) (i : Point) (w : ℕ) → w < length lines →
    slice_index (map (λ (l : Line). point_of l.value l.slope i) lines) w
    ≡ point_of (slice_index (map (λ (l : Line). l.value) lines) w) (slice_index (map (λ (l : Line). l.slope) lines) w) i
point-item [] i w h = absurd (omega arith)
point-item (l ∷ ls) i zero h = refl
point-item (l ∷ ls) i (suc w) h = point-item ls i w (omega arith)

pub input-lines : (book : Book) (words : List (List ℕ)) (lines : List Line) (sums : List ℕ) → IsBook book →
    length words ≡ length book.bidders →
    sums ≡ each (summed_slope words) (2 * book.grid.prices) →
    map (λ (l : Line). l.value) lines ≡ each (supply_at book.bidders) book.grid.prices ++ each (demand_at book.bidders) book.grid.prices →
    map (λ (l : Line). l.slope) lines
    ≡ each (λ k. slice_index sums (book.grid.prices + k)) book.grid.prices ++ each (slice_index sums) book.grid.prices →
    AreInputLines book words lines
input-lines book words lines sums b count are v s =
    let prices = book.grid.prices in
    let farmers = farmers_of book.bidders words in
    let long : length sums ≡ 2 * prices = ap length are ∙ length-each (summed_slope words) (2 * prices) in
    let values : map (λ (l : Line). l.value) lines ≡ sums_of book = v ∙ sums-each book in
    let slopes : map (λ (l : Line). l.slope) lines ≡ supply_first prices (each (summed_slope words) (2 * prices)) =
    s ∙ supply-each prices sums long ∙ ap (supply_first prices) are in
    let bidders : map (λ farmer. farmer.bidder) farmers ≡ book.bidders = sym (farmers-bidders book.bidders words count) in
    let whole : book_with book.grid farmers ≡ book = λ j. record { grid = book.grid; bidders = bidders j } in
    let is_book : IsBook (book_with book.grid farmers) = rw whole b in
    let on : OnLines (sums_of (book_with book.grid farmers)) (slopes_of book.grid farmers)
    (book_inputs prices farmers) = book-lines book.grid farmers is_book in
    let same_slopes : slopes_of book.grid farmers ≡ supply_first prices (each (summed_slope words) (2 * prices)) =
    ap (supply_first prices) (each-same (λ n. sum_by (λ farmer. slope_for farmer n) farmers % p) (summed_slope words)
    (2 * prices) (λ n lt. ap (λ k. k % p) (slopes-summed book.bidders words n count))) in
    let same_values : sums_of (book_with book.grid farmers) ≡ sums_of book = ap sums_of whole in
    let many : length lines ≡ 2 * prices = sym (length-map lines (λ (l : Line). l.value)) ∙ ap length values ∙ length-sums book in
    record {
      values = values;
      slopes = slopes;
      points = λ i.
          let n = length-map lines (λ (l : Line). point_of l.value l.slope i) in
          let m : length (member (book_inputs prices farmers) i) ≡ 2 * prices = on.lengths i ∙ ap length same_values ∙ length-sums book in
          ext_get_or 0 (map (λ (l : Line). point_of l.value l.slope i) lines) (member (book_inputs prices farmers) i) (n ∙ many ∙ sym m)
          (λ w lt.
          point-item lines i w (omega (arith, n))
          ∙ (λ j. point_of (slice_index ((values ∙ sym same_values) j) w) (slice_index ((slopes ∙ sym same_slopes) j) w) i)
          ∙ sym (on.points i w));
    }
