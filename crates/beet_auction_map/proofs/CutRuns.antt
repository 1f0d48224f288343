-- The auction of a book goes on the words that are read for it.
use Rattle.std.proofs.Common.{◌≡◌, ◌≤◌, ◌<◌, ◌+◌, ◌*◌, ◌%◌, ℕ, List, [], ◌∷◌, map, take, drop, length, refl, sym, ap, ◌∙◌}
use Rattle.std.proofs.Common.{arith, length-append, length-drop}
use Rattle.std.specs.Prelude.{All, sum_by}
use Rattle.std.proofs.lemmas.List.{length-take-le}
use Rattle.std.proofs.lemmas.List.Elements.{All-cons, All-head, All-tail}
use Rattle.std.proofs.lemmas.List.Sums.{sum_by-cons}
use Rattle.beet_field.specs.Field.{p}
use Rattle.beet_field.specs.Trio.{member}
use Rattle.beet_field.specs.declared.point.Point.{Point}
use Rattle.beet_field.specs.declared.point.Point.TheVariants.{One, Two, Three}
use Rattle.beet_shamir.specs.Line.{point_of}
use Rattle.beet_words.specs.Bundles.{Words}
use Rattle.beet_gates.specs.Each.{each}
use Rattle.beet_gates.proofs.EachFacts.{each-same, length-each}
use Rattle.beet_bids.specs.Books.{Book}
use Rattle.beet_bids.specs.Curves.{quantity}
use Rattle.beet_bids.specs.declared.book.Bidder.{Bidder}
use Rattle.beet_plan.specs.Auction.{auction_over, most_wires}
use Rattle.beet_plan.specs.Kept.{words_kept}
use Rattle.beet_plan.proofs.AuctionLaw.{auction-law}
use Rattle.beet_masking.specs.declared.TheConstants.{SPARE_WORDS}
use Rattle.beet_book.specs.Farmers.{BidderWithWords, book_inputs, farmers_of, point_for, summed_point}
use Rattle.beet_book.specs.Totals.{supply_first}
use Rattle.beet_trades.specs.Enough.{HasAccepted}
use Rattle.beet_trades.proofs.Drawn.{accepted-read}
use Rattle.beet_trades.proofs.ReadRuns.{Reads}
use Rattle.beet_auction_map.specs.Enough.{AreEnough, wants_over}
use Rattle.beet_auction_map.specs.MappedWords.{trade_of}

-- a bidder with the words that are read
abbrev pub cut : ℕ → BidderWithWords → BidderWithWords
cut wanted farmer = record { bidder = farmer.bidder; words = take (wanted + SPARE_WORDS) farmer.words }

pub point-cut : (wanted : ℕ) (farmer : BidderWithWords) → HasAccepted wanted farmer.words → (i : Point) (n : ℕ) → n < wanted →
    point_for (cut wanted farmer) i n ≡ point_for farmer i n
point-cut wanted farmer h i n lt = λ x. point_of (quantity farmer.bidder.curve n) (accepted-read wanted farmer.words h n lt x) i

pub farmers-cut : (wanted : ℕ) (bidders : List Bidder) (words : List (List ℕ)) →
    farmers_of bidders (map (take (wanted + SPARE_WORDS)) words) ≡ map (cut wanted) (farmers_of bidders words)
farmers-cut wanted [] words = refl
farmers-cut wanted (b ∷ bs) [] = refl
farmers-cut wanted (b ∷ bs) (w ∷ ws) = ap (λ l. record { bidder = b; words = take (wanted + SPARE_WORDS) w } ∷ l) (farmers-cut wanted bs ws)

-- what is true of each list is true of the words of each bidder
pub farmers-have : (P : List ℕ → Type 0) (bidders : List Bidder) (words : List (List ℕ)) → All P words →
    All (λ (f : BidderWithWords). P f.words) (farmers_of bidders words)
farmers-have P [] words all = λ k d lt. absurd (omega arith)
farmers-have P (b ∷ bs) [] all = λ k d lt. absurd (omega arith)
farmers-have P (b ∷ bs) (w ∷ ws) all =
    All-cons (λ (f : BidderWithWords). P f.words) (record { bidder = b; words = w }) (farmers_of bs ws)
    (All-head P w ws all) (farmers-have P bs ws (All-tail P w ws all))

sum-cut : (wanted : ℕ) (farmers : List BidderWithWords) (i : Point) (n : ℕ) → n < wanted →
    All (λ (f : BidderWithWords). HasAccepted wanted f.words) farmers →
    sum_by (λ farmer. point_for farmer i n) (map (cut wanted) farmers) ≡ sum_by (λ farmer. point_for farmer i n) farmers
sum-cut wanted [] i n lt all = refl
sum-cut wanted (f ∷ fs) i n lt all =
    let here = point-cut wanted f (All-head (λ (f : BidderWithWords). HasAccepted wanted f.words) f fs all) i n lt in
    let rest = sum-cut wanted fs i n lt (All-tail (λ (f : BidderWithWords). HasAccepted wanted f.words) f fs all) in
    sum_by-cons (λ farmer. point_for farmer i n) (cut wanted f) (map (cut wanted) fs) ∙ (λ x. here x + rest x)
    ∙ sym (sum_by-cons (λ farmer. point_for farmer i n) f fs)

length-supply : (prices : ℕ) (f : ℕ → ℕ) → length (supply_first prices (each f (2 * prices))) ≡ 2 * prices
length-supply prices f =
    let xs = each f (2 * prices) in
    let many = length-each f (2 * prices) in
    let low : prices ≤ length xs = omega (arith, many) in
    omega (arith, length-append (drop prices xs) (take prices xs), length-drop prices xs, length-take-le prices xs low, many)

pub inputs-long : (prices : ℕ) (farmers : List BidderWithWords) (i : Point) → length (member (book_inputs prices farmers) i) ≡ 2 * prices
inputs-long prices farmers One = length-supply prices (summed_point farmers One)
inputs-long prices farmers Two = length-supply prices (summed_point farmers Two)
inputs-long prices farmers Three = length-supply prices (summed_point farmers Three)

module _ (book : Book) (words : Words) (e : AreEnough book words) where
  point-inputs : (i : Point) →
      supply_first book.grid.prices (each (summed_point
      (farmers_of book.bidders (map (take (words_kept book.grid.prices)) words.bidders)) i) (2 * book.grid.prices))
      ≡ supply_first book.grid.prices (each (summed_point (farmers_of book.bidders words.bidders) i) (2 * book.grid.prices))
  point-inputs i =
      let wanted = 2 * book.grid.prices in
      let farmers = farmers_of book.bidders words.bidders in
      let read = farmers_of book.bidders (map (take (wanted + SPARE_WORDS)) words.bidders) in
      ap (supply_first book.grid.prices)
      (each-same (summed_point read i) (summed_point farmers i) wanted
      (λ n lt. ap (λ l. sum_by (λ farmer. point_for farmer i n) l % p) (farmers-cut wanted book.bidders words.bidders)
      ∙ ap (λ s. s % p) (sum-cut wanted farmers i n lt (farmers-have (HasAccepted wanted) book.bidders words.bidders e.bidders))))

  -- the auction goes on the words that are read
  pub reads : Reads (trade_of book) (wants_over book.grid) words
  reads = record {
    wires = most_wires (auction_over book.grid);
    count = 2 * book.grid.prices;
    parties = length book.bidders;
    law = auction-law (auction_over book.grid);
    long = inputs-long book.grid.prices (farmers_of book.bidders words.bidders);
    same = λ x. record { one = point-inputs One x; two = point-inputs Two x; three = point-inputs Three x };
    enough = e;
  }
