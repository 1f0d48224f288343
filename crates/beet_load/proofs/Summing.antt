-- The points of all bidders, added up; those at an auction of one price, opened.
use Rattle.std.proofs.Common.{◌≡◌, ◌≤◌, ◌<◌, ℕ, ◌+◌, ◌*◌, ◌%◌, List, [], ◌∷◌, ◌++◌, length, map, drop, get_or, Option}
use Rattle.std.proofs.Common.{All, Ok, Err, arith, refl, sym, ap, ◌∙◌, length-append}
use Rattle.std.proofs.lemmas.List.{map-append, drop_more}
use Rattle.std.proofs.lemmas.Grind.{common_steps}
use Rattle.std.proofs.lemmas.List.Elements.{All-append}
use Rattle.std.specs.Prelude.{sum_by, slice_index}
use Rattle.std.proofs.lemmas.List.Sums.{sum_by-append, sum_by-le}
use Rattle.beet_field.specs.Field.{p}
use Rattle.beet_field.specs.declared.trio.Trio.{Trio}
use Rattle.beet_shamir.specs.Line.{recombined}
use Rattle.beet_store.specs.Files.{Seen}
use Rattle.beet_bids.specs.Grids.{Grid}
use Rattle.beet_bids.specs.Curves.{Curve, IsCurve, IsOfGrid}
use Rattle.beet_bids.specs.declared.curve.TheConstants.{LARGEST_QUANTITY}
use Rattle.beet_bids.specs.Sums.{supply_at, demand_at}
use Rattle.beet_book.specs.declared.entries.Entry.{Entry}
use Rattle.beet_book.specs.Dealing.{quantities}
use Rattle.beet_book.specs.Totals.{Totals, AddsQuantities, none_of, points_on, summed_quantities, CarriesValues}
use Rattle.beet_book.proofs.Summed.{shares-none, summed-more, supply-recombined, demand-recombined}
use Rattle.beet_load.specs.Collecting.{curves_of, AddsFarmers, AreCollected}
use Rattle.beet_load.specs.declared.wanted.Wanted.{Wanted}
use Rattle.beet_load.specs.Farmers.{list_at, farmer_errand, farmers_errand, bidders_of}
use Rattle.beet_book.specs.Farmers.{BidderWithWords}
use Rattle.beet_errand.specs.Fetches.{ReadsFor}
use Rattle.beet_errand.specs.declared.answer.Stop.{Stop}
use Rattle.beet_errand.proofs.Frame.{Reached, reached_none, reached_more, reached_last, stopped}
use Rattle.beet_words.specs.declared.bundle.TheConstants.{MOST_BIDDERS}

-- so many bidders are read, and the points of their quantities are added up
pub record Collects (wanted : Wanted) (grid : Grid) (lists : Option (List (List ℕ))) (entries rest : List Entry)
    (old now : Seen) (totals : Totals) (count : ℕ) : Type 0 where
  pub farmers : List BidderWithWords
  pub read : Reached old now (farmers_errand wanted grid lists [] entries)
      (farmers_errand wanted grid lists farmers rest)
  pub many : length farmers ≡ count
  pub adds : AddsFarmers grid totals farmers

-- the points of the quantities of one bidder are added
pub record AddsFarmer (grid : Grid) (before after : Totals) (farmer : BidderWithWords) : Type 0 where
  pub of_grid : IsOfGrid grid farmer.bidder.curve
  pub curve : IsCurve farmer.bidder.curve
  pub values : AddsQuantities farmer.bidder.curve before.points after.points
  pub prices : after.prices ≡ before.prices

-- no bidder is read yet
pub collects_none : {wanted : Wanted} (grid : Grid) (lists : Option (List (List ℕ))) (entries : List Entry) (seen : Seen) →
    Collects wanted grid lists entries entries seen seen (none_of grid.prices) 0
collects_none grid lists entries seen = record {
  farmers = [];
  read = reached_none;
  many = refl;
  adds = record {
    shares = shares-none grid.prices;
    prices = refl;
    curves = λ i d h. absurd (omega arith);
    of_grid = λ i d h. absurd (omega arith);
  };
}

-- a list of one curve
one_curve : (P : Curve → Type 0) (curve : Curve) → P curve → All P (curve ∷ [])
one_curve P curve h = λ i d lt. let zero_only : i ≡ 0 = omega (arith, lt) in rw zero_only h

curves_more : (farmers : List BidderWithWords) (farmer : BidderWithWords) →
    curves_of (farmers ++ farmer ∷ []) ≡ curves_of farmers ++ farmer.bidder.curve ∷ []
curves_more farmers farmer = map-append (λ f. f.bidder.curve) farmers (farmer ∷ [])

-- one more bidder is dealt and added
adds_more : (grid : Grid) (before after : Totals) (farmers : List BidderWithWords) (farmer : BidderWithWords) →
    AddsFarmers grid before farmers → AddsFarmer grid before after farmer →
    AddsFarmers grid after (farmers ++ farmer ∷ [])
adds_more grid before after farmers farmer c a =
    let c' = farmer.bidder.curve in
    let long : length (quantities c') ≡ length c'.buy + length c'.sell = length-append c'.buy c'.sell in
    let more = curves_more farmers farmer in
    record {
      shares = rw (more, summed-more grid.prices (curves_of farmers) c' (omega (arith, long, a.of_grid.buy_length, a.of_grid.sell_length)))
          (a.values (summed_quantities grid.prices (curves_of farmers)) c.shares);
      prices = a.prices ∙ c.prices;
      curves = rw more (All-append IsCurve (curves_of farmers) (c' ∷ []) c.curves (one_curve IsCurve c' a.curve));
      of_grid = rw more (All-append (IsOfGrid grid) (curves_of farmers) (c' ∷ []) c.of_grid (one_curve (IsOfGrid grid) c' a.of_grid));
    }

-- past the end no entry is left
pub none_left : (entries : List Entry) (i : ℕ) → length entries ≤ i → drop i entries ≡ []
none_left entries i h = grind (arith, common_steps)

-- the entry at a place, before the rest
pub next_entry : (entries : List Entry) (i : ℕ) (entry : Entry) → i < length entries → entry ≡ get_or entries i entry →
    drop i entries ≡ entry ∷ drop (i + 1) entries
next_entry entries i entry h e = drop_more entries i entry h ∙ ap (λ x. x ∷ drop (i + 1) entries) (sym e)

module _ {wanted : Wanted} (grid : Grid) (lists : Option (List (List ℕ))) (entries : List Entry) (i : ℕ) (entry : Entry)
    (given : Option (List ℕ)) (old middle now : Seen)
    (before : Totals) (lt : i < length entries) (e : entry ≡ get_or entries i entry) (same : given ≡ list_at lists i)
    (h : Collects wanted grid lists entries (drop i entries) old middle before i) where
  collects_here : Collects wanted grid lists entries (entry ∷ drop (i + 1) entries) old middle before i
  collects_here = rw (next_entry entries i entry lt e) at h

  -- the bidder at a place is read and added
  pub collected_at : (after : Totals) →
      ReadsFor (λ (done : Unit {0}) farmer. AddsFarmer grid before after farmer) middle now
      (farmer_errand wanted grid given (i + 1) entry) (Ok tt) →
      Collects wanted grid lists entries (drop (i + 1) entries) old now after (i + 1)
  collected_at after r =
      let here = collects_here in
      let r' = rw (sym here.many) at (rw same at r) in
      let farmer = r'.gives.0 in
      let rest = λ (f : BidderWithWords). farmers_errand wanted grid lists (here.farmers ++ f ∷ []) (drop (i + 1) entries) in
      record {
        farmers = here.farmers ++ farmer ∷ [];
        read = reached_more rest here.read r';
        many = length-append here.farmers (farmer ∷ []) ∙ ap (λ n. n + 1) here.many;
        adds = adds_more grid before after here.farmers farmer here.adds r'.gives.1;
      }

  -- the bidder at a place stops the job
  pub stopped_at : {T U : Type 0} {shows : T → BidderWithWords → Type 0} {last : U → List BidderWithWords → Type 0} (stop : Stop) →
      ReadsFor shows middle now (farmer_errand wanted grid given (i + 1) entry) (Err stop) →
      ReadsFor last old now (farmers_errand wanted grid lists [] entries) (Err stop)
  stopped_at stop r =
      let here = collects_here in
      let rest = λ (f : BidderWithWords). farmers_errand wanted grid lists (here.farmers ++ f ∷ []) (drop (i + 1) entries) in
      reached_last here.read (stopped {rest = rest} (rw (sym here.many) at (rw same at r)))

-- all bidders are read and added
pub all_collected : {wanted : Wanted} {grid : Grid} {
    lists : Option (List (List ℕ))} {entries : List Entry} {old now : Seen} {totals : Totals} (i : ℕ) →
    i ≤ length entries → length entries ≤ i → Collects wanted grid lists entries (drop i entries) old now totals i →
    ReadsFor (AreCollected grid entries) old now (farmers_errand wanted grid lists [] entries) (Ok totals)
all_collected {entries = entries} i le ge c =
    let h = rw (none_left entries i ge) at c in
    let many = h.many in
    record {
      gives = (h.farmers, record { many = omega arith; adds = h.adds }, h.read.went);
      cause = h.read.kept;
      later = omega (arith, h.read.kept);
    }

-- a sum over what a function gives
pub sum_map : {A B : Type 0} (f : B → ℕ) (g : A → B) (xs : List A) → sum_by f (map g xs) ≡ sum_by (λ x. f (g x)) xs
sum_map f g [] = refl
sum_map f g (x ∷ xs) =
    sum_by-append f (g x ∷ []) (map g xs)
    ∙ ap (λ n. sum_by f (g x ∷ []) + n) (sum_map f g xs)
    ∙ sym (sum_by-append (λ y. f (g y)) (x ∷ []) xs)

-- a sum of one quantity of each curve is that of each bidder
pub sum_of_bidders : (f : Curve → ℕ) (farmers : List BidderWithWords) →
    sum_by f (curves_of farmers) ≡ sum_by (λ bidder. f bidder.curve) (bidders_of farmers)
sum_of_bidders f farmers =
    sum_map f (λ farmer. farmer.bidder.curve) farmers ∙ sym (sum_map (λ bidder. f bidder.curve) (λ farmer. farmer.bidder) farmers)

pub map_length : {A B : Type 0} (f : A → B) (xs : List A) → length (map f xs) ≡ length xs
map_length f [] = refl
map_length f (x ∷ xs) = omega (arith, map_length f xs)

few_below : (f : Curve → ℕ) (farmers : List BidderWithWords) →
    All (λ curve. f curve ≤ LARGEST_QUANTITY) (curves_of farmers) → length farmers ≤ MOST_BIDDERS →
    sum_by f (curves_of farmers) % p ≡ sum_by f (curves_of farmers)
few_below f farmers h few =
    let below = sum_by-le f LARGEST_QUANTITY (curves_of farmers) h in
    let many : length (curves_of farmers) ≡ length farmers = map_length (λ farmer. farmer.bidder.curve) farmers in
    below_p (sum_by f (curves_of farmers)) (length farmers) (rw many at below) few where
      below_p : (n count : ℕ) → n ≤ count * LARGEST_QUANTITY → count ≤ MOST_BIDDERS → n % p ≡ n
      below_p n count h k = omega arith

-- the sum of supply is opened at the first wire
pub opens_supply : (grid : Grid) (totals : Totals) (farmers : List BidderWithWords) (wires : Trio (List ℕ)) →
    grid.prices ≡ 1 → AddsFarmers grid totals farmers → length farmers ≤ MOST_BIDDERS → CarriesValues totals wires →
    recombined (points_on wires 0) ≡ supply_at (bidders_of farmers) 0
opens_supply grid totals farmers wires one c few carries =
    let prices = c.prices in
    supply-recombined totals wires 0 (curves_of farmers) carries (rw (← prices) at c.shares) (omega (arith, prices, one))
    (λ i d h. (c.of_grid i d h).buy_length ∙ sym prices)
    ∙ few_below (λ curve. slice_index curve.sell 0) farmers (λ i d h. (c.curves i d h).sell_limit 0 0
    (let long = (c.of_grid i d h).sell_length in omega (arith, long, one))) few
    ∙ sum_of_bidders (λ curve. slice_index curve.sell 0) farmers

-- and that of demand at the second
pub opens_demand : (grid : Grid) (totals : Totals) (farmers : List BidderWithWords) (wires : Trio (List ℕ)) →
    grid.prices ≡ 1 → AddsFarmers grid totals farmers → length farmers ≤ MOST_BIDDERS → CarriesValues totals wires →
    recombined (points_on wires 1) ≡ demand_at (bidders_of farmers) 0
opens_demand grid totals farmers wires one c few carries =
    let prices = c.prices in
    ap (λ n. recombined (points_on wires n)) (omega (arith, prices, one))
    ∙ demand-recombined totals wires 0 (curves_of farmers) carries (rw (← prices) at c.shares) (omega (arith, prices, one))
    (λ i d h. (c.of_grid i d h).buy_length ∙ sym prices)
    ∙ few_below (λ curve. slice_index curve.buy 0) farmers
    (λ i d h. (c.curves i d h).buy_limit 0 0 (let long = (c.of_grid i d h).buy_length in omega (arith, long, one))) few
    ∙ sum_of_bidders (λ curve. slice_index curve.buy 0) farmers
