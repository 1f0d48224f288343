-- What the bidders of a book deal, one after another.
use Rattle.std.proofs.Common.{◌≡◌, ◌≤◌, ◌<◌, ℕ, suc, zero, ◌+◌, ◌-◌, ◌*◌, List, [], ◌∷◌, ◌++◌, map, length, take, slice_get}
use Rattle.std.proofs.Common.{Option, Some, Result, Ok, Err, IfOk, false, true, arith, refl, sym, ap, ◌∙◌, subst}
use Rattle.std.proofs.Common.{get_or, All, length-append}
use Rattle.std.specs.declared.alloc.AllocError.{AllocError}
use Rattle.std.proofs.lemmas.List.{map-append, take_all}
use Rattle.std.specs.List.{slice_range}
use Rattle.std.proofs.Math.ListN.{drop}
use Rattle.std.proofs.lemmas.List.Elements.{All-drop, All-get_or, All-take}
use Rattle.beet_parts.proofs.Ranges.{range-all, range-joined, range-length}
use Rattle.std.proofs.lemmas.Grind.{same_number_lists}
use Rattle.beet_field.specs.Trio.{member}
use Rattle.beet_field.specs.declared.point.Point.{Point}
use Rattle.beet_field.specs.declared.point.Point.TheVariants.{One, Two, Three}
use Rattle.beet_field.specs.declared.trio.Trio.{Trio}
use Rattle.beet_shamir.specs.Line.{point_of}
use Rattle.beet_words.specs.Tapes.{Tape, left_of}
use Rattle.beet_words.specs.Words.{accepted}
use Rattle.beet_gates.specs.Each.{each}
use Rattle.beet_gates.proofs.EachFacts.{length-each, item-each}
use Rattle.beet_bids.specs.Curves.{IsOfGrid}
use Rattle.beet_bids.specs.Grids.{Grid}
use Rattle.beet_bids.specs.declared.book.Bidder.{Bidder}
use Rattle.beet_book.specs.Dealing.{points_at, quantities, dealt_points}
use Rattle.beet_book.specs.Totals.{Totals, added, none_of, wires_of}
use Rattle.beet_book.proofs.Merged.{points-joined}
use Rattle.beet_book.proofs.Pairs.{length-pairwise, item-pairwise}
use Rattle.beet_book.specs.Farmers.{BidderWithWords, book_inputs, farmers_of, point_for, summed_points}
use Rattle.beet_auction.proofs.Adding.{summed-none, summed-more}
use Rattle.beet_plan.specs.Kept.{words_kept}
use Rattle.beet_load.specs.Counts.{counts_of}
use Rattle.beet_load.specs.Wholes.{CanDeal}
use Rattle.beet_view.specs.BookViews.{seen_at, seen_with}
use Rattle.beet_view.specs.declared.view.Seen.{Seen}
use Rattle.beet_transcripts.specs.DealtBooks.{CanDealAll, CanDealPart, HasDealt, part_of, shows}
use Rattle.beet_transcripts.specs.declared.dealing.DealtPart.{DealtPart}

-- a tape of words that are all kept has them left
pub tape-left : (grid : Grid) (kept : ℕ) (tape : Tape) (words : List ℕ) → tape ≡ record { words = take kept words; passed = 0 } →
    kept ≡ words_kept grid.prices → CanDeal (counts_of grid) words → left_of tape ≡ accepted words
tape-left grid kept tape words e same can =
    let few : length words ≤ kept = omega (arith, can.kept, same) in
    ap left_of e ∙ ap accepted (take_all kept words few)

-- what holds of each item holds of the one at a place
pub at-place : {A : Type 0} (P : A → Type 0) (xs ys : List A) (i : ℕ) (x : A) → ys ≡ xs → x ≡ get_or ys i x → i < length ys → All P xs → P x
at-place P xs ys i x same is lt all = subst P (sym is) (All-get_or P ys i x lt (subst (All P) (sym same) all))

-- no bidder is seen yet
abbrev pub unseen : Trio (List Seen)
unseen = record { one = []; two = []; three = [] }

none-seen : (grid : Grid) (s : Point) → member unseen s ≡ map (seen_at grid s) []
none-seen grid One = refl
none-seen grid Two = refl
none-seen grid Three = refl

none-kept : (s : Point) → member unseen s ≡ []
none-kept One = refl
none-kept Two = refl
none-kept Three = refl

-- nothing is dealt yet
pub dealt-none : (grid : Grid) (whom : Option Point) (totals : Totals) (seen : Trio (List Seen)) →
    totals ≡ none_of grid.prices → seen ≡ unseen →
    HasDealt grid whom [] totals seen
dealt-none grid whom totals seen t s =
    rw (t, s) (record {
      prices = refl;
      points = sym (summed-none grid.prices);
      bidders = λ at _. none-seen grid at;
      others = λ at _. none-kept at;
    })

module _ (grid : Grid) (whom : Option Point) (farmers : List BidderWithWords) (farmer : BidderWithWords)
    (of_grid : IsOfGrid grid farmer.bidder.curve)
    (enough : 2 * grid.prices ≤ length (accepted farmer.words)) where
  long : length (quantities farmer.bidder.curve) ≡ 2 * grid.prices
  long = omega (arith, length-append farmer.bidder.curve.buy farmer.bidder.curve.sell, of_grid.buy_length, of_grid.sell_length)

  -- the points that are dealt are those that a server sees
  dealt-each : (s : Point) →
      points_at (quantities farmer.bidder.curve) (accepted farmer.words) s ≡ each (point_for farmer s) (2 * grid.prices)
  dealt-each s =
      let n = 2 * grid.prices in
      let values = quantities farmer.bidder.curve in
      let slopes = accepted farmer.words in
      let both = length-pairwise (λ value slope. point_of value slope s) values slopes in
      let many : length (points_at values slopes s) ≡ n = omega (arith, both, long, enough) in
      same_number_lists (points_at values slopes s) (each (point_for farmer s) n) (many ∙ sym (length-each (point_for farmer s) n))
      (λ k lt.
      let within : k < n = omega (arith, lt, many) in
      item-pairwise (λ value slope. point_of value slope s) values slopes k (omega (arith, within, long)) (omega (arith, within, enough))
      ∙ sym (item-each (point_for farmer s) n k within))

  seen-more : (s : Point) (before after : List Seen) (points : List ℕ) (one : Seen) → before ≡ map (seen_at grid s) farmers →
      points ≡ points_at (quantities farmer.bidder.curve) (accepted farmer.words) s → one ≡ seen_with s farmer points →
      after ≡ before ++ one ∷ [] →
      after ≡ map (seen_at grid s) (farmers ++ farmer ∷ [])
  seen-more s before after points one h p o e =
      e
      ∙ ap (λ (seen : Seen). before ++ seen ∷ []) (o ∙ ap (seen_with s farmer) (p ∙ dealt-each s))
      ∙ ap (λ (l : List Seen). l ++ seen_at grid s farmer ∷ []) h
      ∙ sym (map-append (seen_at grid s) farmers (farmer ∷ []))

  -- one bidder more is dealt, added and shown
  pub dealt-more : (before after : Totals) (dealt points : Trio (List ℕ)) (seen seen' : Trio (List Seen)) →
      HasDealt grid whom farmers before seen → dealt ≡ dealt_points farmer.bidder.curve (accepted farmer.words) →
      after ≡ record before { points = added before.points dealt } → points ≡ dealt →
      ((s : Point) → shows whom s ≡ true → member seen' s ≡ member seen s ++ seen_with s farmer (member points s) ∷ []) →
      ((s : Point) → shows whom s ≡ false → member seen' s ≡ member seen s) →
      HasDealt grid whom (farmers ++ farmer ∷ []) after seen'
  dealt-more before after dealt points seen seen' h d a p e not_shown = record {
    prices = ap (λ (x : Totals). x.prices) a ∙ h.prices;
    points =
        ap (λ (x : Totals). x.points) a
        ∙ ap (λ (x : Trio (List ℕ)). added x dealt) h.points
        ∙ ap (added (summed_points grid.prices farmers)) d
        ∙ sym (summed-more grid.prices farmers farmer long enough);
    bidders = λ s there. seen-more s (member seen s) (member seen' s) (member points s)
        (seen_with s farmer (member points s)) (h.bidders s there)
        (by-server (p ∙ d) s) refl (e s there);
    others = λ s none. not_shown s none ∙ h.others s none;
  }
    where
      by-server : points ≡ dealt_points farmer.bidder.curve (accepted farmer.words) → (s : Point) →
          member points s ≡ points_at (quantities farmer.bidder.curve) (accepted farmer.words) s
      by-server same One = ap (λ (x : Trio (List ℕ)). x.one) same
      by-server same Two = ap (λ (x : Trio (List ℕ)). x.two) same
      by-server same Three = ap (λ (x : Trio (List ℕ)). x.three) same

-- the first bidders with their words, and one more
pub farmers-take : (i : ℕ) (bidders : List Bidder) (words : List (List ℕ)) (bidder : Bidder) (list : List ℕ) →
    slice_get bidders i ≡ Some bidder →
    slice_get words i ≡ Some list →
    farmers_of (take (suc i) bidders) (take (suc i) words)
    ≡ farmers_of (take i bidders) (take i words) ++ record { bidder = bidder; words = list } ∷ []
farmers-take i [] words bidder list e f = absurd cc
farmers-take i (b ∷ bs) [] bidder list e f = absurd cc
farmers-take zero (b ∷ bs) (w ∷ ws) bidder list e f =
    let is : b ≡ bidder = cc in
    let it : w ≡ list = cc in
    rw (is, it) refl
farmers-take (suc i) (b ∷ bs) (w ∷ ws) bidder list e f =
    ap (λ (fs : List BidderWithWords). record { bidder = b; words = w } ∷ fs) (farmers-take i bs ws bidder list e f)

-- the points of all bidders are the inputs
pub inputs-dealt : (grid : Grid) (whom : Option Point) (farmers : List BidderWithWords) (totals : Totals) (seen : Trio (List Seen)) →
    HasDealt grid whom farmers totals seen → wires_of totals ≡ book_inputs grid.prices farmers
inputs-dealt grid whom farmers totals seen h =
    ap (λ (n : ℕ). wires_of (record { prices = n; points = totals.points })) h.prices
    ∙ ap (λ (x : Trio (List ℕ)). wires_of (record { prices = grid.prices; points = x })) h.points

-- the bidder at a place is dealt
pub dealt-at : (grid : Grid) (whom : Option Point) (bidders : List Bidder) (words : List (List ℕ)) (i : ℕ)
    (bidder : Bidder) (list : List ℕ) (totals : Totals) (seen : Trio (List Seen)) →
    slice_get bidders i ≡ Some bidder → slice_get words i ≡ Some list →
    HasDealt grid whom (farmers_of (take i bidders) (take i words) ++ record { bidder = bidder; words = list } ∷ []) totals seen →
    HasDealt grid whom (farmers_of (take (i + 1) bidders) (take (i + 1) words)) totals seen
dealt-at grid whom bidders words i bidder list totals seen b w h =
    let next : suc i ≡ i + 1 = omega arith in
    subst (λ (n : ℕ). HasDealt grid whom (farmers_of (take n bidders) (take n words)) totals seen) next
    (subst (λ (fs : List BidderWithWords). HasDealt grid whom fs totals seen) (sym (farmers-take i bidders words bidder list b w)) h)

pub dealt-all : (grid : Grid) (whom : Option Point) (bidders : List Bidder) (words : List (List ℕ)) (i : ℕ)
    (totals : Totals) (seen : Trio (List Seen)) →
    length bidders ≤ i → length words ≤ i → HasDealt grid whom (farmers_of (take i bidders) (take i words)) totals seen →
    HasDealt grid whom (farmers_of bidders words) totals seen
dealt-all grid whom bidders words i totals seen b w h =
    subst (λ (l : List (List ℕ)). HasDealt grid whom (farmers_of bidders l) totals seen) (take_all i words w)
    (subst (λ (l : List Bidder). HasDealt grid whom (farmers_of l (take i words)) totals seen) (take_all i bidders b) h)

-- the bidders of two parts with their words
pub farmers-joined : (few rest : List Bidder) (front back : List (List ℕ)) → length front ≡ length few →
    farmers_of (few ++ rest) (front ++ back) ≡ farmers_of few front ++ farmers_of rest back
farmers-joined [] rest [] back e = refl
farmers-joined [] rest (w ∷ ws) back e = absurd cc
farmers-joined (b ∷ bs) rest [] back e = absurd cc
farmers-joined (b ∷ bs) rest (w ∷ ws) back e =
    ap (λ (fs : List BidderWithWords). record { bidder = b; words = w } ∷ fs) (farmers-joined bs rest ws back (omega arith))

module _ (bidders : List Bidder) (words : List (List ℕ)) where
  -- what can be dealt of all can be dealt of a part
  pub part-can : (grid : Grid) (from count : ℕ) → CanDealPart grid bidders words from count →
      CanDealAll grid (slice_range bidders from (from + count)) (slice_range words from (from + count))
  part-can grid from count can =
      let Of = λ (bidder : Bidder). IsOfGrid grid bidder.curve in
      let Enough = λ (list : List ℕ). CanDeal (counts_of grid) list in
      record {
        paired = range-length words from count (omega (arith, can.within, can.all.paired))
            ∙ sym (range-length bidders from count can.within);
        of_grid = All-take Of (from + count - from) (drop from bidders) (All-drop Of from bidders can.all.of_grid);
        enough = All-take Enough (from + count - from) (drop from words) (All-drop Enough from words can.all.enough);
      }

  -- two parts, one after another
  pub part-joined : (from count more : ℕ) → from + count ≤ length bidders → length words ≡ length bidders →
      part_of bidders words from (count + more) ≡ part_of bidders words from count ++ part_of bidders words (from + count) more
  part-joined from count more within paired =
      rw (range-joined bidders from count more, range-joined words from count more)
      (farmers-joined (slice_range bidders from (from + count)) (slice_range bidders (from + count) (from + count + more))
      (slice_range words from (from + count)) (slice_range words (from + count) (from + count + more))
      (range-length words from count (omega (arith, within, paired)) ∙ sym (range-length bidders from count within)))

  -- all as one part
  pub part-whole : (grid : Grid) (whom : Option Point) (totals : Totals) (seen : Trio (List Seen)) →
      length words ≡ length bidders → HasDealt grid whom (part_of bidders words 0 (length words)) totals seen →
      HasDealt grid whom (farmers_of bidders words) totals seen
  part-whole grid whom totals seen paired h =
      subst (λ (l : List (List ℕ)). HasDealt grid whom (farmers_of bidders l) totals seen) (range-all words)
      (subst (λ (l : List Bidder). HasDealt grid whom (farmers_of l (slice_range words 0 (0 + length words))) totals seen)
      (range-all bidders)
      (subst (λ (n : ℕ). HasDealt grid whom (farmers_of (slice_range bidders 0 (0 + n))
      (slice_range words 0 (0 + length words))) totals seen) paired h))

-- two parts over one grid have the same prices
pub same-prices : (grid : Grid) (whom : Option Point) (few rest : List BidderWithWords) (first second : Result DealtPart AllocError) →
    IfOk first (λ part. HasDealt grid whom few part.totals part.seen) →
    IfOk second (λ part. HasDealt grid whom rest part.totals part.seen) →
    IfOk first (λ one. IfOk second (λ other. other.totals.prices ≡ one.totals.prices))
same-prices grid whom few rest (Ok one) (Ok other) a b = b.prices ∙ sym a.prices
same-prices grid whom few rest (Ok one) (Err e) a b = tt
same-prices grid whom few rest (Err e) second a b = tt

-- two parts that are dealt, put together
pub dealt-joined : (grid : Grid) (whom : Option Point) (few rest : List BidderWithWords) (one other both : Totals)
    (seen more all : Trio (List Seen)) →
    HasDealt grid whom few one seen → HasDealt grid whom rest other more → both ≡ record one { points = added one.points other.points } →
    all ≡ record { one = seen.one ++ more.one; two = seen.two ++ more.two; three = seen.three ++ more.three } →
    HasDealt grid whom (few ++ rest) both all
dealt-joined grid whom few rest one other both seen more all a b t e = record {
  prices = ap (λ (x : Totals). x.prices) t ∙ a.prices;
  points =
      ap (λ (x : Totals). x.points) t
      ∙ (λ i. added (a.points i) (b.points i))
      ∙ sym (points-joined grid.prices few rest);
  bidders = λ s there. by-server s ∙ (λ i. a.bidders s there i ++ b.bidders s there i) ∙ sym (map-append (seen_at grid s) few rest);
  others = λ s none. by-server s ∙ (λ i. a.others s none i ++ b.others s none i);
}
  where
    by-server : (s : Point) → member all s ≡ member seen s ++ member more s
    by-server One = ap (λ (x : Trio (List Seen)). x.one) e
    by-server Two = ap (λ (x : Trio (List Seen)). x.two) e
    by-server Three = ap (λ (x : Trio (List Seen)). x.three) e
