-- Two sales that agree look the same to one server, if the mask words and the bidders' words are mapped.
use Rattle.std.proofs.Common.{◌≡◌, ◌-◌, ◌^◌, ◌<◌, ℕ, zero, suc, List, [], ◌∷◌, map, take, length, get_or, slice_get}
use Rattle.std.proofs.Common.{slice_index, Some, refl, sym, ap, subst, ◌∙◌, arith}
use Rattle.std.specs.Prelude.{All}
use Rattle.std.proofs.lemmas.List.{length-map}
use Rattle.std.proofs.lemmas.List.Elements.{All-head, All-tail, All-cons, All-get_or, All-map}
use Rattle.std.proofs.lemmas.Simd.{map-map}
use Rattle.std.proofs.lemmas.Option.{same_Some}
use Rattle.beet_field.specs.Field.{IsElement}
use Rattle.beet_field.specs.declared.point.Point.{Point}
use Rattle.beet_field.specs.declared.point.Point.TheVariants.{One, Two, Three}
use Rattle.beet_field.specs.declared.trio.Trio.{Trio}
use Rattle.beet_gates.specs.Clear.{clear_values}
use Rattle.beet_gates.specs.Scripts.{HasWords, LawFrom, bounds_of, start_of}
use Rattle.beet_gates.specs.declared.Gates.{Gates}
use Rattle.beet_shamir.specs.Line.{point_of}
use Rattle.beet_words.specs.Bundles.{Words, AreWords}
use Rattle.beet_sharing.specs.Runs.{HasRounds, numbers_of}
use Rattle.beet_sharing.proofs.Lined.{member-trio}
use Rattle.beet_map.specs.Mapped.{LooksAlike}
use Rattle.beet_map.specs.Refused.{HasSecrets, LookSame}
use Rattle.beet_map.specs.Secrets.{Secrets, shares_of, values_of}
use Rattle.beet_map_laws.specs.Pairs.{GoTogether}
use Rattle.beet_turned.specs.MappedMasks.{MasksMapped}
use Rattle.beet_turned.proofs.MaskFacts.{own-same}
use Rattle.beet_mapped.specs.Dealers.{Party, Dealer, DealersMapped, dealers_of}
use Rattle.beet_mapped.specs.Trades.{rounds_in, setup_in}
use Rattle.beet_mapped.proofs.DealerFacts.{AreElements, point-same, first-mapped, rest-mapped}
use Rattle.beet_mapped.proofs.WorldFacts.{AreInputLines, Stands, are-masks, back, look, only, rounds-same, seen_in, seen-same}
use Rattle.beet_mapped.proofs.WorldFacts.{trades-mapped}
use Rattle.beet_trades.specs.Enough.{HasAccepted, HasEnough, read_words}
use Rattle.beet_masking.specs.Masks.{with_spare}
use Rattle.beet_trades.specs.Servers.{world_with}
use Rattle.beet_map.proofs.Disagreeing.{as-many}
use Rattle.beet_trades.proofs.Drawn.{accepted-read, numbers-enough}
use Rattle.beet_trades.proofs.EnoughFacts.{mapped-enough}
use Rattle.beet_trades.proofs.ReadRuns.{Reads, seen-read-same}
use Rattle.beet_sale_plan.specs.Outcome.{IsBid}
use Rattle.beet_sale_plan.specs.Sale.{Sale, bidders_of, sale_batch, most_rounds, most_masks, most_wires, most_coefficients}
use Rattle.beet_sale_plan.specs.Sale.{most_coefficients_of, most_masks_of}
use Rattle.beet_sale_plan.proofs.SaleStands.{sale-law}
use Rattle.beet_sale_file.specs.declared.rows.SaleBid.{SaleBid}
use Rattle.beet_sale_map.specs.Bids.{Agree, AreSaleBids, SameOwn, bids_of, sale_over}
use Rattle.beet_sale_map.specs.Losses.{compared_both, lost}
use Rattle.beet_sale_map.specs.Enough.{AreEnough, wants_of}
use Rattle.beet_sale_map.specs.InputLines.{dealer_line, dealer_lines}
use Rattle.beet_sale_map.specs.MappedSales.{Ends, SalesMapped, run_seen_of}
use Rattle.beet_sale_map.specs.Worlds.{Mapped, losses_between, party_of, point_in, points_of, trade_of}
use Rattle.beet_sale_map.proofs.OpenAlike.{opens-alike}

-- the points of the lines are the inputs
pub input-lines : (gates : Gates) (bids : List SaleBid) (words : List (List ℕ)) →
    AreInputLines (trade_of gates bids) words (dealer_lines bids words)
input-lines gates bids words i =
    let dealers = dealers_of (map party_of bids) words in
    map-map _ dealer_line dealers ∙ sym (member-trio (points_of dealers) i)

-- their values are the bids
pub bid-values : (bids : List SaleBid) (words : List (List ℕ)) → length words ≡ length bids →
    values_of (dealer_lines bids words) ≡ bids_of bids
bid-values [] words e = refl
bid-values (b ∷ bs) [] e = absurd (omega arith)
bid-values (b ∷ bs) (w ∷ ws) e = ap (λ (l : List ℕ). b.bid ∷ l) (bid-values bs ws (omega arith))

pub many-dealers : (bids : List SaleBid) (words : List (List ℕ)) → length words ≡ length bids →
    length (dealers_of (map party_of bids) words) ≡ length bids
many-dealers [] words e = refl
many-dealers (b ∷ bs) [] e = absurd (omega arith)
many-dealers (b ∷ bs) (w ∷ ws) e = ap suc (many-dealers bs ws (omega arith))

pub many-lines : (bids : List SaleBid) (words : List (List ℕ)) → length words ≡ length bids → length (dealer_lines bids words) ≡ length bids
many-lines bids words e = length-map (dealers_of (map party_of bids) words) dealer_line ∙ many-dealers bids words e

-- a bid and its words that are read at a place
pub dealer-read : (bids : List SaleBid) (words : List (List ℕ)) (k : ℕ) (bid : SaleBid) (list : List ℕ) (d : Dealer) →
    length words ≡ length bids → k < length words → slice_get bids k ≡ Some bid → list ≡ get_or words k list →
    get_or (dealers_of (map party_of bids) words) k d ≡ record { party = party_of bid; words = list }
dealer-read [] [] k bid list d e lt a b = absurd (omega arith)
dealer-read [] (w ∷ ws) k bid list d e lt a b = absurd (omega (arith, e))
dealer-read (x ∷ xs) [] k bid list d e lt a b = absurd (omega arith)
dealer-read (x ∷ xs) (w ∷ ws) zero bid list d e lt a b =
    let is = same_Some x bid a in λ j. record { party = party_of (is j); words = sym b j }
dealer-read (x ∷ xs) (w ∷ ws) (suc k) bid list d e lt a b =
    dealer-read xs ws k bid list d (let l : length ws ≡ length xs = omega (arith, e) in l) (omega (arith, lt)) a b

-- each has one quantity
abbrev pub OneQuantity : Dealer → Type 0
OneQuantity d = (length d.party.quantities ≡ 1) × AreElements d.party.quantities

-- the server has the same points
shares-same : (s : Point) (dealers dealers' : List Dealer) → All OneQuantity dealers → All OneQuantity dealers' →
    ((k : ℕ) (one other : Dealer) → slice_get dealers k ≡ Some one → slice_get dealers' k ≡ Some other →
    one.party.known ≡ Some s → other.party.quantities ≡ one.party.quantities) →
    DealersMapped s dealers dealers' → shares_of (map dealer_line dealers) s ≡ shares_of (map dealer_line dealers') s
shares-same s [] [] a b own m = refl
shares-same s [] (g ∷ gs) a b own m = absurd (omega (arith, m.count))
shares-same s (f ∷ fs) [] a b own m = absurd (omega (arith, m.count))
shares-same s (f ∷ fs) (g ∷ gs) a b own m =
    let one = All-head OneQuantity f fs a in
    let two = All-head OneQuantity g gs b in
    let here : point_in g s ≡ point_in f s =
    point-same s f g two.1 (own 0 f g refl refl) (first-mapped s f g fs gs m) 0 (omega (arith, one.0)) in
    let rest = shares-same s fs gs (All-tail OneQuantity f fs a) (All-tail OneQuantity g gs b) (λ k x y e d. own (suc k) x y e d)
    (rest-mapped s f g fs gs m) in
    λ j. sym here j ∷ rest j

one-element : (bid : ℕ) → IsBid bid → All IsElement (bid ∷ [])
one-element bid small =
    let none : All IsElement [] = λ k d lt. absurd (omega arith) in
    All-cons IsElement bid [] (omega (arith, small)) none

pub one-quantity : (bids : List SaleBid) (words : List (List ℕ)) → All (λ (b : SaleBid). IsBid b.bid) bids →
    All OneQuantity (dealers_of (map party_of bids) words)
one-quantity [] words all = λ k d lt. absurd (omega arith)
one-quantity (b ∷ bs) [] all = λ k d lt. absurd (omega arith)
one-quantity (b ∷ bs) (w ∷ ws) all =
    let small = All-head (λ (b : SaleBid). IsBid b.bid) b bs all in
    let d : Dealer = record { party = party_of b; words = w } in
    let one : OneQuantity d = (refl, one-element b.bid small) in
    All-cons OneQuantity d (dealers_of (map party_of bs) ws) one
    (one-quantity bs ws (All-tail (λ (b : SaleBid). IsBid b.bid) b bs all))

pub elements-of : (bids : List SaleBid) → All (λ (b : SaleBid). IsBid b.bid) bids →
    All (λ (b : Party). AreElements b.quantities) (map party_of bids)
elements-of bids all = All-map (λ (b : Party). AreElements b.quantities) party_of bids (λ k d lt. one-element _ (all k d lt))

-- a dealer is a bid, with words
bid-at : (bids : List SaleBid) (words : List (List ℕ)) (k : ℕ) (d : Dealer) → slice_get (dealers_of (map party_of bids) words) k ≡ Some d →
    (bid : SaleBid) × (slice_get bids k ≡ Some bid) × (d.party ≡ party_of bid)
bid-at [] words k d e = cc e
bid-at (b ∷ bs) [] k d e = cc e
bid-at (b ∷ bs) (w ∷ ws) zero d e =
    let is = same_Some (record { party = party_of b; words = w }) d e in
    (b, refl, ap (λ (x : Dealer). x.party) (sym is))
bid-at (b ∷ bs) (w ∷ ws) (suc k) d e = bid-at bs ws k d e

-- so those known to a server have the same quantities
pub own-known : (s : Point) (first second : List SaleBid) (words words' : List (List ℕ)) → SameOwn s first second →
    (k : ℕ) (one other : Dealer) → slice_get (dealers_of (map party_of first) words) k ≡ Some one →
    slice_get (dealers_of (map party_of second) words') k ≡ Some other → one.party.known ≡ Some s →
    other.party.quantities ≡ one.party.quantities
own-known s first second words words' own k one other e f known =
    let x = bid-at first words k one e in
    let y = bid-at second words' k other f in
    let is_known : x.0.known ≡ Some s = sym (ap (λ (p : Party). p.known) x.2) ∙ known in
    let same = own k x.0 y.0 x.1 y.1 is_known in
    ap (λ (p : Party). p.quantities) y.2 ∙ ap (λ (n : ℕ). n ∷ []) same ∙ sym (ap (λ (p : Party). p.quantities) x.2)

pub losses-small : (first second : List SaleBid) → All IsElement (losses_between first second)
losses-small first second =
    All-map IsElement lost (compared_both (length first - 1) (bids_of first) (bids_of second)) (λ k d lt. omega arith)

-- each bid at a place is below 2^48
pub bid-small : (bids : List SaleBid) → All (λ (b : SaleBid). IsBid b.bid) bids → (j : ℕ) → j < length bids →
    slice_index (bids_of bids) j < 2 ^ 48
bid-small bids all j lt =
    let l = length-map bids (λ (b : SaleBid). b.bid) in
    let b = All-get_or IsBid (bids_of bids) j 0 (omega (arith, l, lt)) (All-map IsBid (λ (b : SaleBid). b.bid) bids all) in
    omega (arith, b)

-- the inputs are those of the words that are read
points-read : (bids : List SaleBid) (words : List (List ℕ)) (i : Point) → All (HasAccepted 1) words →
    points_of (dealers_of (map party_of bids) (map (take (with_spare 1)) words)) i ≡ points_of (dealers_of (map party_of bids) words) i
points-read [] words i all = refl
points-read (b ∷ bs) [] i all = refl
points-read (b ∷ bs) (w ∷ ws) i all =
    let here : point_in (record { party = party_of b; words = take (with_spare 1) w }) i
    ≡ point_in (record { party = party_of b; words = w }) i =
    ap (λ a. point_of b.bid a i) (accepted-read 1 w (All-head (HasAccepted 1) w ws all) 0 (omega arith)) in
    let rest = points-read bs ws i (All-tail (HasAccepted 1) w ws all) in
    λ j. here j ∷ rest j

-- as many words are read of a sale's bids
reads : (gates : Gates) (bids : List SaleBid) (words : Words) → AreSaleBids bids → AreEnough bids words →
    Reads (trade_of gates bids) (wants_of (length bids)) words
reads gates bids words are enough =
    let sale = sale_over gates bids in
    let count : bidders_of sale ≡ length bids = omega (arith, are.size.some) in
    let dealers = dealers_of (map party_of bids) words.bidders in
    record {
      wires = most_wires sale;
      count = length bids;
      parties = length bids;
      law = subst (λ n. LawFrom (sale_batch sale)
          (bounds_of (most_wires sale) (most_masks_of n) (most_coefficients_of n)) (most_rounds sale) (start_of n) []) count
          (sale-law sale);
      long = λ i. ap length (member-trio (points_of dealers) i)
          ∙ length-map dealers (λ d. point_in d i) ∙ many-dealers bids words.bidders enough.count;
      same = λ j. record {
        one = points-read bids words.bidders One enough.bidders j;
        two = points-read bids words.bidders Two enough.bidders j;
        three = points-read bids words.bidders Three enough.bidders j;
      };
      enough = enough;
    }

module _ (me : Point) (gates : Gates) (first second : List SaleBid) (words : Words) (lists : List (List ℕ))
    (are : AreSaleBids first) (are' : AreSaleBids second) (agree : Agree me first second) (are_words : AreWords words)
    (enough : AreEnough first words) (same_lists : length lists ≡ length words.bidders)
    (dealers_mapped : DealersMapped me (dealers_of (map party_of first) words.bidders) (dealers_of (map party_of second) lists)) where
  abbrev sale : Sale
  sale = sale_over gates first

  abbrev here : Secrets
  here = world_with (dealer_lines first words.bidders) words.masks

  abbrev lost_all : List ℕ
  lost_all = losses_between first second

  many : length second ≡ length first
  many = as-many (λ (b : SaleBid). b.known) first second agree.shape

  count : bidders_of sale ≡ length first
  count = omega (arith, are.size.some)

  lists-count : length lists ≡ length second
  lists-count = same_lists ∙ enough.count ∙ sym many

  same-sale : sale_over gates second ≡ sale
  same-sale = λ x. sale_over' (many x) where
    sale_over' : ℕ → Sale
    sale_over' n = record { further = n - 1; gates = gates }

  -- there are inputs and masks for the script
  pub secrets-here : HasSecrets (bidders_of sale) (most_masks sale) here
  secrets-here = record {
    inputs = many-lines first words.bidders enough.count ∙ sym count;
    masks = (omega (arith, count, enough.masks.0), omega (arith, count, enough.masks.1), omega (arith, count, enough.masks.2));
  }

  pub lines-there : length (dealer_lines second lists) ≡ bidders_of sale
  lines-there = many-lines second lists lists-count ∙ many ∙ sym count

  pub numbers-here : HasWords (most_coefficients sale) (numbers_of words.coefficients)
  numbers-here =
      let n = numbers-enough (wants_of (length first)) (length first) words enough in
      (omega (arith, count, n.0), omega (arith, count, n.1), omega (arith, count, n.2))

  -- the server cannot tell the worlds, which is what the map of coefficient words asks for
  pub look-same : (masks : Trio (List ℕ)) → MasksMapped me lost_all words.masks masks →
      LookSame (sale_batch sale) (most_rounds sale) (most_masks sale) me here (world_with (dealer_lines second lists) masks)
  look-same masks masks_mapped =
      let bids = bids_of first in
      let bids' = bids_of second in
      let len : length bids ≡ bidders_of sale = length-map first (λ (b : SaleBid). b.bid) ∙ sym count in
      let len' : length bids' ≡ bidders_of sale = length-map second (λ (b : SaleBid). b.bid) ∙ many ∙ sym count in
      let opens = opens-alike me sale bids bids' words.masks masks (omega (arith, are.size.some)) (omega (arith, are.size.few, count))
      len len'
      (λ j h. bid-small first are.limits j (omega (arith, h, count)))
      (λ j h. bid-small second are'.limits j (omega (arith, h, count, many)))
      (are-masks words are_words) secrets-here.masks masks_mapped agree.results.winner agree.results.price agree.results.sold
      agree.results.sold' in
      let run : List ℕ → Trio (List ℕ) → List ℕ = λ values words. (clear_values (sale_batch sale) (most_rounds sale) values words).opened in
      let values : values_of (dealer_lines first words.bidders) ≡ bids = bid-values first words.bidders enough.count in
      let values' : values_of (dealer_lines second lists) ≡ bids' = bid-values second lists lists-count in
      record {
        shares = shares-same me (dealers_of (map party_of first) words.bidders) (dealers_of (map party_of second) lists)
            (one-quantity first words.bidders are.limits) (one-quantity second lists are'.limits)
            (own-known me first second words.bidders lists agree.own) dealers_mapped;
        words = ap (take (most_masks sale)) (sym (own-same lost_all words.masks masks me masks_mapped));
        opened = ap (λ v. run v words.masks) values ∙ sym opens.in_the_end ∙ sym (ap (λ v. run v masks) values');
      }

  module _ (masks coefficients : Trio (List ℕ)) (masks_mapped : MasksMapped me lost_all words.masks masks)
      (c : GoTogether (sale_batch sale) (most_rounds sale) me here (world_with (dealer_lines second lists) masks)
      words.coefficients coefficients)
      (are_words' : AreWords (record { masks = masks; coefficients = coefficients; bidders = lists })) where
    abbrev words' : Words
    words' = record { masks = masks; coefficients = coefficients; bidders = lists }

    stands : Stands me lost_all (trade_of gates first) (trade_of gates second) words masks lists (dealer_lines first words.bidders)
        (dealer_lines second lists)
    stands = record {
      script = ap sale_batch same-sale;
      most = ap most_rounds same-sale;
      lost = losses-small first second;
      elements = elements-of first are.limits;
      elements' = elements-of second are'.limits;
      count = enough.count ∙ sym (length-map first party_of);
      count' = length-map second party_of ∙ many ∙ sym (length-map first party_of);
      are_words = are_words;
      lists_same = same_lists;
      masks_mapped = masks_mapped;
      dealers_mapped = dealers_mapped;
      here = input-lines gates first words.bidders;
      there = input-lines gates second lists;
    }

    looks : LooksAlike me (rounds_in (trade_of gates first) words) (setup_in (trade_of gates first) words)
        (setup_in (trade_of gates second) words')
    looks = look me lost_all (trade_of gates first) (trade_of gates second) words masks coefficients lists
        (dealer_lines first words.bidders) (dealer_lines second lists) stands c are_words'

    mapped : Mapped me gates first words second words'
    mapped = trades-mapped me lost_all (trade_of gates first) (trade_of gates second) words masks coefficients lists
        (dealer_lines first words.bidders) (dealer_lines second lists) stands c are_words'

    enough' : AreEnough second words'
    enough' =
        subst (λ n. HasEnough (wants_of n) n words') (sym many)
        (mapped-enough me lost_all (trade_of gates first) (trade_of gates second) words words' (wants_of (length first))
        (length first) mapped (length-map first party_of) (length-map second party_of ∙ many) enough)

    ends' : Ends gates second words'
    ends' =
        subst (λ n. HasRounds (setup_in (trade_of gates second) words') n)
        (sym (rounds-same me lost_all (trade_of gates first) (trade_of gates second) words masks coefficients lists
        (dealer_lines first words.bidders) (dealer_lines second lists) stands c are_words'))
        looks.second_ends

    seen : run_seen_of gates second words' me ≡ run_seen_of gates first words me
    seen =
        ap (λ n. seen_in (trade_of gates second) (read_words (wants_of n) words') me) many
        ∙ seen-read-same (trade_of gates first) (trade_of gates second) (wants_of (length first)) words words' me
        (reads gates first words are enough)
        (subst (λ n. Reads (trade_of gates second) (wants_of n) words') many (reads gates second words' are' enough'))
        looks.first_ends ends'
        (seen-same me lost_all (trade_of gates first) (trade_of gates second) words masks coefficients lists
        (dealer_lines first words.bidders) (dealer_lines second lists) stands c are_words')

    pub sales-mapped : SalesMapped me gates first words second words'
    sales-mapped = record {
      mapped = mapped;
      enough = enough';
      ends = looks.first_ends;
      ends' = ends';
      looks = seen;
      only = only me lost_all (trade_of gates first) (trade_of gates second) words masks coefficients lists
          (dealer_lines first words.bidders) (dealer_lines second lists) stands c are_words';
      back = back me lost_all (trade_of gates first) (trade_of gates second) words masks coefficients lists
          (dealer_lines first words.bidders) (dealer_lines second lists) stands c are_words';
    }
