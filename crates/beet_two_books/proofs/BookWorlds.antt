-- The runs of two books that agree, with mapped mask words, open the same numbers.
use Rattle.std.proofs.Common.{◌≡◌, ℕ, zero, suc, ◌+◌, ◌*◌, ◌/◌, ◌<◌, ◌≤◌, inl, inr, Bool, List, [], length, slice_index}
use Rattle.std.proofs.Common.{Some, refl, sym, ap, ◌∙◌, arith, zero-add}
use Rattle.std.specs.Prelude.{nat_le, nat_lt, option_map}
use Rattle.std.proofs.lemmas.Bool.{cases_Bool}
use Rattle.std.proofs.lemmas.List.Elements.{All-get_or}
use Rattle.beet_field.specs.Field.{IsElement, add_of}
use Rattle.beet_field.proofs.Trios.{at-each}
use Rattle.beet_field.specs.Trio.{member}
use Rattle.beet_field.specs.declared.point.Point.{Point}
use Rattle.beet_field.specs.declared.trio.Trio.{Trio}
use Rattle.beet_gates.specs.Clear.{Values, clear_at, rounds_dealt, start_values, values_dealt}
use Rattle.beet_gates.specs.Deals.{deals_of}
use Rattle.beet_gates.specs.Scripts.{HasWords, bounds_of, start_among}
use Rattle.beet_gates.specs.Plans.{Plan, plan_batch}
use Rattle.beet_gates.proofs.PlanFacts.{Follows, plan-runs}
use Rattle.beet_bids.specs.Books.{Book, IsBook}
use Rattle.beet_bids.specs.Grids.{comparisons_of}
use Rattle.beet_bids.specs.Sums.{supply_at, demand_at, sums_of}
use Rattle.beet_bids.specs.Outcomes.{clearing_place, outcome_of, shown_by}
use Rattle.beet_bids.specs.declared.outcomes.Policy.{Policy}
use Rattle.beet_plan.specs.declared.Finish.{Finish}
use Rattle.beet_compare.specs.Compare.{doubled, is_doubled_even}
use Rattle.beet_compare.proofs.Parity.{doubled_even-≤, same_test}
use Rattle.beet_plan.specs.Auction.{Auction, auction_batch, auction_over, most_coefficients_of, most_masks}
use Rattle.beet_plan.specs.Auction.{most_masks_of, most_rounds, most_rounds_with, most_wires_with, plan_with}
use Rattle.beet_masking.specs.Blocks.{Blocks, blocks_of}
use Rattle.beet_masking.proofs.BlockLaws.{AreBlocks, are-blocks}
use Rattle.beet_plan.specs.Search.{tested, place_between, path}
use Rattle.beet_masking.specs.Masks.{mask_at, AreMasks}
use Rattle.beet_plan.specs.Runs.{place_over, run_rounds, run_rounds_with}
use Rattle.beet_plan.proofs.AuctionLaw.{plan-stands}
use Rattle.beet_masking.proofs.Words.{Deals, deals-words}
use Rattle.beet_plan.proofs.BlockSteps.{Stands}
use Rattle.beet_bids.proofs.BookSums.{book-turn, clearing-within, length-sums, sums-supply, sums-demand, sums-elements, small}
use Rattle.beet_plan.proofs.Searches.{place-turn}
use Rattle.beet_round.specs.Sides.{peer}
use Rattle.beet_round.specs.declared.sides.Side.TheVariants.{Low}
use Rattle.beet_two_books.specs.Agreement.{Agree}
use Rattle.beet_gates.specs.Opened.{OpenAlike, OpensAlike}
use Rattle.beet_turned.specs.Turn.{turned}
use Rattle.beet_turned.specs.MappedMasks.{MasksMapped, mask_mapped}
use Rattle.beet_two_books.specs.Losses.{doubled_at, losses_of, lost_at}
use Rattle.beet_masking.specs.Compared.{item_compared}
use Rattle.beet_two_books.proofs.Agreed.{clearing-alike, prices-alike, shown-alike}
use Rattle.beet_gates.proofs.AllAlong.{opened-along}
use Rattle.beet_two_books.proofs.BothRuns.{Turns, both-search}
use Rattle.beet_turned.proofs.MaskFacts.{mask-turned, mask-ones}
use Rattle.beet_masking.proofs.AlikeMasks.{Alike, spent-same, dealt-spent-same, dealt-for-same}
use Rattle.beet_masking.proofs.Places.{compared-accepted, compared-early}
use Rattle.beet_gates.proofs.PlanNumbers.{plan_numbers, plan-opened}
use Rattle.beet_turned.proofs.Small.{mapped-masks}
use Rattle.beet_turned.proofs.MasksBack.{compared-map}
use Rattle.beet_turned.proofs.Turned.{turned-opens}
use Rattle.beet_plan.proofs.AuctionRuns.{plan-run}
use Rattle.beet_bids.proofs.GridFacts.{below_comparisons}

-- a book's sums, over so many prices and with this clearing place
module _ (book : Book) (prices z : ℕ) (b : IsBook book) (same : book.grid.prices ≡ prices) (clears : clearing_place book ≡ z) where
  demand : ℕ → ℕ
  demand k = slice_index (sums_of book) (prices + k)

  sum-supply : (k : ℕ) → k < prices → slice_index (sums_of book) k ≡ supply_at book.bidders k
  sum-supply k h = sums-supply book k (omega arith)

  sum-demand : (k : ℕ) → k < prices → slice_index (sums_of book) (prices + k) ≡ demand_at book.bidders k
  sum-demand k h = ap (λ n. slice_index (sums_of book) (n + k)) (sym same) ∙ sums-demand book k (omega arith)

  sum-doubled : (k : ℕ) → k < prices → doubled (slice_index (sums_of book) k) (slice_index (sums_of book) (prices + k)) ≡ doubled_at book k
  sum-doubled k h = λ i. doubled (sum-supply k h i) (sum-demand k h i)

  sum-turns : Turns prices z (slice_index (sums_of book)) (λ k. slice_index (sums_of book) (prices + k))
  sum-turns =
      let long : length (sums_of book) ≡ 2 * prices = omega (arith, length-sums book) in
      record {
        elements = record {
          supply_element = λ k h. All-get_or IsElement (sums_of book) k 0 (omega arith) (sums-elements book b);
          demand_element = λ k h. All-get_or IsElement (sums_of book) (prices + k) 0 (omega arith) (sums-elements book b);
        };
        reached = λ k h.
            let l : k < book.grid.prices = omega arith in
            let s = small book b k l in
            let means = doubled_even-≤ (supply_at book.bidders k) (demand_at book.bidders k) (omega (arith, s.0))
            (omega (arith, s.1)) (omega (arith, s.0)) (omega (arith, s.1)) in
            (λ i. is_doubled_even (sum-supply k h i) (sum-demand k h i))
            ∙ same_test (is_doubled_even (supply_at book.bidders k) (demand_at book.bidders k))
            (supply_at book.bidders k) (demand_at book.bidders k) means
            ∙ book-turn book b k l ∙ ap (λ n. nat_le n k) clears;
      }

  sum-stands : Stands prices (slice_index (sums_of book)) (λ k. slice_index (sums_of book) (prices + k)) (2 * prices) 0
      (start_values (sums_of book))
  sum-stands =
      let long : length (sums_of book) ≡ 2 * prices = omega (arith, length-sums book) in
      record {
        len = long;
        supplies = record { room = omega arith; at = λ k h. rw zero-add refl };
        demands = record { room = omega arith; at = λ k h. refl };
        dealt = refl;
      }

-- what a run opens in the end
run-numbers : (g : Blocks) → AreBlocks g → (policy : Policy) (prices : ℕ) (inputs : List ℕ) (deals : ℕ → List ℕ) →
    (values_dealt (plan_batch (plan_with g policy prices)) (most_rounds_with g prices) inputs deals).opened
    ≡ plan_numbers deals (plan_with g policy prices) (start_values inputs)
run-numbers g are policy prices inputs deals =
    let plan = plan_with g policy prices in
    let bounds = bounds_of (most_wires_with g prices) (most_masks_of prices) (most_coefficients_of prices) in
    let start = start_values inputs in
    let follows : Follows (plan_batch plan) 0 [] plan = record { batch = λ k more. rw zero-add refl } in
    let stands = plan-stands g are policy prices in
    let run = plan-runs (plan_batch plan) deals inputs bounds plan (start_among g.words (2 * prices))
    (most_rounds_with g prices) stands follows in
    ap (λ (v : Values). v.opened) run.values
    ∙ plan-opened deals bounds plan (start_among g.words (2 * prices)) (most_rounds_with g prices) start stands

pub tested-length : (test : ℕ → Bool) (n lo hi : ℕ) → length (tested test n lo hi) ≤ n
unfolding tested
tested-length test zero lo hi = omega arith
tested-length test (suc n) lo hi = elim (cases_Bool (nat_lt lo hi)) [
  | inr f ↦ rw f (omega arith)
  | inl t ↦ elim (cases_Bool (test ((lo + hi) / 2))) [
    | inl e ↦ rw (t, e) (omega (arith, tested-length test n lo ((lo + hi) / 2)))
    | inr e ↦ rw (t, e) (omega (arith, tested-length test n ((lo + hi) / 2 + 1) hi))
  ]
]

rounds-with : (g : Blocks) (policy : Policy) (prices : ℕ) (masks masks' : ℕ → ℕ) (z : ℕ) → Alike masks masks' →
    run_rounds_with g policy prices masks' z ≡ run_rounds_with g policy prices masks z
rounds-with g policy prices masks masks' z a =
    let c = length (path prices z) in
    rw (spent-same masks masks' a c, dealt-spent-same masks masks' a c, dealt-for-same masks masks' a c) refl

pub rounds-same : (auction : Auction) (masks masks' : ℕ → ℕ) (z : ℕ) → Alike masks masks' →
    run_rounds auction masks' z ≡ run_rounds auction masks z
rounds-same auction masks masks' z a = rounds-with (blocks_of auction.gates) auction.policy auction.prices masks masks' z a

-- two books that are alike in all that is opened, with blocks of any kind, where each mask that is compared is turned
module _ (g : Blocks) (are : AreBlocks g) (first second : Book) (b : IsBook first) (b' : IsBook second) (grids : second.grid ≡ first.grid)
    (outcomes : outcome_of second ≡ outcome_of first) (deals deals' : ℕ → List ℕ) (masks masks' : ℕ → ℕ)
    (d : Deals g.words deals masks) (d' : Deals g.words deals' masks') (alike : Alike masks masks')
    (turns : (i k : ℕ) → item_compared (path first.grid.prices (clearing_place first)) masks i ≡ Some k →
    masks' i ≡ turned (masks i) (lost_at first second k)) where
  abbrev prices : ℕ
  prices = first.grid.prices

  abbrev z : ℕ
  z = clearing_place first

  abbrev plan : Plan Finish
  plan = plan_with g first.grid.policy first.grid.prices

  abbrev most : ℕ
  most = most_rounds_with g first.grid.prices

  ps : second.grid.prices ≡ first.grid.prices
  ps = prices-alike first second grids outcomes

  zs : clearing_place second ≡ clearing_place first
  zs = clearing-alike first second grids outcomes

  -- what each comparison opens
  same-opened : (i k : ℕ) → k < prices → item_compared (path prices z) masks i ≡ Some k →
      add_of (doubled (slice_index (sums_of second) k) (slice_index (sums_of second) (prices + k))) (masks' i)
      ≡ add_of (doubled (slice_index (sums_of first) k) (slice_index (sums_of first) (prices + k))) (masks i)
  same-opened i k h e =
      let some = compared-accepted masks (path prices z) i k e in
      (λ j. add_of (sum-doubled second prices z b' ps zs k h j) (turns i k e j))
      ∙ turned-opens (masks i) (doubled_at first k) (doubled_at second k) some (omega arith) (omega arith)
      ∙ sym (λ j. add_of (sum-doubled first prices z b refl refl k h j) (masks i))

  same-numbers : (values_dealt (plan_batch plan) most (sums_of second) deals').opened
      ≡ (values_dealt (plan_batch plan) most (sums_of first) deals).opened
  same-numbers =
      let l = comparisons_of prices in
      let policy = first.grid.policy in
      let ends : place_between (nat_le z) l 0 prices ≡ z =
      place-turn (nat_le z) l 0 prices z (omega arith) (clearing-within first) (omega (arith, below_comparisons prices)) (λ k h. refl) in
      let shown : z < prices →
      shown_by policy (slice_index (sums_of second) (prices + z)) (slice_index (sums_of second) z)
      ≡ shown_by policy (slice_index (sums_of first) (prices + z)) (slice_index (sums_of first) z) = λ h.
      (λ j. shown_by policy (sum-demand second prices z b' ps zs z h j) (sum-supply second prices z b' ps zs z h j))
      ∙ shown-alike first second grids outcomes h ∙ sym (λ j. shown_by policy
      (sum-demand first prices z b refl refl z h j) (sum-supply first prices z b refl refl z h j)) in
      run-numbers g are policy prices (sums_of second) deals'
      ∙ both-search g are policy deals deals' masks masks' prices z
      (slice_index (sums_of first)) (λ k. slice_index (sums_of first) (prices + k)) (slice_index (sums_of second))
      (λ k. slice_index (sums_of second) (prices + k))
      d d' (sum-turns first prices z b refl refl) (sum-turns second prices z b' ps zs) alike same-opened shown
      (start_values (sums_of first)) (start_values (sums_of second)) (sum-stands first prices z b refl refl)
      (sum-stands second prices z b' ps zs) ends
      ∙ sym (run-numbers g are policy prices (sums_of first) deals)

  -- the place at which the search over a book's sums ends
  ends-at : (book : Book) → IsBook book → book.grid.prices ≡ prices → clearing_place book ≡ z → place_over prices (sums_of book) ≡ z
  ends-at book is same clears =
      place-turn (λ k. is_doubled_even (slice_index (sums_of book) k) (slice_index (sums_of book) (prices + k)))
      (comparisons_of prices) 0 prices z
      (omega arith) (clearing-within first) (omega (arith, below_comparisons prices)) (sum-turns book prices z is same clears).reached

  rounds-of : (book : Book) (is : IsBook book) → book.grid.prices ≡ prices → clearing_place book ≡ z →
      (deal : ℕ → List ℕ) (mask : ℕ → ℕ) → Deals g.words deal mask →
      rounds_dealt (plan_batch plan) most (sums_of book) deal ≡ run_rounds_with g first.grid.policy prices mask z
  rounds-of book is same clears deal mask dealt =
      let long : length (sums_of book) ≡ 2 * prices = omega (arith, length-sums book, same) in
      (plan-run g are first.grid.policy prices (sums_of book) deal mask long (sums-elements book is) dealt).rounds
      ∙ ap (run_rounds_with g first.grid.policy prices mask) (ends-at book is same clears)

  same-rounds : rounds_dealt (plan_batch plan) most (sums_of second) deals' ≡ rounds_dealt (plan_batch plan) most (sums_of first) deals
  same-rounds =
      rounds-of second b' ps zs deals' masks' d' ∙ rounds-with g first.grid.policy prices masks masks' z alike
      ∙ sym (rounds-of first b refl refl deals masks d)

  pub open-alike : OpenAlike (plan_batch plan) most (sums_of first) deals (sums_of second) deals'
  open-alike =
      let r = rounds_dealt (plan_batch plan) most (sums_of first) deals in
      let all : (clear_at (plan_batch plan) deals' (sums_of second) (suc r)).opened
      ≡ (clear_at (plan_batch plan) deals (sums_of first) (suc r)).opened =
      ap (λ n. (clear_at (plan_batch plan) deals' (sums_of second) (suc n)).opened) (sym same-rounds) ∙ same-numbers in
      record {
        rounds = same-rounds;
        in_the_end = same-numbers;
        all_along = λ t le. opened-along (plan_batch plan) deals deals' (sums_of first) (sums_of second) (suc r) all t (omega arith);
      }

module _ (s : Point) (first second : Book) (words words' : Trio (List ℕ)) (b : IsBook first) (b' : IsBook second)
    (agree : Agree s first second)
    (m : AreMasks words) (enough : HasWords (most_masks (auction_over first.grid)) words)
    (mapped : MasksMapped s (losses_of first second) words words') where
  enough-at : (j : Point) → comparisons_of first.grid.prices + 2 ≤ length (member words j)
  enough-at = at-each (λ list. comparisons_of first.grid.prices + 2 ≤ length list) words enough

  turns-three : (i k : ℕ) → item_compared (path first.grid.prices (clearing_place first)) (mask_at words) i ≡ Some k →
      mask_at words' i ≡ turned (mask_at words i) (lost_at first second k)
  turns-three i k e =
      let prices = first.grid.prices in
      let z = clearing_place first in
      let early = compared-early (mask_at words) (path prices z) i k e in
      let few = tested-length (nat_le z) (comparisons_of prices) 0 prices in
      let lt : i < length (member words (peer s Low)) = omega (arith, enough-at (peer s Low), early, few) in
      mask-turned (losses_of first second) words words' s mapped i lt
      ∙ ap (mask_mapped (mask_at words i))
      (compared-map (lost_at first second) (path prices z) (mask_at words) i ∙ ap (option_map (lost_at first second)) e)

  pub opens-alike : OpensAlike (auction_batch (auction_over first.grid)) (most_rounds (auction_over first.grid))
      (sums_of first) words (sums_of second) words'
  opens-alike =
      open-alike (blocks_of first.grid.gates) (are-blocks first.grid.gates) first second b b' agree.grids agree.outcomes
      (deals_of words) (deals_of words')
      (mask_at words) (mask_at words') (deals-words words m)
      (deals-words words' (mapped-masks (losses_of first second) s words words' m mapped))
      (record { same = mask-ones (losses_of first second) words words' s mapped }) turns-three
