-- Sales with one winner and one price open the same numbers, if their mask words are mapped.
use Rattle.std.proofs.Common.{◌≡◌, ℕ, zero, suc, ◌+◌, ◌*◌, ◌^◌, ◌<◌, ◌≤◌, List, [], ◌∷◌, length, slice_index, Some, None}
use Rattle.std.proofs.Common.{refl, sym, ap, ◌∙◌, arith}
use Rattle.std.specs.Prelude.{option_map}
use Rattle.std.specs.List.{zip}
use Rattle.beet_field.specs.Field.{add_of}
use Rattle.beet_field.specs.Trio.{member}
use Rattle.beet_field.proofs.Trios.{at-each}
use Rattle.beet_field.specs.declared.point.Point.{Point}
use Rattle.beet_field.specs.declared.trio.Trio.{Trio}
use Rattle.beet_gates.specs.Clear.{Values, start_values, clear_at}
use Rattle.beet_gates.specs.Deals.{deals_of}
use Rattle.beet_gates.specs.Linears.{one_term}
use Rattle.beet_gates.specs.Opened.{OpensAlike}
use Rattle.beet_gates.specs.Scripts.{HasWords, bounds_of, start_of}
use Rattle.beet_gates.proofs.AllAlong.{opened-along}
use Rattle.beet_gates.proofs.PlanFacts.{plan-runs}
use Rattle.beet_gates.proofs.PlanNumbers.{plan-opened}
use Rattle.beet_compare.specs.Compare.{doubled}
use Rattle.beet_masking.specs.Accepting.{masked_rounds}
use Rattle.beet_masking.specs.Blocks.{Blocks, blocks_of}
use Rattle.beet_masking.specs.Compared.{item_compared}
use Rattle.beet_masking.specs.Masks.{AreMasks, mask_at}
use Rattle.beet_masking.proofs.AlikeMasks.{Alike, spent-same, dealt-spent-same, dealt-for-same}
use Rattle.beet_masking.proofs.Places.{along-start, compared-accepted, compared-early}
use Rattle.beet_masking.proofs.Words.{deals-words}
use Rattle.beet_round.specs.Sides.{peer}
use Rattle.beet_round.specs.declared.sides.Side.TheVariants.{Low}
use Rattle.beet_turned.specs.MappedMasks.{MasksMapped, loss_in, mask_mapped}
use Rattle.beet_turned.specs.Turn.{turned}
use Rattle.beet_turned.proofs.MaskFacts.{mask-turned, mask-ones}
use Rattle.beet_turned.proofs.MasksBack.{compared-map}
use Rattle.beet_turned.proofs.Small.{mapped-masks}
use Rattle.beet_turned.proofs.Turned.{turned-opens}
use Rattle.beet_sale_plan.specs.Kept.{Kept, kept_after, kept_first, compared_from, compared_of}
use Rattle.beet_sale_plan.specs.Outcome.{IsSale}
use Rattle.beet_sale_plan.specs.Sale.{Sale, bidders_of, sale_plan, sale_batch, comparisons, most_rounds, most_masks}
use Rattle.beet_sale_plan.specs.Sale.{most_coefficients, most_wires}
use Rattle.beet_sale_plan.specs.SaleRuns.{rounds_of_sale, values_of_sale}
use Rattle.beet_sale_plan.proofs.Ending.{may-select}
use Rattle.beet_sale_plan.proofs.SaleClaims.{sale-claim}
use Rattle.beet_sale_plan.proofs.SaleFacts.{is-sale, kept_of, sale-only}
use Rattle.beet_sale_plan.proofs.SaleRun.{sale-run, keeps-start}
use Rattle.beet_sale_plan.proofs.SaleStands.{plan-stands, follows-itself}
use Rattle.beet_sale_map.specs.Losses.{lost, compared_both, losses_of}

both-length : {A B : Type 0} (xs : List A) (ys : List B) → length (zip xs ys) ≤ length xs
both-length [] ys = omega arith
both-length (x ∷ xs) [] = omega arith
both-length (x ∷ xs) (y ∷ ys) = omega (arith, both-length xs ys)

compared-length : (bid : ℕ → ℕ) (n j : ℕ) (k : Kept) → length (compared_from bid n j k) ≡ 2 * n
compared-length bid zero j k = refl
compared-length bid (suc n) j k = omega (arith, compared-length bid n (j + 1) (kept_after k (bid j) (j + 1)))

-- the rounds of runs whose masks count alike
rounds-same : (g : Blocks) (masks masks' : ℕ → ℕ) (c last : ℕ) → Alike masks masks' →
    masked_rounds g masks' c last ≡ masked_rounds g masks c last
rounds-same g masks masks' c last a =
    rw (spent-same masks masks' a c, dealt-spent-same masks masks' a c, dealt-for-same masks masks' a c) refl

module _ (s : Point) (sale : Sale) (bids bids' : List ℕ) (words words' : Trio (List ℕ)) (some : 1 ≤ sale.further)
    (few : bidders_of sale < 2 ^ 48) (len : length bids ≡ bidders_of sale) (len' : length bids' ≡ bidders_of sale)
    (small : (j : ℕ) → j < bidders_of sale → slice_index bids j < 2 ^ 48)
    (small' : (j : ℕ) → j < bidders_of sale → slice_index bids' j < 2 ^ 48)
    (m : AreMasks words) (enough : HasWords (most_masks sale) words)
    (mapped : MasksMapped s (losses_of sale.further bids bids') words words')
    (winner price : ℕ) (is : IsSale bids winner price) (is' : IsSale bids' winner price) where
  items : List ((ℕ × ℕ) × (ℕ × ℕ))
  items = compared_both sale.further bids bids'

  alike : Alike (mask_at words) (mask_at words')
  alike = record { same = mask-ones (losses_of sale.further bids bids') words words' s mapped }

  small-masks : AreMasks words'
  small-masks = mapped-masks (losses_of sale.further bids bids') s words words' m mapped

  -- what each comparison opens
  same-opened : (i : ℕ) (item : (ℕ × ℕ) × (ℕ × ℕ)) →
      item_compared (compared_both sale.further bids bids') (mask_at words) i ≡ Some item →
      add_of (doubled item.1.0 item.1.1) (mask_at words' i) ≡ add_of (doubled item.0.0 item.0.1) (mask_at words i)
  same-opened i item e =
      let all = compared_both sale.further bids bids' in
      let some = compared-accepted (mask_at words) all i item e in
      let early = compared-early (mask_at words) all i item e in
      let short = both-length (compared_of (slice_index bids) sale.further) (compared_of (slice_index bids') sale.further) in
      let long = compared-length (slice_index bids) sale.further 1 (kept_first (slice_index bids)) in
      let there : most_masks sale ≤ length (member words (peer s Low)) =
      at-each (λ list. most_masks sale ≤ length list) words enough (peer s Low) in
      let lt : i < length (member words (peer s Low)) = omega (arith, there, early, short, long) in
      let loss : loss_in (losses_of sale.further bids bids') words i ≡ Some (lost item) =
      compared-map lost all (mask_at words) i ∙ ap (option_map lost) e in
      let mask : mask_at words' i ≡ turned (mask_at words i) (lost item) =
      mask-turned (losses_of sale.further bids bids') words words' s mapped i lt ∙ ap (mask_mapped (mask_at words i)) loss in
      ap (add_of (doubled item.1.0 item.1.1)) mask
      ∙ turned-opens (mask_at words i) (doubled item.0.0 item.0.1) (doubled item.1.0 item.1.1) some (omega arith) (omega arith)

  same-numbers : (values_of_sale sale bids' words').opened ≡ (values_of_sale sale bids words).opened
  same-numbers =
      let n = bidders_of sale in
      let g = blocks_of sale.gates in
      let bid = slice_index bids in
      let bid' = slice_index bids' in
      let plan = sale_plan sale in
      let bounds = bounds_of (most_wires sale) (most_masks sale) (most_coefficients sale) in
      let stands = plan-stands sale in
      let start = start_values bids in
      let start' = start_values bids' in
      let k = kept_of bid sale.further in
      let k' = kept_of bid' sale.further in
      let one = sale-only bids winner price k.who k.next is (is-sale bids sale.further len some) in
      let two = sale-only bids' winner price k'.who k'.next is' (is-sale bids' sale.further len' some) in
      let claim = sale-claim g (may-select sale.gates) (deals_of words) (deals_of words') (mask_at words) (mask_at words')
      (deals-words words m) (deals-words words' small-masks) alike (compared_both sale.further bids bids') same-opened
      n few bid bid' small small' sale.further 1 2 n 0 None (one_term 1 (0, 0)) (one_term 0 (0, 0)) (kept_first bid)
      (kept_first bid') start start'
      (omega arith) (omega arith) len len' refl refl (keeps-start n bids len (omega arith) small)
      (keeps-start n bids' len' (omega arith) small')
      (along-start (mask_at words) (compared_both sale.further bids bids')) (two.0 ∙ sym one.0) (two.1 ∙ sym one.1) in
      let run = plan-runs (sale_batch sale) (deals_of words) bids bounds plan (start_of n) (most_rounds sale) stands
      (follows-itself sale) in
      let run' = plan-runs (sale_batch sale) (deals_of words') bids' bounds plan (start_of n) (most_rounds sale) stands
      (follows-itself sale) in
      ap (λ (v : Values). v.opened) run'.values
      ∙ plan-opened (deals_of words') bounds plan (start_of n) (most_rounds sale) start' stands
      ∙ claim.numbers
      ∙ sym (ap (λ (v : Values). v.opened) run.values
      ∙ plan-opened (deals_of words) bounds plan (start_of n) (most_rounds sale) start stands)

  same-rounds : rounds_of_sale sale bids' words' ≡ rounds_of_sale sale bids words
  same-rounds =
      (sale-run sale bids' words' few len' small' small-masks).rounds
      ∙ rounds-same (blocks_of sale.gates) (mask_at words) (mask_at words') (comparisons sale) 1 alike
      ∙ sym (sale-run sale bids words few len small m).rounds

  pub opens-alike : OpensAlike (sale_batch sale) (most_rounds sale) bids words bids' words'
  opens-alike =
      let r = rounds_of_sale sale bids words in
      let all : (clear_at (sale_batch sale) (deals_of words') bids' (suc r)).opened
      ≡ (clear_at (sale_batch sale) (deals_of words) bids (suc r)).opened =
      ap (λ n. (clear_at (sale_batch sale) (deals_of words') bids' (suc n)).opened) (sym same-rounds) ∙ same-numbers in
      record {
        rounds = same-rounds;
        in_the_end = same-numbers;
        all_along = λ t le. opened-along (sale_batch sale) (deals_of words) (deals_of words') bids bids' (suc r) all t (omega arith);
      }
