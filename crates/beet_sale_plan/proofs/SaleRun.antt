-- How a sale's run on plain values ends, and after how many rounds.
use Rattle.std.proofs.Common.{◌≡◌, ℕ, zero, suc, ◌^◌, ◌<◌, ◌≤◌, Bool, List, [], ◌∷◌, ◌++◌, length, slice_index}
use Rattle.std.proofs.Common.{slice_get, Some, None, refl, sym, ap, ◌∙◌, arith}
use Rattle.std.specs.Prelude.{if◌then◌else◌}
use Rattle.std.specs.List.{zip}
use Rattle.beet_field.specs.Field.{add_of}
use Rattle.beet_field.specs.declared.trio.Trio.{Trio}
use Rattle.beet_gates.specs.Clear.{Values, let_of, start_values}
use Rattle.beet_gates.specs.Deals.{deals_of}
use Rattle.beet_gates.specs.Linears.{one_term}
use Rattle.beet_gates.specs.Plans.{plan_finish}
use Rattle.beet_gates.specs.Scripts.{bounds_of, start_of}
use Rattle.beet_gates.proofs.PlanFacts.{plan-runs, plan-ends}
use Rattle.beet_gates.proofs.Segments.{index-append, index-new}
use Rattle.beet_gates.proofs.Sums.{value-three_terms}
use Rattle.beet_compare.specs.Compare.{doubled}
use Rattle.beet_masking.specs.Blocks.{blocks_of}
use Rattle.beet_masking.specs.Masks.{AreMasks, mask_at}
use Rattle.beet_masking.proofs.AlikeMasks.{Alike}
use Rattle.beet_masking.proofs.Counts.{spent-start}
use Rattle.beet_masking.proofs.Places.{along-start, some-place}
use Rattle.beet_masking.proofs.Rounds.{rounds-whole}
use Rattle.beet_masking.proofs.Words.{deals-words}
use Rattle.beet_sale_plan.specs.Sale.{Sale, bidders_of, sale_plan, sale_batch, comparisons, most_rounds, most_masks}
use Rattle.beet_sale_plan.specs.Sale.{most_coefficients, most_wires}
use Rattle.beet_sale_plan.specs.SaleRuns.{SaleEnds}
use Rattle.beet_sale_plan.specs.declared.SaleEnd.{SaleEnd}
use Rattle.beet_sale_plan.specs.declared.SaleEnd.TheVariants.{MasksSpent}
use Rattle.beet_sale_plan.specs.Kept.{kept_first, compared_of}
use Rattle.beet_sale_plan.proofs.Ending.{may-select}
use Rattle.beet_sale_plan.proofs.SaleClaims.{end_of, sale-claim}
use Rattle.beet_sale_plan.proofs.SaleFacts.{kept_of}
use Rattle.beet_sale_plan.proofs.SaleStands.{plan-stands, follows-itself}
use Rattle.beet_sale_plan.proofs.SaleWires.{Keeps}

both-of-one : {A : Type 0} (xs : List A) (k : ℕ) (item : A × A) → slice_get (zip xs xs) k ≡ Some item → item.1 ≡ item.0
both-of-one [] k item e = cc e
both-of-one (x ∷ xs) zero item e =
    let h : (x, x) ≡ item = cc e in ap (λ (t : _ × _). t.1) (sym h) ∙ ap (λ (t : _ × _). t.0) h
both-of-one (x ∷ xs) (suc k) item e = both-of-one xs k item e

-- the start
pub keeps-start : (n : ℕ) (bids : List ℕ) → length bids ≡ n → 1 ≤ n → ((j : ℕ) → j < n → slice_index bids j < 2 ^ 48) →
    Keeps n (slice_index bids) None (one_term 1 (0, 0)) (one_term 0 (0, 0)) (kept_first (slice_index bids)) (start_values bids)
keeps-start n bids len some small = record {
  room = omega arith;
  bids = λ j h. refl;
  best_is = λ more.
      let l = bids ++ more in
      let first : slice_index l 0 ≡ slice_index bids 0 = index-append bids more 0 (omega (arith, len, some)) in
      let s = small 0 (omega arith) in
      record {
        there = omega arith;
        is = index-new l (let_of l (one_term 0 (1, 0))) (length l) refl ∙ value-three_terms l 0 (1, 0) (0, 0) (0, 0)
            ∙ rw first (omega (arith, s));
      };
  who_is = λ more. value-three_terms (bids ++ more) 1 (0, 0) (0, 0) (0, 0) ∙ omega arith;
  next_is = λ more. value-three_terms (bids ++ more) 0 (0, 0) (0, 0) (0, 0) ∙ omega arith;
  small_best = small 0 (omega arith);
  small_who = omega arith;
  small_next = omega arith;
}

pub sale-run : (sale : Sale) (bids : List ℕ) (words : Trio (List ℕ)) → bidders_of sale < 2 ^ 48 → length bids ≡ bidders_of sale →
    ((j : ℕ) → j < bidders_of sale → slice_index bids j < 2 ^ 48) → AreMasks words →
    (let k = kept_of (slice_index bids) sale.further in SaleEnds sale bids words k.who k.next)
sale-run sale bids words few len small m =
    let n = bidders_of sale in
    let g = blocks_of sale.gates in
    let bid = slice_index bids in
    let masks = mask_at words in
    let deals = deals_of words in
    let d = deals-words words m in
    let plan = sale_plan sale in
    let start = start_values bids in
    let k = kept_of bid sale.further in
    let pairs = compared_of bid sale.further in
    let items = zip pairs pairs in
    let bounds = bounds_of (most_wires sale) (most_masks sale) (most_coefficients sale) in
    let stands = plan-stands sale in
    let alike : Alike masks masks = record { same = λ i. refl } in
    let s = keeps-start n bids len (omega arith) small in
    let claim = sale-claim g (may-select sale.gates) deals deals masks masks d d alike items
    (λ i item e. let p = some-place items masks i item e in
    let same = both-of-one pairs p.0 item p.1 in ap (λ (t : ℕ × ℕ). add_of (doubled t.0 t.1) (masks i)) same)
    n few bid bid small small sale.further 1 2 n 0 None (one_term 1 (0, 0)) (one_term 0 (0, 0)) (kept_first bid) (kept_first bid)
    start start
    (omega arith) (omega arith) len len refl refl s s (along-start masks items) refl refl in
    let e = plan-ends deals bounds plan (start_of n) (most_rounds sale) start stands in
    let run = plan-runs (sale_batch sale) deals bids bounds plan (start_of n) (most_rounds sale) stands (follows-itself sale) in
    record {
      ends =
          ap (λ (v : Values). plan_finish plan v.opened) run.values ∙ ap (plan_finish plan) e.1 ∙ e.2
          ∙ ap (λ (f : SaleEnd). Some f)
          (claim.finish ∙ ap (λ (b : Bool). if b then MasksSpent else end_of k) (spent-start masks (comparisons sale)));
      rounds = run.rounds ∙ rounds-whole g masks (comparisons sale) 1 _ claim.rounds;
    }
