-- How the auction's run on any inputs ends, and after how many rounds.
use Rattle.std.proofs.Common.{◌≡◌, ℕ, [], ◌+◌, ◌*◌, ◌^◌, ◌<◌, Bool, List, length, slice_index, Some, refl, ap, ◌∙◌, arith, zero-add}
use Rattle.std.specs.Prelude.{All, if◌then◌else◌}
use Rattle.std.proofs.lemmas.List.Elements.{All-get_or}
use Rattle.beet_field.specs.Field.{IsElement}
use Rattle.beet_field.specs.declared.trio.Trio.{Trio}
use Rattle.beet_gates.specs.Clear.{Values, start_values}
use Rattle.beet_gates.specs.Deals.{deals_of}
use Rattle.beet_gates.specs.Plans.{plan_batch, plan_finish}
use Rattle.beet_gates.specs.Scripts.{bounds_of, start_among}
use Rattle.beet_gates.proofs.PlanFacts.{Follows, plan-runs, plan-ends}
use Rattle.beet_bids.specs.Grids.{comparisons_of}
use Rattle.beet_bids.specs.declared.outcomes.Policy.{Policy}
use Rattle.beet_bids.proofs.GridFacts.{below_comparisons}
use Rattle.beet_compare.specs.Compare.{is_doubled_even}
use Rattle.beet_masking.specs.Blocks.{Blocks, blocks_of, five_blocks}
use Rattle.beet_masking.specs.Masks.{AreMasks, is_spent, mask_at}
use Rattle.beet_masking.proofs.AlikeMasks.{Alike}
use Rattle.beet_masking.proofs.BlockLaws.{AreBlocks, are-blocks, are-five_blocks}
use Rattle.beet_masking.proofs.Counts.{spent_from, spent-start}
use Rattle.beet_masking.proofs.Places.{along-start}
use Rattle.beet_masking.proofs.Rounds.{rounds-whole}
use Rattle.beet_masking.proofs.Words.{Deals, deals-words}
use Rattle.beet_plan.specs.Auction.{Auction, most_coefficients_of, most_masks_of, most_rounds_with, most_wires_with, plan_with}
use Rattle.beet_plan.specs.Runs.{EndsWith, RunEnds, found, place_of_inputs, place_over}
use Rattle.beet_plan.specs.Search.{tested, path, place_found}
use Rattle.beet_plan.specs.declared.Finish.{Finish}
use Rattle.beet_plan.specs.declared.Finish.TheVariants.{MasksSpent}
use Rattle.beet_plan.proofs.AuctionLaw.{plan-stands}
use Rattle.beet_plan.proofs.BlockSteps.{Stands, AreElements}
use Rattle.beet_plan.proofs.SearchClaims.{rounds_opening, search-claim}
use Rattle.beet_plan.proofs.Searches.{tested-path}

pub plan-run : (g : Blocks) → AreBlocks g → (policy : Policy) (prices : ℕ) (inputs : List ℕ) (deals : ℕ → List ℕ) (masks : ℕ → ℕ) →
    length inputs ≡ 2 * prices → All IsElement inputs → Deals g.words deals masks →
    EndsWith g policy prices inputs deals masks (place_over prices inputs)
    (found policy prices (slice_index inputs) (λ k. slice_index inputs (prices + k)) (place_over prices inputs))
plan-run g are policy prices inputs deals masks len all d =
    let l = comparisons_of prices in
    let plan = plan_with g policy prices in
    let most = most_rounds_with g prices in
    let supply = slice_index inputs in
    let demand = λ (k : ℕ). slice_index inputs (prices + k) in
    let test = λ (k : ℕ). is_doubled_even (supply k) (demand k) in
    let z = place_found prices test in
    let start = start_values inputs in
    let bounds = bounds_of (most_wires_with g prices) (most_masks_of prices) (most_coefficients_of prices) in
    let stands = plan-stands g are policy prices in
    let follows : Follows (plan_batch plan) 0 [] plan = record { batch = λ k more. rw zero-add refl } in
    let elements : AreElements prices supply demand = record {
      supply_element = λ k h. All-get_or IsElement inputs k 0 (omega arith) all;
      demand_element = λ k h. All-get_or IsElement inputs (prices + k) 0 (omega arith) all;
    } in
    let s : Stands prices supply demand (2 * prices) 0 start = record {
      len = len;
      supplies = record { room = omega arith; at = λ k h. rw zero-add refl };
      demands = record { room = omega arith; at = λ k h. refl };
      dealt = refl;
    } in
    let few : prices < 0 + 2 ^ l = omega (arith, below_comparisons prices) in
    let same : tested test l 0 prices ≡ path prices z = tested-path test l 0 prices z refl in
    let e = plan-ends deals bounds plan (start_among g.words (2 * prices)) most start stands in
    let run = plan-runs (plan_batch plan) deals inputs bounds plan (start_among g.words (2 * prices)) most stands follows in
    let places = tested test l 0 prices in
    let alike : Alike masks masks = record { same = λ i. refl } in
    let c = search-claim g are policy deals deals masks masks prices places supply demand supply demand test d d alike
    elements elements (λ k h. refl) (λ k h. refl)
    (λ i m h k. refl) l 0 prices 2 (2 * prices) 0 start start s s (omega arith) (omega arith) (omega arith) few
    (along-start masks places) refl in
    let spent : spent_from masks 0 0 (length (tested test l 0 prices)) ≡ is_spent masks (length (path prices z)) =
    ap (λ (t : List ℕ). spent_from masks 0 0 (length t)) same ∙ spent-start masks (length (path prices z)) in
    record {
      ends =
          ap (λ (v : Values). plan_finish plan v.opened) run.values ∙ ap (plan_finish plan) e.1 ∙ e.2
          ∙ ap (λ (f : Finish). Some f) (c.finish ∙ ap (λ (b : Bool). if b then MasksSpent else found policy prices supply demand z) spent);
      rounds = run.rounds ∙ rounds-whole g masks (length (path prices z)) (rounds_opening policy prices z) _ (rw same at c.rounds);
    }

pub auction-run : (a : Auction) (inputs : List ℕ) (words : Trio (List ℕ)) → length inputs ≡ 2 * a.prices →
    All IsElement inputs → AreMasks words →
    RunEnds a inputs words (place_of_inputs a inputs)
    (found a.policy a.prices (slice_index inputs) (λ k. slice_index inputs (a.prices + k)) (place_of_inputs a inputs))
auction-run a inputs words len all m =
    let run = plan-run (blocks_of a.gates) (are-blocks a.gates) a.policy a.prices inputs (deals_of words)
    (mask_at words) len all (deals-words words m) in
    record { ends = run.ends; rounds = run.rounds }

-- five servers deal words, whose exclusive or is a mask
pub five-run : (policy : Policy) (prices : ℕ) (inputs : List ℕ) (deals : ℕ → List ℕ) (masks : ℕ → ℕ) →
    length inputs ≡ 2 * prices → All IsElement inputs →
    Deals 5 deals masks → EndsWith five_blocks policy prices inputs deals masks (place_over prices inputs)
    (found policy prices (slice_index inputs) (λ k. slice_index inputs (prices + k)) (place_over prices inputs))
five-run policy prices inputs deals masks len all d = plan-run five_blocks are-five_blocks policy prices inputs deals masks len all d
