-- How a walk has ended, and that a winner's number is small.
use Rattle.std.proofs.Common.{◌≡◌, ℕ, zero, suc, ◌≤◌, ◌<◌, ◌^◌, List, [], ◌∷◌, ◌++◌, slice_index, Option, Some, None, refl, ap}
use Rattle.std.proofs.Common.{sym, ◌∙◌, arith, true, false}
use Rattle.std.specs.Prelude.{IfSome, Bool, if◌then◌else◌}
use Rattle.std.proofs.lemmas.List.Elements.{All-get_or}
use Rattle.beet_gates.specs.Batches.{end_batch}
use Rattle.beet_gates.specs.Ends.{TellsEnd}
use Rattle.beet_gates.specs.Scripts.{bounds_of, start_of}
use Rattle.beet_gates.proofs.Ended.{plan-tells}
use Rattle.beet_gates.specs.Plans.{Plan, Ended, Block, Quiet, Last, plan_finish}
use Rattle.beet_masking.specs.Blocks.{blocks_of}
use Rattle.beet_masking.specs.Masks.{is_spent, mask_at}
use Rattle.beet_sale_plan.specs.Outcome.{IsBid}
use Rattle.beet_sale_plan.specs.Sale.{Sale, bidders_of, comparisons, sale_plan, sale_batch, sold}
use Rattle.beet_sale_plan.specs.Sale.{most_rounds, most_masks, most_coefficients, most_wires}
use Rattle.beet_sale_plan.specs.SaleRuns.{AreOpened, SaleEnds}
use Rattle.beet_sale_plan.specs.declared.SaleEnd.{SaleEnd}
use Rattle.beet_sale_plan.specs.declared.SaleEnd.TheVariants.{MasksSpent, Sold as SoldEnd}
use Rattle.beet_sale_plan.specs.declared.TheConstants.{MOST_SALE_BIDDERS}
use Rattle.beet_sale_plan.proofs.Quietly.{quietly-finish}
use Rattle.beet_sale_plan.proofs.SaleFacts.{kept-few, kept_of}
use Rattle.beet_sale_plan.proofs.SaleRun.{sale-run}
use Rattle.beet_sale_plan.proofs.SaleStands.{follows-itself, plan-stands, sale-none, until-none}
use Rattle.beet_sale_script.specs.Walk.{IsSmallStage, plan_at, stage_plan, tail_batches}
use Rattle.beet_sale_script.specs.declared.walk.Stage.{Stage}
use Rattle.beet_sale_script.specs.declared.walk.Stage.TheVariants.{First, FirstMasked, Second, SecondMasked, Price, Sold, Spent}
use Rattle.beet_sale_script.specs.declared.walk.Walk.{Walk}

-- a winner's number fits, if there is one
abbrev pub IsSmallEnd : SaleEnd → Type 0
IsSmallEnd (SoldEnd winner price) = winner < 2 ^ 32
IsSmallEnd MasksSpent = Unit {0}

-- how a stage has ended, if it has
abbrev pub stage_end : Stage → Option SaleEnd
stage_end First = None
stage_end FirstMasked = None
stage_end Second = None
stage_end SecondMasked = None
stage_end (Price winner) = None
stage_end (Sold winner price) = Some (sold (winner ∷ price ∷ []))
stage_end Spent = Some MasksSpent

stage-finish : (w : Walk) (s : Stage) → plan_finish (stage_plan s w) [] ≡ stage_end s
unfolding plan_finish
stage-finish w First = sale-none (blocks_of w.gates) w.left w.bid w.spare w.first w.best w.who w.next
stage-finish w FirstMasked = refl
stage-finish w Second = until-none (blocks_of w.gates) MasksSpent w.spare w.first _
stage-finish w SecondMasked = refl
stage-finish w (Price winner) = refl
stage-finish w (Sold winner price) = refl
stage-finish w Spent = refl

pub finish-is : (w : Walk) (s : Stage) → w.stage ≡ s → stage_end s ≡ plan_finish (plan_at w) []
finish-is w s e =
    sym (quietly-finish (stage_plan w.stage w) (tail_batches w.tail w) []
    ∙ ap (λ (t : Stage). plan_finish (stage_plan t w) []) e ∙ stage-finish w s)

small-stage : (s : Stage) → IfSome (stage_end s) IsSmallEnd → IsSmallStage s
small-stage First h = tt
small-stage FirstMasked h = tt
small-stage Second h = tt
small-stage SecondMasked h = tt
small-stage (Price winner) h = tt
small-stage (Sold winner price) h = h
small-stage Spent h = tt

pub small-at : (w : Walk) → IfSome (plan_finish (plan_at w) []) IsSmallEnd → IsSmallStage w.stage
small-at w h = small-stage w.stage (rw (finish-is w w.stage refl) h)

-- a finish that is told stays, whatever is opened after it
finish-stays : {F : Type 0} (plan : Plan F) (xs ys : List ℕ) (f : F) → plan_finish plan xs ≡ Some f → plan_finish plan (xs ++ ys) ≡ Some f
unfolding plan_finish
finish-stays (Ended g) xs ys f e = e
finish-stays (Block bs next) [] ys f e = cc e
finish-stays (Block bs next) (x ∷ xs) ys f e = finish-stays (next x) xs ys f e
finish-stays (Quiet b rest) xs ys f e = finish-stays rest xs ys f e
finish-stays (Last b zero named) xs ys f e = e
finish-stays (Last b (suc n) named) [] ys f e = cc e
finish-stays (Last b (suc n) named) (x ∷ xs) ys f e = finish-stays (Last end_batch n (λ more. named (x ∷ more))) xs ys f e

-- the numbers that a sale opens name a bidder
small-finish : (b : Bool) (winner price : ℕ) → winner < 2 ^ 32 → IsSmallEnd (if b then MasksSpent else SoldEnd winner price)
small-finish true winner price h = tt
small-finish false winner price h = h

by-finish : (o : Option SaleEnd) (f : SaleEnd) → ((g : SaleEnd) → o ≡ Some g → Some f ≡ Some g) → IsSmallEnd f → IfSome o IsSmallEnd
by-finish None f same small = tt
by-finish (Some g) f same small =
    let e : f ≡ g = cc (same g refl) in
    rw e at small

pub opened-small : (s : Sale) (opened : List ℕ) → bidders_of s ≤ MOST_SALE_BIDDERS → AreOpened s opened →
    IfSome (plan_finish (sale_plan s) opened) IsSmallEnd
opened-small s opened few a =
    let below : (j : ℕ) → j < bidders_of s → slice_index a.bids j < 2 ^ 48 =
    λ j h. let b = All-get_or IsBid a.bids j 0 (omega (arith, a.count, h)) a.limits in omega (arith, b) in
    let k = kept_of (slice_index a.bids) s.further in
    let run : SaleEnds s a.bids a.words k.who k.next = sale-run s a.bids a.words (omega (arith, few)) a.count below a.masks in
    let spent = is_spent (mask_at a.words) (comparisons s) in
    let f : SaleEnd = if spent then MasksSpent else SoldEnd k.who k.next in
    let ends : plan_finish (sale_plan s) (opened ++ a.later) ≡ Some f = ap (plan_finish (sale_plan s)) (sym a.are) ∙ run.ends in
    let whose = kept-few (slice_index a.bids) s.further in
    by-finish (plan_finish (sale_plan s) opened) f
    (λ g e. sym ends ∙ finish-stays (sale_plan s) opened a.later g e)
    (small-finish spent k.who k.next (omega (arith, whose, few)))

-- the finish is there exactly at the end
pub sale-tells : (s : Sale) (opened : List ℕ) → TellsEnd (sale_batch s) opened (plan_finish (sale_plan s) opened)
sale-tells s = plan-tells (sale_batch s) (sale_plan s) (bounds_of (most_wires s) (most_masks s) (most_coefficients s))
    (most_rounds s) (start_of (bidders_of s)) (plan-stands s) (follows-itself s)
