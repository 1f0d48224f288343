-- The law of a sale's script.
use Rattle.std.proofs.Common.{◌≡◌, ℕ, zero, suc, ◌+◌, ◌*◌, ◌<◌, ◌≤◌, List, [], ◌∷◌, length, Option, Some, None, refl, arith}
use Rattle.std.proofs.Common.{zero-add}
use Rattle.beet_gates.specs.declared.Linear.{Linear}
use Rattle.beet_gates.specs.declared.Gates.{Gates}
use Rattle.beet_gates.specs.declared.Gates.TheVariants.{Chain, Tree}
use Rattle.beet_gates.specs.Batches.{reveal_batch}
use Rattle.beet_gates.specs.Linears.{one_term}
use Rattle.beet_gates.specs.Plans.{Plan, plan_finish}
use Rattle.beet_gates.proofs.PlanRuns.{PlanStands}
use Rattle.beet_gates.specs.Scripts.{Standing, LawFrom, LetsBelow, TermsBelow, start_of, bounds_of}
use Rattle.beet_gates.proofs.PlanFacts.{Follows, plan-law, stands-last}
use Rattle.beet_masking.specs.Accepting.{until_accepted}
use Rattle.beet_masking.specs.Blocks.{Blocks, blocks_of}
use Rattle.beet_masking.proofs.Standing.{Room, nothing}
use Rattle.beet_sale_plan.specs.Selections.{selection_plan, result_wire}
use Rattle.beet_sale_plan.specs.Sale.{Sale, bidders_of, best_lets, best_wire, first_selection, second_selection, sold, sale_from}
use Rattle.beet_sale_plan.specs.Sale.{sale_plan, sale_batch, sum_let, comparisons, most_rounds, most_masks, most_coefficients}
use Rattle.beet_sale_plan.specs.Sale.{most_wires}
use Rattle.beet_sale_plan.specs.declared.SaleEnd.{SaleEnd}
use Rattle.beet_sale_plan.specs.declared.SaleEnd.TheVariants.{MasksSpent}
use Rattle.beet_sale_plan.proofs.Ending.{MaySelect, may-select}
use Rattle.beet_sale_plan.proofs.SelectionStands.{SelectionStands, selected, selection-stands}

terms-later : (n m : ℕ) (ts : List (ℕ × ℕ)) → n ≤ m → TermsBelow n ts → TermsBelow m ts
terms-later n m [] l h = tt
terms-later n m (t ∷ ts) l h = (omega (arith, h.0), terms-later n m ts l h.1)

pub until-none : {F : Type 0} (g : Blocks) (spent : F) (spare first : ℕ) (next : ℕ → ℕ → Plan F) →
    plan_finish (until_accepted g spent spare first next) [] ≡ None
unfolding until_accepted plan_finish
until-none g spent zero first next = refl
until-none g spent (suc spare) first next = refl

-- a sale has not ended before a number is opened
pub sale-none : (g : Blocks) (n bid spare first : ℕ) (best : Option ℕ) (who next : Linear) →
    plan_finish (sale_from g n bid spare first best who next) [] ≡ None
unfolding sale_from plan_finish
sale-none g zero bid spare first best who next = refl
sale-none g (suc n) bid spare first best who next = until-none g MasksSpent spare first _

-- the wire of the greatest bid so far stands, where its let is made
abbrev BestBelow : Option ℕ → ℕ → Type 0
BestBelow None wires = 1 ≤ wires
BestBelow (Some wire) wires = wire < wires

record BestStands (best : Option ℕ) (free : ℕ) : Type 0 where
  lets : LetsBelow free (best_lets best)
  there : best_wire best free < free + length (best_lets best)
  few : length (best_lets best) ≤ 1

best-stands : (best : Option ℕ) (wires free : ℕ) → BestBelow best wires → wires ≤ free → BestStands best free
best-stands None wires free b l =
    record { lets = ((omega arith, (omega arith, (omega arith, tt))), tt); there = omega arith; few = omega arith }
best-stands (Some wire) wires free b l = record { lets = tt; there = omega arith; few = omega arith }

module _ (bounds : Standing) (g : Blocks) (may : MaySelect g) where
  first-stands : (bid : ℕ) (best : Option ℕ) (who : Linear) (wires free : ℕ) → bid < wires → BestBelow best wires →
      TermsBelow wires who.terms → wires ≤ free → SelectionStands g (first_selection g bid best who free) free
  first-stands bid best who wires free b h w l =
      let some = may.some in
      let s = best-stands best wires free h l in
      record {
        before = s.lets;
        left_there = s.there;
        right_there = omega arith;
        after = (
          terms-later wires (free + length (best_lets best) + g.compare_wires) who.terms (omega arith) w,
          (
            (omega (arith, s.there), (omega arith, (omega arith, tt))),
            ((omega (arith, some), (omega arith, (omega arith, tt))), tt),
          ),
        );
        pairs = (omega (arith, some), omega (arith, some), (omega (arith, some), omega (arith, some), tt));
        some = omega arith;
        few = omega arith;
        wires = omega (arith, s.few);
      }

  second-stands : (bid best product : ℕ) (next : Linear) (wires free : ℕ) → bid < wires → best < wires → product < wires →
      TermsBelow wires next.terms → wires ≤ free → SelectionStands g (second_selection g bid best product next free) free
  second-stands bid best product next wires free b h q w l =
      let some = may.some in
      record {
        before = (
          terms-later wires free next.terms l w,
          (
            (omega arith, (omega arith, (omega arith, tt))),
            ((omega arith, (omega arith, (omega arith, tt))), tt),
          ),
        );
        left_there = omega arith;
        right_there = omega arith;
        after = ((omega arith, (omega arith, (omega arith, tt))), tt);
        pairs = (omega (arith, some), omega (arith, some), tt);
        some = omega arith;
        few = omega arith;
        wires = omega arith;
      }

  pub sale-stands : (n bid spare m : ℕ) (best : Option ℕ) (who next : Linear) (s : Standing) →
      Room g (selected g) nothing bounds s m (2 * n) spare 2 →
      bid + n ≤ s.wires → BestBelow best s.wires → TermsBelow s.wires who.terms → TermsBelow s.wires next.terms →
      PlanStands bounds m s (sale_from g n bid spare s.wires best who next)
  unfolding sale_from
  sale-stands zero bid spare m best who next s room all there w x =
      let b = reveal_batch (who ∷ next ∷ []) (s.wires ∷ (s.wires + 1) ∷ []) in
      stands-last bounds m s b 2 sold (
        (w, (terms-later s.wires (s.wires + 1) next.terms (omega arith) x, tt)),
        (omega arith, (omega arith, (omega arith, tt))),
        (omega arith, omega arith),
      )
      (omega (arith, room.room_wires), omega (arith, room.room_masks), omega (arith, room.room_coefficients)) refl (omega arith)
      (omega (arith, room.room_rounds))
  sale-stands (suc n) bid spare m best who next s room all there w x =
      let some = may.some in
      let count : 2 * suc n ≡ suc (suc (2 * n)) = omega arith in
      let below : bid < s.wires = omega arith in
      let goes2 : ℕ → ℕ → ℕ → Plan SaleEnd = λ o left free.
      sale_from g n (bid + 1) left (result_wire g (free + 3) + 2 + 1) (Some (free + 1)) (one_term (bid + 1) (1, o + 4 + 1))
      (sum_let (free + 2) (result_wire g (free + 3) + 2)) in
      let goes1 : ℕ → ℕ → Plan SaleEnd = λ left free.
      selection_plan g MasksSpent
      (second_selection g bid (best_wire best free) (result_wire g (free + length (best_lets best)) + 4) next) left
      (result_wire g (free + length (best_lets best)) + 4 + 2) (goes2 (result_wire g (free + length (best_lets best)))) in
      selection-stands bounds g may MasksSpent (first_selection g bid best who) spare m (suc (2 * n)) 2 s goes1 (rw count at room)
      (λ free l. first-stands bid best who s.wires free below there w l)
      (λ left free m' t l at room'.
      let o = result_wire g (free + length (best_lets best)) in
      let wire = best_wire best free in
      let b = best-stands best s.wires free there l in
      let here : t.wires ≡ o + 4 + 2 = omega (arith, at, some) in
      rw (← here) (selection-stands bounds g may MasksSpent (second_selection g bid wire (o + 4) next) left m' (2 * n) 2 t (goes2 o) room'
      (λ free2 l2. second-stands bid wire (o + 4) next t.wires free2 (omega (arith, at, l, below)) (omega (arith, at, b.there))
      (omega (arith, here)) (terms-later s.wires t.wires next.terms (omega (arith, at, l)) x) l2)
      (λ left2 free2 m2 u l2 at2 room2.
      let o' = result_wire g (free2 + 3) in
      let here2 : u.wires ≡ o' + 2 + 1 = omega (arith, at2, some) in
      rw (← here2) (sale-stands n (bid + 1) left2 m2 (Some (free2 + 1)) (one_term (bid + 1) (1, o + 4 + 1))
      (sum_let (free2 + 2) (o' + 2)) u room2
      (omega (arith, all, at, at2, l, l2)) (omega (arith, at2))
      (omega (arith, here, at2, l2), (omega (arith, at2), (omega (arith, at2), tt)))
      (omega (arith, at2), (omega (arith, here2), (omega (arith, at2), tt)))))
      (λ left2 free2. sale-none g n (bid + 1) left2 (result_wire g (free2 + 3) + 2 + 1) (Some (free2 + 1))
      (one_term (bid + 1) (1, o + 4 + 1)) (sum_let (free2 + 2) (result_wire g (free2 + 3) + 2)))))
      (λ left free. until-none g MasksSpent left (result_wire g (free + length (best_lets best)) + 4 + 2) _)

pub follows-itself : (sale : Sale) → Follows (sale_batch sale) 0 [] (sale_plan sale)
follows-itself sale = record { batch = λ d more. rw zero-add refl }

room-start : (gates : Gates) (further : ℕ) →
    (let sale : Sale = record { further = further; gates = gates } in
    Room (blocks_of gates) (selected (blocks_of gates)) nothing
    (bounds_of (most_wires sale) (most_masks sale) (most_coefficients sale)) (start_of (bidders_of sale)) (most_rounds sale)
    (comparisons sale) 2 2)
room-start Chain further = record {
  dealers = refl;
  room_wires = omega arith;
  room_masks = omega arith;
  room_coefficients = omega arith;
  room_rounds = omega arith;
}
room-start Tree further = record {
  dealers = refl;
  room_wires = omega arith;
  room_masks = omega arith;
  room_coefficients = omega arith;
  room_rounds = omega arith;
}

pub plan-stands : (sale : Sale) →
    PlanStands (bounds_of (most_wires sale) (most_masks sale) (most_coefficients sale)) (most_rounds sale)
    (start_of (bidders_of sale)) (sale_plan sale)
plan-stands sale =
    let g = blocks_of sale.gates in
    let one : TermsBelow (bidders_of sale) ((0, 0) ∷ (0, 0) ∷ (0, 0) ∷ []) =
    (omega arith, (omega arith, (omega arith, tt))) in
    sale-stands (bounds_of (most_wires sale) (most_masks sale) (most_coefficients sale)) g (may-select sale.gates) sale.further 1 2
    (most_rounds sale) None (one_term 1 (0, 0)) (one_term 0 (0, 0)) (start_of (bidders_of sale))
    (room-start sale.gates sale.further) (omega arith) (omega arith) one one

pub sale-law : (sale : Sale) →
    LawFrom (sale_batch sale) (bounds_of (most_wires sale) (most_masks sale) (most_coefficients sale)) (most_rounds sale)
    (start_of (bidders_of sale)) []
sale-law sale =
    plan-law (sale_batch sale) (bounds_of (most_wires sale) (most_masks sale) (most_coefficients sale)) (sale_plan sale)
    (start_of (bidders_of sale)) (most_rounds sale) [] (plan-stands sale) (follows-itself sale)
