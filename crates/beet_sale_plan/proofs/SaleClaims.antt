-- The runs of two sales, side by side: how the first ends, after how many rounds, and that both open the same numbers.
use Rattle.std.proofs.Common.{◌≡◌, ℕ, zero, suc, ◌+◌, ◌-◌, ◌*◌, ◌^◌, ◌<◌, ◌≤◌, Bool, List, [], ◌∷◌, ◌++◌, map, length, slice_index}
use Rattle.std.proofs.Common.{Option, Some, refl, ap, sym, ◌∙◌, arith, append-nil, length-append}
use Rattle.std.specs.Prelude.{min, if◌then◌else◌}
use Rattle.std.specs.List.{zip}
use Rattle.std.proofs.Math.Seq.{drop-append_seam}
use Rattle.beet_field.specs.Field.{add_of}
use Rattle.beet_gates.specs.declared.Linear.{Linear}
use Rattle.beet_gates.specs.Batches.{reveal_batch}
use Rattle.beet_gates.specs.Clear.{Values, with_lets, let_of, batch_on}
use Rattle.beet_gates.specs.Linears.{one_term}
use Rattle.beet_gates.specs.Plans.{Plan, Last}
use Rattle.beet_gates.proofs.PlanRuns.{all_opened_by, plan_end, plan_rounds}
use Rattle.beet_gates.proofs.PlanNumbers.{plan_numbers}
use Rattle.beet_gates.proofs.Segments.{index-append, index-new}
use Rattle.beet_compare.specs.Compare.{doubled}
use Rattle.beet_masking.specs.Blocks.{Blocks}
use Rattle.beet_masking.specs.Compared.{item_compared}
use Rattle.beet_masking.proofs.AlikeMasks.{Alike}
use Rattle.beet_masking.proofs.Claims.{Claim}
use Rattle.beet_masking.proofs.Counts.{spent-none}
use Rattle.beet_masking.proofs.Places.{Along}
use Rattle.beet_masking.proofs.Rounds.{rounds-none}
use Rattle.beet_masking.proofs.Words.{Deals}
use Rattle.beet_sale_plan.specs.Selections.{result_wire, selection_plan}
use Rattle.beet_sale_plan.specs.Sale.{best_lets, best_wire, first_selection, second_selection, sold, sale_from, sum_let}
use Rattle.beet_sale_plan.specs.declared.SaleEnd.{SaleEnd}
use Rattle.beet_sale_plan.specs.declared.SaleEnd.TheVariants.{Sold, MasksSpent}
use Rattle.beet_sale_plan.specs.Kept.{Kept, kept_after, compared_from}
use Rattle.beet_sale_plan.proofs.Ending.{MaySelect}
use Rattle.beet_sale_plan.proofs.SaleFacts.{kept_all}
use Rattle.beet_sale_plan.proofs.SaleWires.{Keeps, first-operands, after-first, second-operands, after-second}
use Rattle.beet_sale_plan.proofs.Selected.{selection-claim}

-- the finish that what is kept in the end tells
abbrev pub end_of : Kept → SaleEnd
end_of k = Sold k.who k.next

-- the last batch opens winner and price
abbrev last_plan : ℕ → Linear → Linear → Plan SaleEnd
last_plan first who next = Last (reveal_batch (who ∷ next ∷ []) (first ∷ (first + 1) ∷ [])) 2 sold

module _ (deals : ℕ → List ℕ) (first : ℕ) (who next : Linear) (w x : ℕ) (v : Values) (len : length v.wires ≡ first)
    (is_who : (more : List ℕ) → let_of (v.wires ++ more) who ≡ w) (is_next : (more : List ℕ) → let_of (v.wires ++ more) next ≡ x) where
  shown : all_opened_by v (batch_on deals (reveal_batch (who ∷ next ∷ []) (first ∷ (first + 1) ∷ [])) v) ≡ w ∷ x ∷ []
  shown =
      let a : let_of v.wires who ≡ w = rw append-nil at (is_who []) in
      let y = v.wires ++ w ∷ [] in
      let b : let_of y next ≡ x = is_next (w ∷ []) in
      let z = y ++ x ∷ [] in
      let lets : with_lets v.wires (who ∷ next ∷ []) ≡ z =
      ap (λ n. with_lets (v.wires ++ n ∷ []) (next ∷ [])) a ∙ ap (λ n. y ++ n ∷ []) b in
      let longer : length y ≡ first + 1 = omega (arith, length-append v.wires (w ∷ []), len) in
      let at_who : slice_index z first ≡ w = index-append y (x ∷ []) first (omega (arith, longer)) ∙ index-new v.wires w first len in
      let at_next : slice_index z (first + 1) ≡ x = index-new y x (first + 1) longer in
      drop-append_seam v.opened (map (slice_index (with_lets v.wires (who ∷ next ∷ []))) (first ∷ (first + 1) ∷ []))
      ∙ ap (λ (l : List ℕ). map (slice_index l) (first ∷ (first + 1) ∷ [])) lets
      ∙ rw (at_who, at_next) refl

  last-end : plan_end deals (last_plan first who next) v ≡ Sold w x
  unfolding plan_end
  last-end = ap sold shown

  last-rounds : plan_rounds deals (last_plan first who next) v ≡ 1
  unfolding plan_rounds
  last-rounds = refl

  last-numbers : plan_numbers deals (last_plan first who next) v ≡ w ∷ x ∷ []
  unfolding plan_numbers
  last-numbers = shown

module _ (g : Blocks) (may : MaySelect g) (deals deals' : ℕ → List ℕ) (masks masks' : ℕ → ℕ)
    (d : Deals g.words deals masks) (d' : Deals g.words deals' masks') (alike : Alike masks masks')
    (items : List ((ℕ × ℕ) × (ℕ × ℕ)))
    (opens : (i : ℕ) (item : (ℕ × ℕ) × (ℕ × ℕ)) → item_compared items masks i ≡ Some item →
    add_of (doubled item.1.0 item.1.1) (masks' i) ≡ add_of (doubled item.0.0 item.0.1) (masks i))
    (bidders : ℕ) (few : bidders < 2 ^ 48) (bid bid' : ℕ → ℕ) (small : (j : ℕ) → j < bidders → bid j < 2 ^ 48)
    (small' : (j : ℕ) → j < bidders → bid' j < 2 ^ 48) where
  pub sale-claim : (n j spare first i : ℕ) (best : Option ℕ) (who next : Linear) (k k' : Kept) (v v' : Values) → j + n ≡ bidders →
      spare ≤ 2 → length v.wires ≡ first → length v'.wires ≡ first → v.dealt ≡ i → v'.dealt ≡ i →
      Keeps bidders bid best who next k v → Keeps bidders bid' best who next k' v' →
      Along masks items i (2 - spare) (zip (compared_from bid n j k) (compared_from bid' n j k')) →
      (kept_all bid' n j k').who ≡ (kept_all bid n j k).who → (kept_all bid' n j k').next ≡ (kept_all bid n j k).next →
      Claim g masks i (2 - spare) (2 * n) MasksSpent (end_of (kept_all bid n j k)) 1 deals deals'
      (sale_from g n j spare first best who next) v v'
  unfolding sale_from
  sale-claim zero j spare first i best who next k k' v v' total hs len len' dealt dealt' s s' along won paid = record {
    finish = last-end deals first who next k.who k.next v len s.who_is s.next_is
        ∙ ap (λ (b : Bool). if b then MasksSpent else Sold k.who k.next) (sym (spent-none masks i (2 - spare) (omega arith)));
    rounds =
        rw (last-rounds deals first who next k.who k.next v len s.who_is s.next_is)
        (rounds-none g masks i (2 - spare) 1 (omega arith));
    numbers =
        last-numbers deals' first who next k'.who k'.next v' len' s'.who_is s'.next_is ∙ (λ i. won i ∷ paid i ∷ [])
        ∙ sym (last-numbers deals first who next k.who k.next v len s.who_is s.next_is);
  }
  sale-claim (suc n) j spare first i best who next k k' v v' total hs len len' dealt dealt' s s' along won paid =
      let here : j < bidders = omega arith in
      let sj = small j here in
      let sj' = small' j here in
      let bound : j + 1 < 2 ^ 48 = omega (arith, few) in
      let b = bid j in
      let b' = bid' j in
      let m = kept_after k b (j + 1) in
      let m' = kept_after k' b' (j + 1) in
      let more = zip (compared_from bid n (j + 1) m) (compared_from bid' n (j + 1) m') in
      let pair : (ℕ × ℕ) × (ℕ × ℕ) = ((k.best, b), (k'.best, b')) in
      let second : (ℕ × ℕ) × (ℕ × ℕ) = ((k.next, min k.best b), (k'.next, min k'.best b')) in
      let count : 2 * suc n ≡ suc (suc (2 * n)) = omega arith in
      let end = end_of (kept_all bid (suc n) j k) in
      let goes2 : ℕ → ℕ → ℕ → Plan SaleEnd = λ o left free.
      sale_from g n (j + 1) left (result_wire g (free + 3) + 2 + 1) (Some (free + 1)) (one_term (j + 1) (1, o + 4 + 1))
      (sum_let (free + 2) (result_wire g (free + 3) + 2)) in
      let goes1 : ℕ → ℕ → Plan SaleEnd = λ left free.
      selection_plan g MasksSpent
      (second_selection g j (best_wire best free) (result_wire g (free + length (best_lets best)) + 4) next) left
      (result_wire g (free + length (best_lets best)) + 4 + 2) (goes2 (result_wire g (free + length (best_lets best)))) in
      rw count (selection-claim g may deals deals' masks masks' d d' alike items MasksSpent end 1
      (first_selection g j best who) spare first i (suc (2 * n)) v v' k.best b k'.best b' pair (second ∷ more) goes1 hs len len'
      dealt dealt' along
      (first-operands g may.some bidders bid j best who next k here sj bound v s)
      (first-operands g may.some bidders bid' j best who next k' here sj' bound v' s')
      (λ q e. opens q pair e)
      (λ left free q u u' hl along2 du du' r r'.
      let o = result_wire g (free + length (best_lets best)) in
      let wire = best_wire best free in
      let f = after-first g may.some bidders bid j best who next k here sj bound free v u s r in
      let f' = after-first g may.some bidders bid' j best who next k' here sj' bound free v' u' s' r' in
      let place : o + 4 + 2 ≡ o + 6 = omega arith in
      selection-claim g may deals deals' masks masks' d d' alike items MasksSpent end 1
      (second_selection g j wire (o + 4) next) left (o + 4 + 2) (q + 1) (2 * n) u u' k.next (min k.best b) k'.next (min k'.best b')
      second more (goes2 o) hl
      (rw place f.len) (rw place f'.len) du du' along2
      (second-operands g may.some bidders bid j best who next k here sj bound o wire v u s f)
      (second-operands g may.some bidders bid' j best who next k' here sj' bound o wire v' u' s' f')
      (λ x e. opens x second e)
      (λ left2 free2 y t t' hl2 along3 dt dt' z z'.
      let a = after-second g may.some bidders bid j best who next k here sj bound o wire v u s f free2 t z in
      let a' = after-second g may.some bidders bid' j best who next k' here sj' bound o wire v' u' s' f' free2 t' z' in
      let place2 : result_wire g (free2 + 3) + 2 + 1 ≡ result_wire g (free2 + 3) + 3 = omega arith in
      sale-claim n (j + 1) left2 (result_wire g (free2 + 3) + 2 + 1) (y + 1) (Some (free2 + 1)) (one_term (j + 1) (1, o + 4 + 1))
      (sum_let (free2 + 2) (result_wire g (free2 + 3) + 2)) m m' t t'
      (omega (arith, total)) hl2 (rw place2 a.len) (rw place2 a'.len) dt dt' a.keeps a'.keeps along3 won paid)))
