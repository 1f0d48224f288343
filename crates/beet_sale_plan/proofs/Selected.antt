-- What a selection does to the values of a run, and what is claimed of it in two runs side by side.
use Rattle.std.proofs.Common.{◌≡◌, ◌≢◌, ℕ, suc, ◌+◌, ◌-◌, ◌<◌, ◌≤◌, List, [], ◌∷◌, ◌++◌, map, length, slice_index, Some, refl}
use Rattle.std.proofs.Common.{ap, sym, ◌∙◌, arith}
use Rattle.std.specs.Prelude.{if◌then◌else◌}
use Rattle.beet_field.specs.Field.{p, IsElement, add_of}
use Rattle.beet_gates.specs.Clear.{Values, with_lets, product_of, batches_on}
use Rattle.beet_gates.specs.Plans.{Plan, Block}
use Rattle.beet_gates.proofs.PlanRuns.{opened_by, plan_rounds}
use Rattle.beet_gates.proofs.ClearFacts.{length-with_lets}
use Rattle.beet_gates.proofs.PlanFacts.{opened-new}
use Rattle.beet_gates.proofs.PlanNumbers.{leads-then, leads-block}
use Rattle.beet_gates.proofs.Segments.{index-append}
use Rattle.beet_compare.specs.Compare.{doubled, is_doubled_even}
use Rattle.beet_masking.specs.Blocks.{Blocks, after_mask}
use Rattle.beet_masking.specs.Compared.{item_compared}
use Rattle.beet_masking.proofs.AlikeMasks.{Alike}
use Rattle.beet_masking.proofs.BlockLaws.{CompareLeft}
use Rattle.beet_masking.proofs.Claims.{Claim, Accepted, accepted-element, alike-accepted, until-claim}
use Rattle.beet_masking.proofs.Places.{Along, along-accepted, along-compared}
use Rattle.beet_masking.proofs.Words.{Deals}
use Rattle.beet_sale_plan.specs.Selections.{Selection, quietly, lets_before, multiplied, with_last, masked_plan, selection_plan}
use Rattle.beet_sale_plan.specs.Selections.{result_wire}
use Rattle.beet_sale_plan.proofs.Ending.{MaySelect}
use Rattle.beet_sale_plan.proofs.Moves.{leads-quietly, with_last-length, lets_before-run, multiplied-run, with_lets-grow}

-- the wires that are compared hold a and b, once the lets before are there
pub record Operands (s : Selection) (wires : List ℕ) (a b : ℕ) : Type 0 where
  pub left_there : s.left < length wires + length s.before
  pub right_there : s.right < length wires + length s.before
  pub left_is : slice_index (with_lets wires s.before) s.left ≡ a
  pub right_is : slice_index (with_lets wires s.before) s.right ≡ b
  pub left_element : IsElement a
  pub right_element : IsElement b

-- what a selection leaves
pub record Selected (g : Blocks) (s : Selection) (free a b : ℕ) (v u : Values) : Type 0 where
  pub more : List ℕ
  pub start : length (v.wires ++ more) ≡ free
  pub extra : List ℕ
  pub long : length (with_lets (v.wires ++ more) s.before ++ extra) ≡ free + length s.before + g.compare_wires
  pub result : slice_index (with_lets (v.wires ++ more) s.before ++ extra) (result_wire g (free + length s.before))
      ≡ (if is_doubled_even a b then 1 else 0)
  pub wires : (let y = with_lets (v.wires ++ more) s.before ++ extra in
      u.wires ≡ with_lets y s.after ++ map (product_of (with_lets y s.after)) s.pairs)

-- the comparison of a selection and its products
record Made (g : Blocks) (s : Selection) (mask a b c : ℕ) (v w middle u : Values) : Type 0 where
  masked : opened_by w middle ≡ c
  selected : Selected g s (after_mask g mask) a b v u
  dealt : u.dealt ≡ w.dealt

made : (g : Blocks) → MaySelect g → (deals : ℕ → List ℕ) (s : Selection) (mask r a b c : ℕ) (v w : Values) →
    IsElement r → Accepted g mask r v w → Operands s w.wires a b → c ≡ add_of (doubled a b) r →
    (let from = after_mask g mask + length s.before in
    let middle = batches_on deals (lets_before s.before (g.masked from mask s.left s.right) ∷ []) w in
    Made g s mask a b c v w middle (batches_on deals (with_last (multiplied s.after s.pairs) (g.answer from mask c)) middle))
made g may deals s mask r a b c v w hr acc ops hc =
    let free = after_mask g mask in
    let from = free + length s.before in
    let lets = with_lets w.wires s.before in
    let w0 = record w { wires = lets } in
    let grown = with_lets-grow w.wires s.before in
    let len : length lets ≡ from = omega (arith, length-with_lets w.wires s.before, acc.len) in
    let middle0 = batches_on deals (g.masked from mask s.left s.right ∷ []) w0 in
    let same : batches_on deals (lets_before s.before (g.masked from mask s.left s.right) ∷ []) w ≡ middle0 =
    lets_before-run deals s.before (g.masked from mask s.left s.right) w in
    let left = may.are.comparisons.runs deals from mask s.left s.right r a b w0 (record {
      len = len;
      accepted = hr;
      room = omega arith;
      bits = λ k h. ap (λ (l : List ℕ). slice_index l (g.bit mask k)) grown.is
          ∙ index-append w.wires grown.new (g.bit mask k) (omega (arith, may.within mask k h, acc.len)) ∙ acc.bits k h;
      supply_before = omega (arith, ops.left_there, acc.len);
      demand_before = omega (arith, ops.right_there, acc.len);
      supply_is = ops.left_is;
      demand_is = ops.right_is;
      supply_element = ops.left_element;
      demand_element = ops.right_element;
    }) in
    let left' : CompareLeft g from r a b w0 middle0 (batches_on deals (g.answer from mask c) middle0) = rw hc left in
    let bit = if is_doubled_even a b then 1 else 0 in
    let m = multiplied-run deals (g.answer from mask c) (result_wire g from) bit s.after s.pairs middle0
    (may.ends from mask c) left'.opened in
    let y : (batches_on deals (g.answer from mask c) middle0).wires ≡ with_lets (v.wires ++ acc.more) s.before ++ left'.more =
    left'.wires ∙ ap (λ (l : List ℕ). with_lets l s.before ++ left'.more) acc.wires in
    rw same (record {
      masked = opened-new w middle0 c (left'.masked ∙ ap (λ x. w.opened ++ x ∷ []) (sym hc));
      selected = record {
        more = acc.more;
        start = ap length (sym acc.wires) ∙ acc.len;
        extra = left'.more;
        long = ap length (sym y) ∙ left'.len;
        result = ap (λ (l : List ℕ). slice_index l (result_wire g from)) (sym y) ∙ m.result;
        wires = m.wires ∙ ap (λ (l : List ℕ). with_lets l s.after ++ map (product_of (with_lets l s.after)) s.pairs) y;
      };
      dealt = m.dealt ∙ left'.dealt;
    })

-- the claim of a selection in two runs, from the values that it compares in both, which lead to the same opened number
pub selection-claim : {F : Type 0} {A : Type 0} (g : Blocks) → MaySelect g → (deals deals' : ℕ → List ℕ) (masks masks' : ℕ → ℕ) →
    Deals g.words deals masks → Deals g.words deals' masks' → Alike masks masks' → (items : List A) (spent f : F) (last : ℕ)
    (choose : ℕ → Selection) (n first i c : ℕ) (v v' : Values) (a b a' b' : ℕ) (item : A) (rest : List A) (next : ℕ → ℕ → Plan F) →
    n ≤ 2 → length v.wires ≡ first → length v'.wires ≡ first → v.dealt ≡ i → v'.dealt ≡ i →
    Along masks items i (2 - n) (item ∷ rest) →
    ((more : List ℕ) → Operands (choose (length (v.wires ++ more))) (v.wires ++ more) a b) →
    ((more : List ℕ) → Operands (choose (length (v'.wires ++ more))) (v'.wires ++ more) a' b') →
    ((j : ℕ) → item_compared items masks j ≡ Some item → add_of (doubled a' b') (masks' j) ≡ add_of (doubled a b) (masks j)) →
    ((left free j : ℕ) (u u' : Values) → left ≤ 2 → Along masks items (j + 1) (2 - left) rest →
    u.dealt ≡ j + 1 → u'.dealt ≡ j + 1 →
    Selected g (choose free) free a b v u → Selected g (choose free) free a' b' v' u' →
    Claim g masks (j + 1) (2 - left) c spent f last deals deals' (next left free) u u') →
    Claim g masks i (2 - n) (suc c) spent f last deals deals' (selection_plan g spent choose n first next) v v'
selection-claim {F} g may deals deals' masks masks' d d' alike items spent f last choose n first i c v v' a b a' b' item rest next hn
    len len' dealt dealt' along ops ops' opens go =
    until-claim g may.are deals deals' masks masks' d d' alike items spent f last n first i c v v' (item ∷ rest)
    (λ left mask. masked_plan g choose mask (next left)) hn len len' dealt dealt' along
    (λ left mask j w w' hl some along' dw dw' acc acc'.
    let free = after_mask g mask in
    let s = choose free in
    let from = free + length s.before in
    let x = add_of (doubled a b) (masks j) in
    let some' : masks' j ≢ p = alike-accepted masks masks' alike j some in
    let same : x ≡ add_of (doubled a' b') (masks' j) =
    sym (opens j (along-compared masks items j (2 - left) item rest some (omega arith) along')) in
    let at : length w.wires ≡ free = acc.len in
    let at' : length w'.wires ≡ free = acc'.len in
    let o : Operands s w.wires a b = rw at at (rw (← acc.wires) at (ops acc.more)) in
    let o' : Operands s w'.wires a' b' = rw at' at (rw (← acc'.wires) at (ops' acc'.more)) in
    let one = made g may deals s mask (masks j) a b x v w (accepted-element g.words deals masks d j some) acc o refl in
    let two = made g may deals' s mask (masks' j) a' b' x v' w' (accepted-element g.words deals' masks' d' j some') acc' o' same in
    let masked = lets_before s.before (g.masked from mask s.left s.right) ∷ [] in
    let tail = λ (c : ℕ). with_last (multiplied s.after s.pairs) (g.answer from mask c) in
    let cont : ℕ → Plan F = λ c. quietly (tail c) (next left free) in
    let middle = batches_on deals masked w in
    let middle' = batches_on deals' masked w' in
    let u = batches_on deals (tail x) middle in
    let u' = batches_on deals' (tail x) middle' in
    let l = leads-then deals (Block masked cont) (cont x) (next left free) w middle u (x ∷ []) [] 1 (length (tail x))
    (leads-block deals masked cont w x one.masked) (leads-quietly deals (tail x) (next left free) middle) in
    let l' = leads-then deals' (Block masked cont) (cont x) (next left free) w' middle' u' (x ∷ []) [] 1 (length (tail x))
    (leads-block deals' masked cont w' x two.masked) (leads-quietly deals' (tail x) (next left free) middle') in
    let k = go left free j u u' hl (along-accepted masks items j (2 - left) item rest some along') (one.dealt ∙ dw) (two.dealt ∙ dw')
    one.selected two.selected in
    record {
      finish = l.finish ∙ k.finish;
      more = plan_rounds deals (next left free) u;
      count = omega (
        arith,
        l.count,
        with_last-length (multiplied s.after s.pairs) (g.answer from mask x),
        may.are.comparisons.rounds from mask x,
      );
      rounds = k.rounds;
      numbers = l'.shown ∙ ap (λ (xs : List ℕ). x ∷ xs) k.numbers ∙ sym l.shown;
    })
