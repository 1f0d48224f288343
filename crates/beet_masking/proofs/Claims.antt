-- What is claimed of a plan with comparisons in two runs side by side: how the first ends, after how many rounds, and that both open the
-- same numbers.
use Rattle.std.proofs.Common.{◌≡◌, ◌≢◌, ℕ, zero, suc, ◌+◌, ◌-◌, ◌<◌, ◌≤◌, inl, inr, Bool, true, false, List, [], ◌∷◌}
use Rattle.std.proofs.Common.{◌++◌, length, slice_index, refl, ap, sym, ◌∙◌, arith, eq-eqb, ne_eqb, append_assoc}
use Rattle.std.specs.Prelude.{if◌then◌else◌, ◌==◌}
use Rattle.std.specs.Int.{bit_at}
use Rattle.std.proofs.lemmas.Bool.{cases_eq}
use Rattle.beet_field.specs.Field.{p, IsElement}
use Rattle.beet_gates.specs.Clear.{Values, batches_on}
use Rattle.beet_gates.specs.Plans.{Plan, Ended, Block}
use Rattle.beet_gates.proofs.PlanRuns.{opened_by, plan_end, plan_rounds}
use Rattle.beet_gates.proofs.PlanFacts.{opened-new}
use Rattle.beet_gates.proofs.PlanNumbers.{plan_numbers, Leads, leads-block, ended-on}
use Rattle.beet_mask.specs.Mask.{bits_of}
use Rattle.beet_masking.specs.Accepting.{until_accepted}
use Rattle.beet_masking.specs.Blocks.{Blocks, after_mask}
use Rattle.beet_masking.proofs.AlikeMasks.{Alike}
use Rattle.beet_masking.proofs.BlockLaws.{AreBlocks, MaskLeft}
use Rattle.beet_masking.proofs.Counts.{spent_from, spent-last, spent-more, spent-kept}
use Rattle.beet_masking.proofs.Places.{Along, along-rejected}
use Rattle.beet_masking.proofs.Rounds.{Rounds, rounds-last, rounds-more, rounds-kept}
use Rattle.beet_masking.proofs.Words.{Deals}

-- of a plan from the i-th mask on, where so many were rejected and c comparisons are to come, and the rounds after them
pub record Claim {F : Type 0} (g : Blocks) (masks : ℕ → ℕ) (i rej c : ℕ) (spent f : F) (last : ℕ)
    (deals deals' : ℕ → List ℕ) (plan : Plan F) (v v' : Values) : Type 0 where
  pub finish : plan_end deals plan v ≡ (if spent_from masks i rej c then spent else f)
  pub rounds : Rounds g masks i rej c last (plan_rounds deals plan v)
  pub numbers : plan_numbers deals' plan v' ≡ plan_numbers deals plan v

-- of a plan that compares with the i-th mask, which is accepted, and then makes c comparisons
pub record Compared {F : Type 0} (g : Blocks) (masks : ℕ → ℕ) (i rej c : ℕ) (spent f : F) (last : ℕ)
    (deals deals' : ℕ → List ℕ) (plan : Plan F) (v v' : Values) : Type 0 where
  pub finish : plan_end deals plan v ≡ (if spent_from masks (i + 1) rej c then spent else f)
  pub more : ℕ
  pub count : plan_rounds deals plan v ≡ g.compare_rounds + more
  pub rounds : Rounds g masks (i + 1) rej c last more
  pub numbers : plan_numbers deals' plan v' ≡ plan_numbers deals plan v

-- a mask r whose block begins at a wire stands as the last of the wires
pub record Accepted (g : Blocks) (mask r : ℕ) (v w : Values) : Type 0 where
  pub more : List ℕ
  pub wires : w.wires ≡ v.wires ++ more
  pub len : length w.wires ≡ after_mask g mask
  pub bits : (k : ℕ) → k < 61 → slice_index w.wires (g.bit mask k) ≡ bit_at r k

accepted-now : (g : Blocks) (mask r : ℕ) (v w : Values) → MaskLeft g mask r v w → Accepted g mask r v w
accepted-now g mask r v w m = record { more = m.more; wires = m.wires; len = m.len; bits = m.bits }

accepted-later : (g : Blocks) (first mask r r' : ℕ) (v after w : Values) → MaskLeft g first r' v after →
    Accepted g mask r after w → Accepted g mask r v w
accepted-later g first mask r r' v after w m a = record {
  more = m.more ++ a.more;
  wires = a.wires ∙ ap (λ (l : List ℕ). l ++ a.more) m.wires ∙ append_assoc v.wires m.more a.more;
  len = a.len;
  bits = a.bits;
}

module _ (g : Blocks) (are : AreBlocks g) (deals : ℕ → List ℕ) (masks : ℕ → ℕ) (d : Deals g.words deals masks) where
  deal-mask : (first i : ℕ) (v : Values) → length v.wires ≡ first → v.dealt ≡ i →
      MaskLeft g first (masks i) v (batches_on deals (g.mask first) v)
  deal-mask first i v len dealt =
      let e : deals v.dealt ≡ bits_of (d.words i) = rw dealt (d.bits i) in
      rw (d.mask i) (are.masks.runs deals first (d.words i) v (d.count i) (d.small_words i) len e)

  -- and the number that its block opens
  product-opened : (first i : ℕ) (v : Values) (b : Bool) → (masks i == p) ≡ b →
      MaskLeft g first (masks i) v (batches_on deals (g.mask first) v) →
      opened_by v (batches_on deals (g.mask first) v) ≡ (if b then 1 else 0)
  product-opened first i v b t m = opened-new v (batches_on deals (g.mask first) v) _ m.opened ∙ ap (λ (c : Bool). if c then 1 else 0) t

-- an accepted mask is a number of the field
pub accepted-element : (n : ℕ) (deals : ℕ → List ℕ) (masks : ℕ → ℕ) → Deals n deals masks → (i : ℕ) → masks i ≢ p → IsElement (masks i)
accepted-element n deals masks d i some = omega (arith, d.small i, some)

-- the same masks are accepted
pub alike-accepted : (masks masks' : ℕ → ℕ) → Alike masks masks' → (i : ℕ) → masks i ≢ p → masks' i ≢ p
alike-accepted masks masks' alike i some = λ e. let f = ne_eqb (masks i) p some in cc (alike.same i ∙ f, eq-eqb (masks' i) p e)

module _ {F : Type 0} {A : Type 0} (g : Blocks) (are : AreBlocks g) (deals deals' : ℕ → List ℕ) (masks masks' : ℕ → ℕ)
    (d : Deals g.words deals masks) (d' : Deals g.words deals' masks') (alike : Alike masks masks') (items : List A)
    (spent f : F) (last : ℕ) where
  -- a block of a mask in both runs, which goes on with a plan
  record BothLead (first : ℕ) (v v' : Values) (cont : ℕ → Plan F) (x : ℕ) : Type 0 where
    one : Leads deals (Block (g.mask first) cont) v (cont x) (batches_on deals (g.mask first) v) (x ∷ []) (length (g.mask first))
    two : Leads deals' (Block (g.mask first) cont) v' (cont x) (batches_on deals' (g.mask first) v') (x ∷ []) (length (g.mask first))

  both-lead : (first i : ℕ) (v v' : Values) (cont : ℕ → Plan F) (b : Bool) → (masks i == p) ≡ b →
      MaskLeft g first (masks i) v (batches_on deals (g.mask first) v) →
      MaskLeft g first (masks' i) v' (batches_on deals' (g.mask first) v') →
      BothLead first v v' cont (if b then 1 else 0)
  both-lead first i v v' cont b t m m' = record {
    one = leads-block deals (g.mask first) cont v (if b then 1 else 0) (product-opened g are deals masks d first i v b t m);
    two = leads-block deals' (g.mask first) cont v' (if b then 1 else 0)
        (product-opened g are deals' masks' d' first i v' b (alike.same i ∙ t) m');
  }

  -- after a mask that is accepted
  kept-claim : (n first i c : ℕ) (v v' : Values) (rest : Plan F) (cont : ℕ → Plan F) → cont 0 ≡ rest → n ≤ 2 → masks i ≢ p →
      MaskLeft g first (masks i) v (batches_on deals (g.mask first) v) →
      MaskLeft g first (masks' i) v' (batches_on deals' (g.mask first) v') →
      Compared g masks i (2 - n) c spent f last deals deals' rest (batches_on deals (g.mask first) v)
      (batches_on deals' (g.mask first) v') →
      Claim g masks i (2 - n) (suc c) spent f last deals deals' (Block (g.mask first) cont) v v'
  kept-claim n first i c v v' rest cont is hn some m m' k =
      let t : (masks i == p) ≡ false = ne_eqb (masks i) p some in
      let l : BothLead first v v' cont 0 = both-lead first i v v' cont false t m m' in
      let one : Leads deals (Block (g.mask first) cont) v rest (batches_on deals (g.mask first) v) (0 ∷ [])
      (length (g.mask first)) = rw is at l.one in
      let two : Leads deals' (Block (g.mask first) cont) v' rest (batches_on deals' (g.mask first) v') (0 ∷ [])
      (length (g.mask first)) = rw is at l.two in
      let count : plan_rounds deals (Block (g.mask first) cont) v ≡ g.mask_rounds + g.compare_rounds + k.more =
      omega (arith, one.count, k.count, are.masks.rounds first) in
      record {
        finish = one.finish ∙ k.finish ∙ ap (λ (b : Bool). if b then spent else f) (sym (spent-kept masks i (2 - n) c some (omega arith)));
        rounds = rw count (rounds-kept g masks i (2 - n) c last k.more some (omega arith) k.rounds);
        numbers = two.shown ∙ ap (λ (xs : List ℕ). 0 ∷ xs) k.numbers ∙ sym one.shown;
      }

  -- masks until one is accepted, from what is claimed after each that may be
  pub until-claim : (n first i c : ℕ) (v v' : Values) (rest : List A) (next : ℕ → ℕ → Plan F) → n ≤ 2 →
      length v.wires ≡ first → length v'.wires ≡ first →
      v.dealt ≡ i → v'.dealt ≡ i → Along masks items i (2 - n) rest →
      ((left mask j : ℕ) (w w' : Values) → left ≤ 2 → masks j ≢ p → Along masks items j (2 - left) rest →
      w.dealt ≡ j + 1 → w'.dealt ≡ j + 1 →
      Accepted g mask (masks j) v w → Accepted g mask (masks' j) v' w' →
      Compared g masks j (2 - left) c spent f last deals deals' (next left mask) w w') →
      Claim g masks i (2 - n) (suc c) spent f last deals deals' (until_accepted g spent n first next) v v'
  unfolding until_accepted
  until-claim zero first i c v v' rest next hn len len' dealt dealt' along go =
      let after = batches_on deals (g.mask first) v in
      let after' = batches_on deals' (g.mask first) v' in
      let m = deal-mask g are deals masks d first i v len dealt in
      let m' = deal-mask g are deals' masks' d' first i v' len' dealt' in
      let cont : ℕ → Plan F = λ product. if product == 1 then Ended spent else next zero first in
      elim (cases_eq (masks i) p) [
        | inr some ↦
            kept-claim zero first i c v v' (next zero first) cont refl hn some m m'
            (go zero first i after after' hn some along (m.dealt ∙ ap (λ k. k + 1) dealt) (m'.dealt ∙ ap (λ k. k + 1) dealt')
            (accepted-now g first (masks i) v after m) (accepted-now g first (masks' i) v' after' m'))
        | inl all ↦
            let l : BothLead first v v' cont 1 = both-lead first i v v' cont true (eq-eqb (masks i) p all) m m' in
            let e = ended-on deals spent after in
            let e' = ended-on deals' spent after' in
            let count : plan_rounds deals (Block (g.mask first) cont) v ≡ g.mask_rounds =
            omega (arith, l.one.count, e.count, are.masks.rounds first) in
            record {
              finish = l.one.finish ∙ e.finish ∙ ap (λ (b : Bool). if b then spent else f) (sym (spent-last masks i 2 c all refl));
              rounds = rw count (rounds-last g masks i 2 c last all refl);
              numbers = l.two.shown ∙ ap (λ (xs : List ℕ). 1 ∷ xs) (e'.shown ∙ sym e.shown) ∙ sym l.one.shown;
            }
      ]
  until-claim (suc n) first i c v v' rest next hn len len' dealt dealt' along go =
      let after = batches_on deals (g.mask first) v in
      let after' = batches_on deals' (g.mask first) v' in
      let m = deal-mask g are deals masks d first i v len dealt in
      let m' = deal-mask g are deals' masks' d' first i v' len' dealt' in
      let later = until_accepted g spent n (after_mask g first) next in
      let cont : ℕ → Plan F = λ product. if product == 1 then later else next (suc n) first in
      let dealt1 : after.dealt ≡ i + 1 = m.dealt ∙ ap (λ k. k + 1) dealt in
      let dealt2 : after'.dealt ≡ i + 1 = m'.dealt ∙ ap (λ k. k + 1) dealt' in
      elim (cases_eq (masks i) p) [
        | inr some ↦
            kept-claim (suc n) first i c v v' (next (suc n) first) cont refl hn some m m'
            (go (suc n) first i after after' hn some along dealt1 dealt2 (accepted-now g first (masks i) v after m)
            (accepted-now g first (masks' i) v' after' m'))
        | inl all ↦
            let l : BothLead first v v' cont 1 = both-lead first i v v' cont true (eq-eqb (masks i) p all) m m' in
            let rej = 2 - suc n in
            let more : 2 - n ≡ rej + 1 = omega arith in
            let along' : Along masks items (i + 1) (2 - n) rest = rw more (along-rejected masks items i rej rest all along) in
            let k = until-claim n (after_mask g first) (i + 1) c after after' rest next (omega arith) m.len m'.len dealt1 dealt2 along'
            (λ left mask j w w' hl some a dw dw' acc acc'. go left mask j w w' hl some a dw dw'
            (accepted-later g first mask (masks j) (masks i) v after w m acc)
            (accepted-later g first mask (masks' j) (masks' i) v' after' w' m' acc')) in
            let count : plan_rounds deals (Block (g.mask first) cont) v
            ≡ g.mask_rounds + plan_rounds deals later after = omega (arith, l.one.count, are.masks.rounds first) in
            record {
              finish = l.one.finish ∙ rw more at k.finish
                  ∙ ap (λ (b : Bool). if b then spent else f) (sym (spent-more masks i rej c all (omega arith)));
              rounds = rw count (rounds-more g masks i rej c last (plan_rounds deals later after) all (omega arith) (rw more at k.rounds));
              numbers = l.two.shown ∙ ap (λ (xs : List ℕ). 1 ∷ xs) k.numbers ∙ sym l.one.shown;
            }
      ]
