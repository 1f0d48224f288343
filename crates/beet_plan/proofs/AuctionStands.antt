-- The auction's script names only wires that stand, and stays within its bounds, whatever numbers are opened.
use Rattle.std.proofs.Common.{◌≡◌, ℕ, zero, suc, ◌+◌, ◌-◌, ◌*◌, ◌/◌, ◌<◌, ◌≤◌, inl, inr, true, false, [], ◌∷◌, length}
use Rattle.std.proofs.Common.{refl, subst, ◌∙◌, arith}
use Rattle.std.specs.Prelude.{nat_lt, ◌==◌}
use Rattle.std.proofs.lemmas.Bool.{cases_lt}
use Rattle.std.proofs.lemmas.Bool.Decides.{nat_tests}
use Rattle.beet_bids.specs.Outcomes.{shown_by}
use Rattle.beet_bids.specs.declared.outcomes.Policy.{Policy}
use Rattle.beet_bids.specs.declared.outcomes.Policy.TheVariants.{Price as PriceAlone, Volume, Full}
use Rattle.beet_gates.specs.Batches.{reveal_batch}
use Rattle.beet_gates.specs.Scripts.{Standing, IsWithin, after}
use Rattle.beet_gates.specs.Plans.{Plan}
use Rattle.beet_gates.proofs.PlanRuns.{PlanStands, after_all}
use Rattle.beet_gates.proofs.PlanFacts.{stands-block, stands-ended, stands-if, stands-last, within-all}
use Rattle.beet_gates.proofs.Standings.{Moved}
use Rattle.beet_masking.specs.Blocks.{Blocks, after_both}
use Rattle.beet_masking.proofs.BlockLaws.{AreBlocks}
use Rattle.beet_masking.proofs.Standing.{Room, compared, nothing, room-within, until-stands}
use Rattle.beet_plan.specs.Auction.{after_answer, compare_plan, end_plan, opening_plan, price_with, search_plan, with_mask}
use Rattle.beet_plan.specs.declared.Finish.{Finish}
use Rattle.beet_plan.specs.declared.Finish.TheVariants.{NoPrice, MasksSpent}

module _ (bounds : Standing) where
  shown-stands : (policy : Policy) (prices place n : ℕ) (s : Standing) → place < prices → 2 * prices ≤ s.wires → IsWithin bounds s → 1 ≤ n →
      PlanStands bounds n s (opening_plan (shown_by policy (prices + place) place) (price_with place))
  shown-stands PriceAlone prices place n s below h w l = stands-ended bounds n s (price_with place []) w
  shown-stands Volume prices place n s below h w l =
      let b = reveal_batch [] ((prices + place) ∷ []) in
      let within : IsWithin bounds (after s b) = (omega (arith, w.0), w.1, w.2) in
      stands-last bounds n s b 1 (price_with place)
      (tt, (omega arith, (omega arith, tt)), (omega arith, omega arith)) within refl (omega arith) l
  shown-stands Full prices place n s below h w l =
      let b = reveal_batch [] ((prices + place) ∷ place ∷ []) in
      let within : IsWithin bounds (after s b) = (omega (arith, w.0), w.1, w.2) in
      stands-last bounds n s b 2 (price_with place)
      (tt, (omega arith, (omega arith, (omega arith, tt))), (omega arith, omega arith)) within refl (omega arith) l

  end-stands : (policy : Policy) (prices place n : ℕ) (s : Standing) → 2 * prices ≤ s.wires → IsWithin bounds s → 1 ≤ n →
      PlanStands bounds n s (end_plan policy prices place)
  end-stands policy prices place n s h w l = elim (cases_lt place prices) [
    | inl below ↦
        let t : nat_lt place prices ≡ true = grind (arith, nat_tests) in
        rw t (shown-stands policy prices place n s below h w l)
    | inr past ↦
        let t : nat_lt place prices ≡ false = grind (arith, nat_tests) in
        rw t (stands-ended bounds n s NoPrice w)
  ]

  module _ (g : Blocks) (are : AreBlocks g) (policy : Policy) (prices : ℕ) where
    -- the comparison at a place, and what follows it
    compare-stands : (place l left mask n : ℕ) (s : Standing) (next : ℕ → Plan Finish) → place < prices →
        mask + g.mask_wires ≤ s.wires → 2 * prices ≤ s.wires →
        Room g (compared g) (compared g) bounds s n l left 0 →
        ((t : Standing) (m answer : ℕ) → t.wires ≡ s.wires + g.compare_wires →
        Room g (compared g) nothing bounds t m l left 0 → PlanStands bounds m t (next answer)) →
        PlanStands bounds n s (compare_plan g prices s.wires mask place next)
    compare-stands place l left mask n s next below stands wide room go =
        let demand = prices + place in
        let masked = g.masked s.wires mask place demand ∷ [] in
        let t = after_all s masked in
        let supply_there : place < s.wires = omega arith in
        let demand_there : demand < s.wires = omega arith in
        let u = λ (c : ℕ). after_all t (g.answer s.wires mask c) in
        let m = λ (c : ℕ). n - 1 - length (g.answer s.wires mask c) in
        let count = λ (c : ℕ). are.comparisons.rounds s.wires mask c in
        let moves : (c : ℕ) → Moved s (u c) g.compare_wires 0 g.compare_draws =
        λ c. are.comparisons.moves mask place demand c s stands supply_there demand_there in
        let left_room : (c : ℕ) → Room g (compared g) nothing bounds (u c) (m c) l left 0 = λ c. record {
          dealers = (moves c).dealers ∙ room.dealers;
          room_wires = omega (arith, (moves c).more_wires, room.room_wires);
          room_masks = omega (arith, (moves c).more_masks, room.room_masks);
          room_coefficients = omega (arith, (moves c).more_coefficients, room.room_coefficients);
          room_rounds = omega (arith, count c, room.room_rounds);
        } in
        let within : (c : ℕ) → IsWithin bounds (u c) = λ c. room-within g (compared g) nothing bounds (u c) (m c) l left 0 (left_room c) in
        stands-block bounds n s masked _ (are.comparisons.masked_stands mask place demand s stands supply_there demand_there)
        (within-all bounds t (g.answer s.wires mask 0) (within 0)) (omega (arith, room.room_rounds, count 0))
        (λ c. stands-block bounds (n - 1) t (g.answer s.wires mask c) next
        (are.comparisons.answer_stands mask place demand c s stands supply_there demand_there)
        (within c) (omega (arith, room.room_rounds, count c)) (λ answer. go (u c) (m c) answer (moves c).more_wires (left_room c)))

    pub search-stands : (l lo hi spare n : ℕ) (s : Standing) → 2 * prices ≤ s.wires → hi ≤ prices →
        Room g (compared g) nothing bounds s n l spare 0 →
        PlanStands bounds n s (search_plan g policy prices l lo hi spare s.wires)
    unfolding search_plan
    search-stands zero lo hi spare n s wide inside room =
        end-stands policy prices lo n s wide (room-within g (compared g) nothing bounds s n zero spare 0 room)
        (omega (arith, room.room_rounds))
    search-stands (suc l) lo hi spare n s wide inside room = elim (cases_lt lo hi) [
      | inr h ↦
          let t : nat_lt lo hi ≡ false = grind (arith, nat_tests) in
          rw t (end-stands policy prices lo n s wide
          (room-within g (compared g) nothing bounds s n (suc l) spare 0 room) (omega (arith, room.room_rounds)))
      | inl h ↦
          let t : nat_lt lo hi ≡ true = grind (arith, nat_tests) in
          let mid = (lo + hi) / 2 in
          let search = search_plan g policy prices l in
          rw t (until-stands g are (compared g) bounds MasksSpent spare n l 0 s (with_mask g prices search lo hi) room
          (λ left mask m t above at masked.
          let stands : mask + g.mask_wires ≤ t.wires = omega (arith, at) in
          let wide' : 2 * prices ≤ t.wires = omega (arith, at, above) in
          let there : PlanStands bounds m t (compare_plan g prices t.wires mask mid (after_answer g search lo hi left mask)) =
          compare-stands mid l left mask m t (after_answer g search lo hi left mask) (omega arith) stands wide' masked
          (λ u k answer grown free.
          let both : u.wires ≡ after_both g mask = omega (arith, grown, at) in
          let wider : 2 * prices ≤ u.wires = omega (arith, both, above) in
          stands-if bounds k u (answer == 1) _ _
          (subst (λ w. PlanStands bounds k u (search lo mid left w)) both (search-stands l lo mid left k u wider (omega arith) free))
          (subst (λ w. PlanStands bounds k u (search (mid + 1) hi left w)) both
          (search-stands l (mid + 1) hi left k u wider inside free))) in
          subst (λ w. PlanStands bounds m t (compare_plan g prices w mask mid (after_answer g search lo hi left mask))) at there))
    ]
