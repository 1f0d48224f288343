-- Masks until one is accepted name only wires that stand, and stay within the bounds.
use Rattle.std.proofs.Common.{◌≡◌, ℕ, zero, suc, ◌+◌, ◌-◌, ◌*◌, ◌≤◌, false, length, refl, sym, ◌∙◌, arith, mul-suc, ne_eqb}
use Rattle.std.specs.Prelude.{if◌then◌else◌, ◌==◌}
use Rattle.beet_gates.specs.Plans.{Plan, Ended, Block}
use Rattle.beet_gates.proofs.PlanRuns.{PlanStands, after_all}
use Rattle.beet_gates.specs.Scripts.{Standing, IsWithin}
use Rattle.beet_gates.proofs.PlanFacts.{stands-block, stands-ended, stands-if}
use Rattle.beet_masking.specs.Accepting.{until_accepted, after_product}
use Rattle.beet_masking.specs.Blocks.{Blocks, after_mask}
use Rattle.beet_masking.proofs.BlockLaws.{AreBlocks}

-- by the product of a mask's bits it is told how they go on
pub until-open : {F : Type 0} (g : Blocks) (spent : F) (spare first : ℕ) (next : ℕ → ℕ → Plan F) →
    until_accepted g spent spare first next ≡ Block (g.mask first) (after_product g spent spare first next)
unfolding until_accepted
until-open g spent zero first next = refl
until-open g spent (suc n) first next =
    let some : (suc n == 0) ≡ false = ne_eqb (suc n) 0 (λ e. cc e) in
    let less : suc n - 1 ≡ n = omega arith in
    λ i. Block (g.mask first)
    (λ product. if product == 1 then (if sym some i then Ended spent
    else until_accepted g spent (sym less i) (after_mask g first) next) else next (suc n) first)

-- what a comparison uses after its mask, with what comes with it: wires, numbers that are drawn, and rounds
pub record Uses : Type 0 where
  pub wires : ℕ
  pub draws : ℕ
  pub rounds : ℕ

abbrev pub nothing : Uses
nothing = record { wires = 0; draws = 0; rounds = 0 }

abbrev pub compared : Blocks → Uses
compared g = record { wires = g.compare_wires; draws = g.compare_draws; rounds = g.compare_rounds }

-- room for what is still to come after a mask, for l comparisons and the masks that may still be rejected, and for so many wires at the end
pub record Room (g : Blocks) (each now : Uses) (bounds s : Standing) (n l spare last : ℕ) : Type 0 where
  pub dealers : s.dealers ≡ g.words
  pub room_wires : s.wires + now.wires + (g.mask_wires + each.wires) * l + g.mask_wires * spare + last ≤ bounds.wires
  pub room_masks : s.masks + l + spare ≤ bounds.masks
  pub room_coefficients : s.coefficients + now.draws + (g.mask_draws + each.draws) * l + g.mask_draws * spare ≤ bounds.coefficients
  pub room_rounds : now.rounds + (g.mask_rounds + each.rounds) * l + g.mask_rounds * spare + 1 ≤ n

pub room-within : (g : Blocks) (each now : Uses) (bounds s : Standing) (n l spare last : ℕ) →
    Room g each now bounds s n l spare last → IsWithin bounds s
room-within g each now bounds s n l spare last r =
    (omega (arith, r.room_wires), omega (arith, r.room_masks), omega (arith, r.room_coefficients))

module _ (g : Blocks) (are : AreBlocks g) (each : Uses) (bounds : Standing) where
  -- after a mask that is accepted, and after one that is rejected
  room-accepted : (s : Standing) (n l spare last : ℕ) → Room g each nothing bounds s n (suc l) spare last →
      Room g each each bounds (after_all s (g.mask s.wires)) (n - length (g.mask s.wires)) l spare last
  room-accepted s n l spare last r =
      let m = are.masks.moves s r.dealers in
      let len = are.masks.rounds s.wires in
      record {
        dealers = m.dealers ∙ r.dealers;
        room_wires = omega (arith, m.more_wires, r.room_wires, mul-suc (g.mask_wires + each.wires) l);
        room_masks = omega (arith, m.more_masks, r.room_masks);
        room_coefficients = omega (arith, m.more_coefficients, r.room_coefficients, mul-suc (g.mask_draws + each.draws) l);
        room_rounds = omega (arith, len, r.room_rounds, mul-suc (g.mask_rounds + each.rounds) l);
      }

  room-rejected : (s : Standing) (n l spare last : ℕ) → Room g each nothing bounds s n l (suc spare) last →
      Room g each nothing bounds (after_all s (g.mask s.wires)) (n - length (g.mask s.wires)) l spare last
  room-rejected s n l spare last r =
      let m = are.masks.moves s r.dealers in
      let len = are.masks.rounds s.wires in
      record {
        dealers = m.dealers ∙ r.dealers;
        room_wires = omega (arith, m.more_wires, r.room_wires, mul-suc g.mask_wires spare);
        room_masks = omega (arith, m.more_masks, r.room_masks);
        room_coefficients = omega (arith, m.more_coefficients, r.room_coefficients, mul-suc g.mask_draws spare);
        room_rounds = omega (arith, len, r.room_rounds, mul-suc g.mask_rounds spare);
      }

  module _ {F : Type 0} (spent : F) where
    pub until-stands : (spare n l last : ℕ) (s : Standing) (next : ℕ → ℕ → Plan F) → Room g each nothing bounds s n (suc l) spare last →
        ((left mask m : ℕ) (t : Standing) → s.wires ≤ mask → t.wires ≡ after_mask g mask → Room g each each bounds t m l left last →
        PlanStands bounds m t (next left mask)) →
        PlanStands bounds n s (until_accepted g spent spare s.wires next)
    unfolding until_accepted
    until-stands zero n l last s next room go =
        let t = after_all s (g.mask s.wires) in
        let m = are.masks.moves s room.dealers in
        let len = are.masks.rounds s.wires in
        let rest = n - length (g.mask s.wires) in
        let next_room = room-accepted s n l zero last room in
        let within = room-within g each each bounds t rest l zero last next_room in
        stands-block bounds n s (g.mask s.wires) _ (are.masks.stands s room.dealers) within
        (omega (arith, len, room.room_rounds, mul-suc (g.mask_rounds + each.rounds) l))
        (λ x. stands-if bounds rest t (x == 1) (Ended spent) (next zero s.wires) (stands-ended bounds rest t spent within)
        (go zero s.wires rest t (omega arith) m.more_wires next_room))
    until-stands (suc spare) n l last s next room go =
        let t = after_all s (g.mask s.wires) in
        let m = are.masks.moves s room.dealers in
        let len = are.masks.rounds s.wires in
        let rest = n - length (g.mask s.wires) in
        let next_room = room-accepted s n l (suc spare) last room in
        let again = room-rejected s n (suc l) spare last room in
        let within = room-within g each each bounds t rest l (suc spare) last next_room in
        stands-block bounds n s (g.mask s.wires) _ (are.masks.stands s room.dealers) within
        (omega (arith, len, room.room_rounds, mul-suc (g.mask_rounds + each.rounds) l))
        (λ x. stands-if bounds rest t (x == 1) (until_accepted g spent spare (after_mask g s.wires) next) (next (suc spare) s.wires)
        (rw m.more_wires at (until-stands spare rest l last t next again
        (λ left mask k u below. go left mask k u (omega (arith, below, m.more_wires)))))
        (go (suc spare) s.wires rest t (omega arith) m.more_wires next_room))
