-- A selection names only wires that stand, and stays within the bounds.
use Rattle.std.proofs.Common.{◌≡◌, ℕ, suc, ◌+◌, ◌-◌, ◌<◌, ◌≤◌, false, List, [], ◌∷◌, ◌++◌, length, None, refl, subst, ap, ◌∙◌}
use Rattle.std.proofs.Common.{arith, length-append}
use Rattle.beet_gates.specs.declared.Batch.{Batch}
use Rattle.beet_gates.specs.declared.Linear.{Linear}
use Rattle.beet_gates.specs.declared.TheConstants.{MOST_LETS}
use Rattle.beet_gates.specs.Batches.{reveal_batch}
use Rattle.beet_gates.specs.Clear.{is_end}
use Rattle.beet_gates.specs.Plans.{Plan, Quiet, plan_finish}
use Rattle.beet_gates.proofs.PlanRuns.{PlanStands, BlockStands, after_all}
use Rattle.beet_gates.specs.Scripts.{Standing, BatchStands, IsWithin, LetsBelow, PairsBelow, acted, after, revealed}
use Rattle.beet_gates.proofs.PlanFacts.{within-all, stands-block}
use Rattle.beet_gates.proofs.Standings.{Moved, lets_below-append, after_all-append}
use Rattle.beet_masking.specs.Blocks.{Blocks, after_mask}
use Rattle.beet_masking.proofs.Standing.{Room, Uses, nothing, room-within, until-stands}
use Rattle.beet_sale_plan.specs.Selections.{Selection, quietly, lets_before, multiplied, with_last, selection_plan, result_wire}
use Rattle.beet_sale_plan.proofs.Ending.{MaySelect}
use Rattle.beet_sale_plan.proofs.Moves.{with_last-append}
use Rattle.beet_sale_plan.proofs.Quietly.{quietly-finish}

-- what a selection uses after its mask: the comparison, at most six wires more, and at most two products
abbrev pub selected : Blocks → Uses
selected g = record { wires = g.compare_wires + 6; draws = g.compare_draws + 2; rounds = g.compare_rounds }

-- a selection whose lets and products name only wires that stand
pub record SelectionStands (g : Blocks) (s : Selection) (free : ℕ) : Type 0 where
  pub before : LetsBelow free s.before
  pub left_there : s.left < free + length s.before
  pub right_there : s.right < free + length s.before
  pub after : LetsBelow (free + length s.before + g.compare_wires) s.after
  pub pairs : PairsBelow (free + length s.before + g.compare_wires + length s.after) s.pairs
  pub some : 1 ≤ length s.pairs
  pub few : length s.pairs ≤ 2
  pub wires : length s.before + length s.after + length s.pairs ≤ 6

-- the first free wire after a selection whose comparison has this first free wire
abbrev pub after_selection : Blocks → Selection → ℕ → ℕ
after_selection g s free = free + length s.before + g.compare_wires + (length s.after + length s.pairs)

module _ {F : Type 0} (bounds : Standing) where
  stands-quiet : (n : ℕ) (s : Standing) (b : Batch) (rest : Plan F) → BatchStands s b → IsWithin bounds (after s b) →
      is_end b.act ≡ false → revealed b.act ≡ 0 → 1 ≤ n →
      plan_finish rest [] ≡ None → PlanStands bounds (n - 1) (after s b) rest → PlanStands bounds n s (Quiet b rest)
  unfolding PlanStands
  stands-quiet n s b rest a b' c d e f h = (a, b', c, d, e, f, h)

  module _ (lets : List Linear) (pairs : List (ℕ × ℕ)) (some : 1 ≤ length pairs) (few : length pairs ≤ 2) (short : length lets ≤ 6)
      (rest : Plan F) (goes : plan_finish rest [] ≡ None) where
    -- quiet batches before a plan that has not ended
    quietly-none : (bs : List Batch) → plan_finish (quietly bs rest) [] ≡ None
    quietly-none bs = quietly-finish rest bs [] ∙ goes

    -- a block in which the last batch has products in place of the opening
    quietly-stands : (init : List Batch) (o : List Linear) (wire n : ℕ) (s : Standing) → length o ≤ 1 →
        BlockStands s (init ++ reveal_batch o (wire ∷ []) ∷ []) →
        (let t = after_all s (init ++ reveal_batch o (wire ∷ []) ∷ []) in
        let u = after_all s (init ++ multiplied lets pairs (reveal_batch o (wire ∷ [])) ∷ []) in
        LetsBelow t.wires lets → PairsBelow (t.wires + length lets) pairs → length init + 1 ≤ n → IsWithin bounds u →
        PlanStands bounds (n - (length init + 1)) u rest →
        PlanStands bounds n s (quietly (init ++ multiplied lets pairs (reveal_batch o (wire ∷ [])) ∷ []) rest))
    unfolding BlockStands
    quietly-stands [] o wire n s one h below products l w k =
        let grown = length-append o lets in
        let e : s.wires + length (o ++ lets) ≡ s.wires + length o + length lets = omega (arith, grown) in
        let all = multiplied lets pairs (reveal_batch o (wire ∷ [])) in
        stands-quiet n s all rest
        (lets_below-append s.wires o lets h.0.0 below, (some, rw e products), (omega (arith, grown), omega (arith, few))) w refl refl l
        goes k
    quietly-stands (b ∷ []) o wire n s one h below products l w k =
        let last = multiplied lets pairs (reveal_batch o (wire ∷ [])) in
        let e : n - 2 ≡ n - 1 - 1 = omega arith in
        stands-quiet n s b (quietly (last ∷ []) rest) h.0 (within-all bounds (after s b) (last ∷ []) w) h.1 h.2 (omega arith)
        (quietly-none (last ∷ []))
        (quietly-stands [] o wire (n - 1) (after s b) one h.3 below products (omega arith) w (rw e at k))
    quietly-stands (b ∷ c ∷ bs) o wire n s one h below products l w k =
        let last = multiplied lets pairs (reveal_batch o (wire ∷ [])) in
        let e : n - (suc (suc (length bs)) + 1) ≡ n - 1 - (suc (length bs) + 1) = omega arith in
        stands-quiet n s b (quietly (c ∷ bs ++ last ∷ []) rest) h.0 (within-all bounds (after s b) (c ∷ bs ++ last ∷ []) w) h.1 h.2
        (omega arith) (quietly-none (c ∷ bs ++ last ∷ []))
        (quietly-stands (c ∷ bs) o wire (n - 1) (after s b) one h.3 below products (omega arith) w (rw e at k))

  module _ (g : Blocks) (may : MaySelect g) (spent : F) where
    -- lets before the batch of a block
    lets-block : (t : Standing) (lets : List Linear) (b : Batch) → LetsBelow t.wires lets → length lets + length b.lets.items ≤ MOST_LETS →
        (let s = record t { wires = t.wires + length lets } in
        BlockStands s (b ∷ []) → BlockStands t (lets_before lets b ∷ []) × (after_all t (lets_before lets b ∷ []) ≡ after_all s (b ∷ [])))
    unfolding BlockStands
    lets-block t lets b below few h =
        let grown = length-append lets b.lets.items in
        let e : t.wires + length (lets ++ b.lets.items) ≡ t.wires + length lets + length b.lets.items = omega (arith, grown) in (
          ((lets_below-append t.wires lets b.lets.items below h.0.0, rw e h.0.1, (omega (arith, grown, few), h.0.2.1)), h.1),
          ap (λ (w : ℕ). acted (record t { wires = w }) b.act) e,
        )

    -- products in place of the opening
    record Swapped (t u : Standing) (lets pairs : ℕ) : Type 0 where
      wires : u.wires ≡ t.wires + lets + pairs
      masks : u.masks ≡ t.masks
      coefficients : u.coefficients ≡ t.coefficients + pairs
      dealers : u.dealers ≡ t.dealers

    swapped : (s : Standing) (init : List Batch) (o lets : List Linear) (wire : ℕ) (pairs : List (ℕ × ℕ)) →
        Swapped (after_all s (init ++ reveal_batch o (wire ∷ []) ∷ []))
        (after_all s (init ++ multiplied lets pairs (reveal_batch o (wire ∷ [])) ∷ [])) (length lets) (length pairs)
    swapped s init o lets wire pairs =
        let grown = length-append o lets in
        rw (
          after_all-append s init (reveal_batch o (wire ∷ []) ∷ []),
          after_all-append s init (multiplied lets pairs (reveal_batch o (wire ∷ [])) ∷ []),
        )
        (record { wires = omega (arith, grown); masks = refl; coefficients = refl; dealers = refl })

    pub selection-stands : (choose : ℕ → Selection) (spare n l last : ℕ) (s : Standing) (next : ℕ → ℕ → Plan F) →
        Room g (selected g) nothing bounds s n (suc l) spare last →
        ((free : ℕ) → s.wires ≤ free → SelectionStands g (choose free) free) →
        ((left free m : ℕ) (t : Standing) → s.wires ≤ free → t.wires ≡ after_selection g (choose free) free →
        Room g (selected g) nothing bounds t m l left last → PlanStands bounds m t (next left free)) →
        ((left free : ℕ) → plan_finish (next left free) [] ≡ None) →
        PlanStands bounds n s (selection_plan g spent choose spare s.wires next)
    selection-stands choose spare n l last s next room ok go goes =
        until-stands g may.are (selected g) bounds spent spare n l last s _ room
        (λ left mask m t above at r.
        let free = after_mask g mask in
        let sel = choose free in
        let from = free + length sel.before in
        let fits = ok free (omega (arith, above)) in
        let s0 = record t { wires = t.wires + length sel.before } in
        let here : t.wires + length sel.before ≡ from = omega (arith, at) in
        let b = g.masked from mask sel.left sel.right in
        let below : mask + g.mask_wires ≤ s0.wires = omega (arith, at) in
        let left_there : sel.left < s0.wires = omega (arith, fits.left_there, at) in
        let right_there : sel.right < s0.wires = omega (arith, fits.right_there, at) in
        let masked : BlockStands s0 (b ∷ []) =
        subst (λ w. BlockStands s0 (g.masked w mask sel.left sel.right ∷ [])) here
        (may.are.comparisons.masked_stands mask sel.left sel.right s0 below left_there right_there) in
        let block = lets-block t sel.before b (rw at fits.before)
        (omega (arith, may.few_lets from mask sel.left sel.right, fits.wires)) masked in
        let t1 = after_all s0 (b ∷ []) in
        let answers : (c : ℕ) → BlockStands t1 (g.answer from mask c) =
        λ c. subst (λ w. BlockStands (after_all s0 (g.masked w mask sel.left sel.right ∷ [])) (g.answer w mask c)) here
        (may.are.comparisons.answer_stands mask sel.left sel.right c s0 below left_there right_there) in
        let moves : (c : ℕ) → Moved s0 (after_all t1 (g.answer from mask c)) g.compare_wires 0 g.compare_draws =
        λ c. subst (λ w. Moved s0 (after_all (after_all s0 (g.masked w mask sel.left sel.right ∷ [])) (g.answer w mask c))
        g.compare_wires 0 g.compare_draws) here
        (may.are.comparisons.moves mask sel.left sel.right c s0 below left_there right_there) in
        let wire = result_wire g from in
        let u = λ (c : ℕ). let e = may.ends from mask c in
        after_all t1 (e.init ++ multiplied sel.after sel.pairs (reveal_batch e.lets (wire ∷ [])) ∷ []) in
        let end : (c : ℕ) → Swapped (after_all t1 (g.answer from mask c)) (u c) (length sel.after) (length sel.pairs) = λ c.
        let e = may.ends from mask c in
        rw (e.is) (swapped t1 e.init e.lets sel.after wire sel.pairs) in
        let rounds : (c : ℕ) → length (may.ends from mask c).init + 2 ≡ g.compare_rounds = λ c.
        let e = may.ends from mask c in
        omega (
          arith,
          may.are.comparisons.rounds from mask c,
          ap length e.is,
          length-append e.init (reveal_batch e.lets (wire ∷ []) ∷ []),
        ) in
        let left_of = λ (c : ℕ). m - 1 - (length (may.ends from mask c).init + 1) in
        let after_room : (c : ℕ) → Room g (selected g) nothing bounds (u c) (left_of c) l left last = λ c. record {
          dealers = (end c).dealers ∙ (moves c).dealers ∙ r.dealers;
          room_wires = omega (arith, (end c).wires, (moves c).more_wires, r.room_wires, fits.wires);
          room_masks = omega (arith, (end c).masks, (moves c).more_masks, r.room_masks);
          room_coefficients = omega (arith, (end c).coefficients, (moves c).more_coefficients, r.room_coefficients, fits.few);
          room_rounds = omega (arith, rounds c, r.room_rounds);
        } in
        let within : (c : ℕ) → IsWithin bounds (u c) =
        λ c. room-within g (selected g) nothing bounds (u c) (left_of c) l left last (after_room c) in
        let within1 : IsWithin bounds t1 = let e = may.ends from mask 0 in
        within-all bounds t1 (e.init ++ multiplied sel.after sel.pairs (reveal_batch e.lets (wire ∷ [])) ∷ []) (within 0) in
        stands-block bounds m t (lets_before sel.before b ∷ []) _ block.0 (rw block.1 within1) (omega (arith, r.room_rounds, rounds 0))
        (λ c.
        let e = may.ends from mask c in
        let rest = next left free in
        let whole : with_last (multiplied sel.after sel.pairs) (g.answer from mask c)
        ≡ e.init ++ multiplied sel.after sel.pairs (reveal_batch e.lets (wire ∷ [])) ∷ [] =
        ap (λ (l : List Batch). with_last (multiplied sel.after sel.pairs) l) e.is
        ∙ with_last-append (multiplied sel.after sel.pairs) e.init (reveal_batch e.lets (wire ∷ [])) in
        let stands : BlockStands t1 (e.init ++ reveal_batch e.lets (wire ∷ []) ∷ []) = rw e.is at (answers c) in
        let t2 = after_all t1 (e.init ++ reveal_batch e.lets (wire ∷ []) ∷ []) in
        let same : (after_all t1 (g.answer from mask c)).wires ≡ t2.wires = ap (λ (l : List Batch). (after_all t1 l).wires) e.is in
        let reach : t2.wires ≡ from + g.compare_wires = omega (arith, same, (moves c).more_wires, at) in
        let k : PlanStands bounds (m - 1 - (length e.init + 1)) (u c) rest =
        go left free (m - 1 - (length e.init + 1)) (u c) (omega (arith, above))
        (omega (arith, (end c).wires, (moves c).more_wires, at)) (after_room c) in
        rw (whole, block.1) (quietly-stands sel.after sel.pairs fits.some fits.few (omega (arith, fits.wires)) rest (goes left free)
        e.init e.lets wire (m - 1) t1 e.few stands
        (rw reach fits.after) (rw reach fits.pairs) (omega (arith, rounds c, r.room_rounds)) (within c) k)))
