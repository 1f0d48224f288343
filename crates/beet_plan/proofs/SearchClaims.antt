-- The search in two runs side by side: how the first ends, after how many rounds, and that both open the same numbers.
use Rattle.std.proofs.Common.{◌≡◌, ℕ, zero, suc, ◌+◌, ◌-◌, ◌*◌, ◌/◌, ◌^◌, ◌<◌, ◌≤◌, inl, inr, Bool, true, false, List}
use Rattle.std.proofs.Common.{[], ◌∷◌, length, slice_index, Some, refl, ap, sym, ◌∙◌, arith, pow-suc, zero-add}
use Rattle.std.specs.Prelude.{nat_lt, if◌then◌else◌}
use Rattle.std.proofs.Math.Seq.{drop-append_seam}
use Rattle.std.proofs.lemmas.Bool.{cases_lt, cases_Bool}
use Rattle.std.proofs.lemmas.Bool.Decides.{nat_tests}
use Rattle.beet_field.specs.Field.{IsElement, add_of}
use Rattle.beet_bids.specs.Outcomes.{shown_by}
use Rattle.beet_bids.specs.declared.outcomes.Policy.{Policy}
use Rattle.beet_bids.specs.declared.outcomes.Policy.TheVariants.{Price as PriceAlone, Volume, Full}
use Rattle.beet_gates.specs.Batches.{reveal_batch}
use Rattle.beet_gates.specs.Clear.{Values, batch_on, batches_on}
use Rattle.beet_gates.specs.Plans.{Plan, Ended, Block}
use Rattle.beet_gates.proofs.PlanRuns.{all_opened_by, opened_by, plan_end, plan_rounds}
use Rattle.beet_gates.proofs.PlanNumbers.{plan_numbers, leads-then, leads-block, ended-on}
use Rattle.beet_compare.specs.Compare.{doubled, is_doubled_even}
use Rattle.beet_masking.specs.Accepting.{until_accepted}
use Rattle.beet_masking.specs.Blocks.{Blocks, after_both, after_mask}
use Rattle.beet_masking.specs.Compared.{item_compared}
use Rattle.beet_masking.proofs.AlikeMasks.{Alike}
use Rattle.beet_masking.proofs.BlockLaws.{AreBlocks}
use Rattle.beet_masking.proofs.Claims.{Claim, accepted-element, alike-accepted, until-claim}
use Rattle.beet_masking.proofs.Counts.{spent-none}
use Rattle.beet_masking.proofs.Places.{Along, along-accepted, along-compared}
use Rattle.beet_masking.proofs.Rounds.{rounds-none}
use Rattle.beet_masking.proofs.Words.{Deals}
use Rattle.beet_plan.specs.Auction.{after_answer, end_plan, opening_plan, price_with, search_plan, with_mask}
use Rattle.beet_plan.specs.Runs.{found, opening_rounds}
use Rattle.beet_plan.specs.Search.{tested, place_between}
use Rattle.beet_plan.specs.declared.Finish.{Finish}
use Rattle.beet_plan.specs.declared.Finish.TheVariants.{NoPrice, MasksSpent}
use Rattle.beet_plan.proofs.BlockSteps.{Stands, AreElements, compare-step, after_masked, stands-append}
use Rattle.beet_plan.proofs.Searches.{tested-none, tested-open, place-none, place-open}

-- the rounds of the opening, where the search ends at z
abbrev pub rounds_opening : Policy → ℕ → ℕ → ℕ
rounds_opening policy prices z = if nat_lt z prices then opening_rounds policy else 0

-- the numbers that are opened there
abbrev pub shown_at_end : Policy → ℕ → (ℕ → ℕ) → (ℕ → ℕ) → ℕ → List ℕ
shown_at_end policy prices supply demand z = if nat_lt z prices then shown_by policy (demand z) (supply z) else []

module _ (deals : ℕ → List ℕ) (prices : ℕ) (supply demand : ℕ → ℕ) (first i z : ℕ) (v : Values)
    (s : Stands prices supply demand first i v) where
  -- the supply at a place of the grid has its wire
  supply-at : z < prices → slice_index v.wires z ≡ supply z
  supply-at h = ap (slice_index v.wires) (sym (zero-add z)) ∙ s.supplies.at z h

  -- the last batch opens what the policy shows of the place of the price
  shown-opened : (policy : Policy) → z < prices →
      all_opened_by v (batch_on deals (reveal_batch [] (shown_by policy (prices + z) z)) v) ≡ shown_by policy (demand z) (supply z)
  shown-opened PriceAlone h = drop-append_seam v.opened []
  shown-opened Volume h = drop-append_seam v.opened (slice_index v.wires (prices + z) ∷ []) ∙ ap (λ n. n ∷ []) (s.demands.at z h)
  shown-opened Full h =
      drop-append_seam v.opened (slice_index v.wires (prices + z) ∷ slice_index v.wires z ∷ [])
      ∙ (λ j. s.demands.at z h j ∷ supply-at h j ∷ [])

module _ (deals : ℕ → List ℕ) (v : Values) where
  opening-finish : (wires : List ℕ) (named : List ℕ → Finish) →
      plan_end deals (opening_plan wires named) v ≡ named (all_opened_by v (batch_on deals (reveal_batch [] wires) v))
  unfolding plan_end
  opening-finish [] named = ap named (sym (drop-append_seam v.opened []))
  opening-finish (w ∷ ws) named = refl

  opening-numbers : (wires : List ℕ) (named : List ℕ → Finish) →
      plan_numbers deals (opening_plan wires named) v ≡ all_opened_by v (batch_on deals (reveal_batch [] wires) v)
  unfolding plan_numbers
  opening-numbers [] named = sym (drop-append_seam v.opened [])
  opening-numbers (w ∷ ws) named = refl

  opening-count : (policy : Policy) (prices z : ℕ) →
      plan_rounds deals (opening_plan (shown_by policy (prices + z) z) (price_with z)) v ≡ opening_rounds policy
  unfolding plan_rounds
  opening-count PriceAlone prices z = refl
  opening-count Volume prices z = refl
  opening-count Full prices z = refl

-- what a search that ends at z says of its end
record EndSays (policy : Policy) (deals : ℕ → List ℕ) (prices : ℕ) (supply demand : ℕ → ℕ) (z : ℕ) (v : Values) : Type 0 where
  finish : plan_end deals (end_plan policy prices z) v ≡ found policy prices supply demand z
  count : plan_rounds deals (end_plan policy prices z) v ≡ rounds_opening policy prices z
  numbers : plan_numbers deals (end_plan policy prices z) v ≡ shown_at_end policy prices supply demand z

end-says : (policy : Policy) (deals : ℕ → List ℕ) (prices : ℕ) (supply demand : ℕ → ℕ) (first i z : ℕ) (v : Values) →
    Stands prices supply demand first i v →
    EndSays policy deals prices supply demand z v
end-says policy deals prices supply demand first i z v s = elim (cases_lt z prices) [
  | inl h ↦
      let t : nat_lt z prices ≡ true = grind (arith, nat_tests) in
      let shown = shown-opened deals prices supply demand first i z v s policy h in
      let here : end_plan policy prices z ≡ opening_plan (shown_by policy (prices + z) z) (price_with z) = rw t refl in
      let f : found policy prices supply demand z ≡ price_with z (shown_by policy (demand z) (supply z)) = rw t refl in
      let c : rounds_opening policy prices z ≡ opening_rounds policy = rw t refl in
      let n : shown_at_end policy prices supply demand z ≡ shown_by policy (demand z) (supply z) = rw t refl in
      record {
        finish = ap (λ (q : Plan Finish). plan_end deals q v) here
            ∙ opening-finish deals v (shown_by policy (prices + z) z) (price_with z) ∙ ap (price_with z) shown ∙ sym f;
        count = ap (λ (q : Plan Finish). plan_rounds deals q v) here ∙ opening-count deals v policy prices z ∙ sym c;
        numbers = ap (λ (q : Plan Finish). plan_numbers deals q v) here
            ∙ opening-numbers deals v (shown_by policy (prices + z) z) (price_with z) ∙ shown ∙ sym n;
      }
  | inr h ↦
      let t : nat_lt z prices ≡ false = grind (arith, nat_tests) in
      let e = ended-on deals NoPrice v in
      let here : end_plan policy prices z ≡ Ended NoPrice = rw t refl in
      let f : found policy prices supply demand z ≡ NoPrice = rw t refl in
      let c : rounds_opening policy prices z ≡ 0 = rw t refl in
      let n : shown_at_end policy prices supply demand z ≡ [] = rw t refl in
      record {
        finish = ap (λ (q : Plan Finish). plan_end deals q v) here ∙ e.finish ∙ sym f;
        count = ap (λ (q : Plan Finish). plan_rounds deals q v) here ∙ e.count ∙ sym c;
        numbers = ap (λ (q : Plan Finish). plan_numbers deals q v) here ∙ e.shown ∙ sym n;
      }
]

module _ (g : Blocks) (are : AreBlocks g) (policy : Policy) (deals deals' : ℕ → List ℕ) (masks masks' : ℕ → ℕ)
    (prices : ℕ) (places : List ℕ)
    (supply demand supply' demand' : ℕ → ℕ) (test : ℕ → Bool) (d : Deals g.words deals masks)
    (d' : Deals g.words deals' masks') (alike : Alike masks masks')
    (elements : AreElements prices supply demand) (elements' : AreElements prices supply' demand')
    (reached : (k : ℕ) → k < prices → is_doubled_even (supply k) (demand k) ≡ test k)
    (reached' : (k : ℕ) → k < prices → is_doubled_even (supply' k) (demand' k) ≡ test k)
    (opens : (i m : ℕ) → m < prices → item_compared places masks i ≡ Some m →
    add_of (doubled (supply' m) (demand' m)) (masks' i) ≡ add_of (doubled (supply m) (demand m)) (masks i)) where
  -- where the search ends
  over : (m lo hi spare first i : ℕ) (v v' : Values) → Stands prices supply demand first i v →
      Stands prices supply' demand' first i v' → spare ≤ 2 → hi ≤ lo →
      (shown_at_end policy prices supply' demand' lo ≡ shown_at_end policy prices supply demand lo) →
      Claim g masks i (2 - spare) (length (tested test m lo hi)) MasksSpent (found policy prices supply demand
      (place_between test m lo hi)) (rounds_opening policy prices (place_between test m lo hi))
      deals deals' (end_plan policy prices lo) v v'
  over m lo hi spare first i v v' s s' hs past shown =
      let e = end-says policy deals prices supply demand first i lo v s in
      let e' = end-says policy deals' prices supply' demand' first i lo v' s' in
      rw (tested-none test m lo hi past, place-none test m lo hi past) (record {
        finish = e.finish ∙ ap (λ (b : Bool). if b then MasksSpent else found policy prices supply demand lo)
            (sym (spent-none masks i (2 - spare) (omega arith)));
        rounds = rw e.count (rounds-none g masks i (2 - spare) (rounds_opening policy prices lo) (omega arith));
        numbers = e'.numbers ∙ shown ∙ sym e.numbers;
      })

  pub search-claim : (m lo hi spare first i : ℕ) (v v' : Values) → Stands prices supply demand first i v →
      Stands prices supply' demand' first i v' → spare ≤ 2 →
      lo ≤ hi → hi ≤ prices → hi < lo + 2 ^ m → Along masks places i (2 - spare) (tested test m lo hi) →
      (let z = place_between test m lo hi in
      (shown_at_end policy prices supply' demand' z ≡ shown_at_end policy prices supply demand z) →
      Claim g masks i (2 - spare) (length (tested test m lo hi)) MasksSpent (found policy prices supply demand z)
      (rounds_opening policy prices z) deals deals' (search_plan g policy prices m lo hi spare first) v v')
  unfolding search_plan
  search-claim zero lo hi spare first i v v' s s' hs hl hp hm along shown =
      over zero lo hi spare first i v v' s s' hs (omega arith) (rw (place-none test zero lo hi (omega arith)) at shown)
  search-claim (suc m) lo hi spare first i v v' s s' hs hl hp hm along shown = elim (cases_lt lo hi) [
    | inr past ↦
        let t : nat_lt lo hi ≡ false = grind (arith, nat_tests) in
        rw t (over (suc m) lo hi spare first i v v' s s' hs past (rw (place-none test (suc m) lo hi past) at shown))
    | inl h ↦
        let t : nat_lt lo hi ≡ true = grind (arith, nat_tests) in
        let mid = (lo + hi) / 2 in
        let below : mid < prices = omega arith in
        let power : 2 ^ suc m ≡ 2 ^ m * 2 = pow-suc 2 m in
        let opened = tested-open test m lo hi t in
        let place = place-open test m lo hi t in
        let search = search_plan g policy prices m in
        let rest = if test mid then tested test m lo mid else tested test m (mid + 1) hi in
        let z = if test mid then place_between test m lo mid else place_between test m (mid + 1) hi in
        let along' : Along masks places i (2 - spare) (mid ∷ rest) = rw opened at along in
        let shown' : shown_at_end policy prices supply' demand' z ≡ shown_at_end policy prices supply demand z = rw place at shown in
        let whole : Claim g masks i (2 - spare) (suc (length rest)) MasksSpent (found policy prices supply demand z)
        (rounds_opening policy prices z) deals deals'
        (until_accepted g MasksSpent spare first (with_mask g prices search lo hi)) v v' =
        until-claim g are deals deals' masks masks' d d' alike places MasksSpent (found policy prices supply demand z)
        (rounds_opening policy prices z) spare first i (length rest) v v'
        (mid ∷ rest) (with_mask g prices search lo hi) hs s.len s'.len s.dealt s'.dealt along'
        (λ left mask j w w' hl some a dw dw' acc acc'.
        let free = after_mask g mask in
        let next = after_answer g search lo hi left mask in
        let s1 = stands-append prices supply demand first free i (j + 1) v w acc.more s acc.wires acc.len dw in
        let s2 = stands-append prices supply' demand' first free i (j + 1) v' w' acc'.more s' acc'.wires acc'.len dw' in
        let small : IsElement (masks j) = accepted-element g.words deals masks d j some in
        let small' : IsElement (masks' j) = accepted-element g.words deals' masks' d' j (alike-accepted masks masks' alike j some) in
        let b = compare-step g are deals prices supply demand free mask (masks j) (j + 1) mid w elements s1
        (omega arith) acc.bits small below in
        let b' = compare-step g are deals' prices supply' demand' free mask (masks' j) (j + 1) mid w' elements' s2
        (omega arith) acc'.bits small' below in
        let x = add_of (doubled (supply mid) (demand mid)) (masks j) in
        let same : add_of (doubled (supply' mid) (demand' mid)) (masks' j) ≡ x =
        opens j mid below (along-compared masks places j (2 - left) mid rest some (omega arith) a) in
        let middle = after_masked g deals free mask mid (prices + mid) w in
        let middle' = after_masked g deals' free mask mid (prices + mid) w' in
        let c = opened_by w middle in
        let c' = opened_by w' middle' in
        let same_c : c' ≡ c = b'.masked ∙ same ∙ sym b.masked in
        let y = if test mid then 1 else 0 in
        let late = batches_on deals (g.answer free mask c) middle in
        let late' = batches_on deals' (g.answer free mask c') middle' in
        let ey : opened_by middle late ≡ y = b.opened ∙ ap (λ (q : Bool). if q then 1 else 0) (reached mid below) in
        let ey' : opened_by middle' late' ≡ y = b'.opened ∙ ap (λ (q : Bool). if q then 1 else 0) (reached' mid below) in
        let masked = g.masked free mask mid (prices + mid) ∷ [] in
        let cont : ℕ → Plan Finish = λ c. Block (g.answer free mask c) next in
        let l = leads-then deals (Block masked cont) (cont c) (next y) w middle late (c ∷ []) (y ∷ []) 1 (length (g.answer free mask c))
        (leads-block deals masked cont w c refl) (leads-block deals (g.answer free mask c) next middle y ey) in
        let l' = leads-then deals' (Block masked cont) (cont c') (next y) w' middle' late' (c' ∷ []) (y ∷ []) 1
        (length (g.answer free mask c'))
        (leads-block deals' masked cont w' c' refl) (leads-block deals' (g.answer free mask c') next middle' y ey') in
        let wide : free + g.compare_wires ≡ after_both g mask = omega arith in
        let t1 : Stands prices supply demand (after_both g mask) (j + 1) late = rw wide at b.stands in
        let t2 : Stands prices supply' demand' (after_both g mask) (j + 1) late' = rw wide at b'.stands in
        let on : Along masks places (j + 1) (2 - left) rest = along-accepted masks places j (2 - left) mid rest some a in
        let k : Claim g masks (j + 1) (2 - left) (length rest) MasksSpent (found policy prices supply demand z)
        (rounds_opening policy prices z) deals deals' (next y) late late' =
        elim (cases_Bool (test mid)) [
          | inl met ↦
              rw met (search-claim m lo mid left (after_both g mask) (j + 1) late late' t1 t2 hl (omega arith)
              (omega arith) (omega arith) (rw met at on) (rw met at shown'))
          | inr unmet ↦
              rw unmet (search-claim m (mid + 1) hi left (after_both g mask) (j + 1) late late' t1 t2 hl
              (omega arith) hp (omega arith) (rw unmet at on) (rw unmet at shown'))
        ] in
        record {
          finish = l.finish ∙ k.finish;
          more = plan_rounds deals (next y) late;
          count = omega (arith, l.count, are.comparisons.rounds free mask c);
          rounds = k.rounds;
          numbers = l'.shown ∙ (λ i. same_c i ∷ y ∷ k.numbers i) ∙ sym l.shown;
        }) in
        rw (t, opened, place) whole
  ]
