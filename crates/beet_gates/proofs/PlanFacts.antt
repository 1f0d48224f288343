-- A script that follows a plan: its law and its run on plain values.
use Rattle.std.proofs.Common.{◌≡◌, ℕ, zero, suc, ◌+◌, ◌-◌, ◌<◌, ◌≤◌, inl, inr, Bool, true, false, List, [], ◌∷◌, ◌++◌}
use Rattle.std.proofs.Common.{drop, map, length, slice_index, slice_get, Some, None, refl, ap, sym, ◌∙◌, arith}
use Rattle.std.proofs.Common.{append_assoc, append-nil, add-one, add-zero, zero-add}
use Rattle.std.specs.Prelude.{nat_lt, if◌then◌else◌}
use Rattle.std.proofs.Math.Seq.{drop-append_seam}
use Rattle.std.proofs.lemmas.Bool.{cases_eq, cases_lt}
use Rattle.std.proofs.lemmas.Bool.Decides.{nat_tests}
use Rattle.std.proofs.lemmas.List.{get_or-append-add, nil_from_length}
use Rattle.beet_gates.specs.declared.Act.{Act}
use Rattle.beet_gates.specs.declared.Act.TheVariants.{Deal, Mul, Reveal, End}
use Rattle.beet_gates.specs.declared.Batch.{Batch}
use Rattle.beet_gates.specs.Batches.{end_batch}
use Rattle.beet_gates.specs.Clear.{Values, batch_on, batches_on, act_on, with_lets, is_end, start_values, clear_at}
use Rattle.beet_gates.specs.Clear.{clear_act, rounds_dealt, values_dealt}
use Rattle.beet_gates.proofs.ClearAt.{rounds-are}
use Rattle.beet_gates.proofs.ClearFacts.{opens-more, done-after}
use Rattle.beet_gates.specs.Scripts.{Standing, BatchStands, IsWithin, LawFrom, after, acted, revealed}
use Rattle.beet_gates.specs.Plans.{Plan, Ended, Block, Quiet, Last, plan_batch, plan_length, plan_after, plan_finish}
use Rattle.beet_gates.specs.Plans.{batch_at}
use Rattle.beet_gates.proofs.PlanRuns.{all_opened_by, plan_run, plan_rounds, plan_end, opened_by, BlockStands}
use Rattle.beet_gates.proofs.PlanRuns.{PlanStands, after_all}

-- from here on the script is the plan
pub record Follows {F : Type 0} (next : ℕ → List ℕ → Batch) (done : ℕ) (opened : List ℕ) (plan : Plan F) : Type 0 where
  pub batch : (d : ℕ) (more : List ℕ) → next (done + d) (opened ++ more) ≡ plan_batch plan d more

-- the batch with which a plan begins
module _ {F : Type 0} where
  pub now-block : (b : Batch) (bs : List Batch) (k : ℕ → Plan F) → plan_batch (Block (b ∷ bs) k) 0 [] ≡ b
  unfolding plan_batch
  now-block b bs k = refl

  pub now-ended : (f : F) → plan_batch (Ended f) 0 [] ≡ end_batch
  unfolding plan_batch
  now-ended f = refl

  pub now-quiet : (b : Batch) (rest : Plan F) → plan_batch (Quiet b rest) 0 [] ≡ b
  unfolding plan_batch
  now-quiet b rest = refl

  pub now-last : (b : Batch) (n : ℕ) (named : List ℕ → F) → plan_batch (Last b n named) 0 [] ≡ b
  unfolding plan_batch
  now-last b n named = refl

module _ {F : Type 0} (next : ℕ → List ℕ → Batch) where
  -- the batch that comes now
  pub follows-now : (done : ℕ) (opened : List ℕ) (plan : Plan F) → Follows next done opened plan → next done opened ≡ plan_batch plan 0 []
  follows-now done opened plan f = rw (add-zero, append-nil opened) at (f.batch 0 [])

  -- after the last batch comes the end
  past-last : (b : Batch) (n : ℕ) (named : List ℕ → F) (d : ℕ) (more : List ℕ) → plan_batch (Last b n named) (suc d) more ≡ end_batch
  unfolding plan_batch
  past-last b n named d more = refl

  pub follows-last : (done : ℕ) (opened new : List ℕ) (b : Batch) (n : ℕ) (named : List ℕ → F) →
      Follows next done opened (Last b n named) → Follows next (done + 1) (opened ++ new) (Ended (named new))
  unfolding plan_batch
  follows-last done opened new b n named f = record {
    batch = λ d more.
        let e : done + 1 + d ≡ done + suc d = omega arith in
        rw (e, append_assoc opened new more) (f.batch (suc d) (new ++ more) ∙ past-last b n named d (new ++ more));
  }

  -- a block less its first batch
  tail-block : (b c : Batch) (bs : List Batch) (k : ℕ → Plan F) (d : ℕ) (more : List ℕ) →
      plan_batch (Block (b ∷ c ∷ bs) k) (suc d) more ≡ plan_batch (Block (c ∷ bs) k) d more
  unfolding plan_batch
  tail-block b c bs k d [] = refl
  tail-block b c bs k d (x ∷ xs) =
      let e : suc d - suc (suc (length bs)) ≡ d - suc (length bs) = omega arith in
      let t : nat_lt (suc d) (suc (suc (length bs))) ≡ nat_lt d (suc (length bs)) = grind (arith, nat_tests) in
      rw (e, t) refl

  -- after the last batch of a block
  last-block : (b : Batch) (k : ℕ → Plan F) (d x : ℕ) (more : List ℕ) →
      plan_batch (Block (b ∷ []) k) (suc d) (x ∷ more) ≡ plan_batch (k x) d more
  unfolding plan_batch
  last-block b k d x more =
      let e : suc d - 1 ≡ d = omega arith in
      let t : nat_lt (suc d) 1 ≡ false = grind (arith, nat_tests) in
      rw (e, t) refl

  pub follows-tail : (done : ℕ) (opened : List ℕ) (b c : Batch) (bs : List Batch) (k : ℕ → Plan F) →
      Follows next done opened (Block (b ∷ c ∷ bs) k) → Follows next (done + 1) opened (Block (c ∷ bs) k)
  follows-tail done opened b c bs k f = record {
    batch = λ d more.
        let e : done + 1 + d ≡ done + suc d = omega arith in
        rw e (f.batch (suc d) more ∙ tail-block b c bs k d more);
  }

  pub follows-next : (done : ℕ) (opened : List ℕ) (b : Batch) (k : ℕ → Plan F) (x : ℕ) →
      Follows next done opened (Block (b ∷ []) k) → Follows next (done + 1) (opened ++ x ∷ []) (k x)
  follows-next done opened b k x f = record {
    batch = λ d more.
        let e : done + 1 + d ≡ done + suc d = omega arith in
        rw (e, append_assoc opened (x ∷ []) more) (f.batch (suc d) (x ∷ more) ∙ last-block b k d x more);
  }

  -- after a batch that opens nothing
  past-quiet : (b : Batch) (rest : Plan F) (d : ℕ) (more : List ℕ) → plan_batch (Quiet b rest) (suc d) more ≡ plan_batch rest d more
  unfolding plan_batch
  past-quiet b rest d more = refl

  pub follows-quiet : (done : ℕ) (opened : List ℕ) (b : Batch) (rest : Plan F) →
      Follows next done opened (Quiet b rest) → Follows next (done + 1) opened rest
  follows-quiet done opened b rest f = record {
    batch = λ d more.
        let e : done + 1 + d ≡ done + suc d = omega arith in
        rw e (f.batch (suc d) more ∙ past-quiet b rest d more);
  }

-- a batch that opens numbers is not the end
pub opens-some : (a : Act) → 1 ≤ revealed a → is_end a ≡ false
opens-some Deal h = absurd (omega arith)
opens-some (Mul pairs) h = refl
opens-some (Reveal shown) h = refl
opens-some End h = absurd (omega arith)

-- a batch that opens no number, and one that opens one
pub opened-none : (deals : ℕ → List ℕ) (b : Batch) (v : Values) → revealed b.act ≡ 0 → (batch_on deals b v).opened ≡ v.opened
opened-none deals b v h = by_act b.act (record v { wires = with_lets v.wires b.lets.items }) h where
  by_act : (a : Act) (w : Values) → revealed a ≡ 0 → (act_on deals a w).opened ≡ w.opened
  by_act Deal w h = refl
  by_act (Mul pairs) w h = refl
  by_act (Reveal shown) w h = by_list shown.items h where
    by_list : (ws : List ℕ) → length ws ≡ 0 → w.opened ++ map (slice_index w.wires) ws ≡ w.opened
    by_list [] h = append-nil w.opened
    by_list (x ∷ xs) h = absurd (omega arith)
  by_act End w h = refl

opened-one : (deals : ℕ → List ℕ) (b : Batch) (v : Values) → revealed b.act ≡ 1 →
    (x : ℕ) × ((batch_on deals b v).opened ≡ v.opened ++ x ∷ [])
opened-one deals b v h = by_act b.act (record v { wires = with_lets v.wires b.lets.items }) h where
  by_act : (a : Act) (w : Values) → revealed a ≡ 1 → (x : ℕ) × ((act_on deals a w).opened ≡ w.opened ++ x ∷ [])
  by_act Deal w h = absurd (omega arith)
  by_act (Mul pairs) w h = absurd (omega arith)
  by_act (Reveal shown) w h = by_list shown.items h where
    by_list : (ws : List ℕ) → length ws ≡ 1 → (x : ℕ) × (w.opened ++ map (slice_index w.wires) ws ≡ w.opened ++ x ∷ [])
    by_list [] h = absurd (omega arith)
    by_list (x ∷ []) h = (slice_index w.wires x, refl)
    by_list (x ∷ y ∷ ys) h = absurd (omega arith)
  by_act End w h = absurd (omega arith)

-- a list of one number
pub single : (xs : List ℕ) → length xs ≡ 1 → (x : ℕ) × (xs ≡ x ∷ [])
single [] h = absurd (omega arith)
single (x ∷ []) h = (x, refl)
single (x ∷ y ∷ ys) h = absurd (omega arith)

-- the number that was opened last
pub opened-last : (xs : List ℕ) (x : ℕ) → slice_index (xs ++ x ∷ []) (length xs) ≡ x
opened-last xs x = let e : length xs ≡ length xs + 0 = omega arith in rw e (get_or-append-add xs (x ∷ []) 0 0)

-- the run of a block on the values after `done` batches: none of its batches is the end, and then comes what follows
record AfterBlock {F : Type 0} (next : ℕ → List ℕ → Batch) (deals : ℕ → List ℕ) (inputs : List ℕ) (bs : List Batch)
    (k : ℕ → Plan F) (done : ℕ) (v : Values) : Type 0 where
  values : batches_on deals bs v ≡ clear_at next deals inputs (done + length bs)
  going : (i : ℕ) → done ≤ i → i < done + length bs → is_end (clear_act next deals inputs i) ≡ false
  follows : Follows next (done + length bs) (batches_on deals bs v).opened (k (opened_by v (batches_on deals bs v)))

module _ (next : ℕ → List ℕ → Batch) (deals : ℕ → List ℕ) (inputs : List ℕ) where
  -- one batch of the run
  stepped : (done : ℕ) (v : Values) (b : Batch) → v ≡ clear_at next deals inputs done → next done v.opened ≡ b →
      batch_on deals b v ≡ clear_at next deals inputs (done + 1)
  stepped done v b is now =
      let e : b ≡ next done (clear_at next deals inputs done).opened = sym now ∙ ap (λ (w : Values). next done w.opened) is in
      rw add-one (λ i. batch_on deals (e i) (is i))

  act-is : (done : ℕ) (v : Values) (b : Batch) → v ≡ clear_at next deals inputs done → next done v.opened ≡ b →
      clear_act next deals inputs done ≡ b.act
  act-is done v b is now = ap (λ (c : Batch). c.act) (ap (λ (w : Values). next done w.opened) (sym is) ∙ now)

  block-clear : {F : Type 0} (bs : List Batch) (k : ℕ → Plan F) (s : Standing) (done : ℕ) (v : Values) →
      v ≡ clear_at next deals inputs done →
      BlockStands s bs → Follows next done v.opened (Block bs k) → AfterBlock next deals inputs bs k done v
  unfolding BlockStands
  block-clear [] k s done v is h f = absurd h
  block-clear (b ∷ []) k s done v is h f =
      let now : next done v.opened ≡ b = follows-now next done v.opened (Block (b ∷ []) k) f ∙ now-block b [] k in
      let one = opened-one deals b v h.1 in
      record {
        values = stepped done v b is now;
        going = λ i l m.
            let e : i ≡ done = omega (arith, l, m) in
            rw e (ap is_end (act-is done v b is now) ∙ opens-some b.act (omega (arith, h.1)));
        follows = rw (one.1, opened-last v.opened one.0) (follows-next next done v.opened b k one.0 f);
      }
  block-clear (b ∷ c ∷ bs) k s done v is h f =
      let now : next done v.opened ≡ b = follows-now next done v.opened (Block (b ∷ c ∷ bs) k) f ∙ now-block b (c ∷ bs) k in
      let step = batch_on deals b v in
      let same : step.opened ≡ v.opened = opened-none deals b v h.2 in
      let rest = block-clear (c ∷ bs) k (after s b) (done + 1) step (stepped done v b is now) h.3
      (rw same (follows-tail next done v.opened b c bs k f)) in
      let d : done + suc (suc (length bs)) ≡ done + 1 + suc (length bs) = omega arith in
      record {
        values = rw d rest.values;
        going = λ i l m. elim (cases_eq i done) [
          | inl first ↦ rw first (ap is_end (act-is done v b is now) ∙ h.1)
          | inr other ↦ rest.going i (omega (arith, other, l)) (omega (arith, m))
        ];
        follows = rw d (rw same at rest.follows);
      }

-- what is left of the bounds after a block
pub plan-next : {F : Type 0} (bounds s : Standing) (n : ℕ) (bs : List Batch) (next : ℕ → Plan F) → PlanStands bounds n s (Block bs next) →
    BlockStands s bs × (length bs ≤ n) × ((x : ℕ) → PlanStands bounds (n - length bs) (after_all s bs) (next x))
unfolding PlanStands
plan-next bounds s n bs next h = (h.0, h.2, h.3)

plan-last : {F : Type 0} (bounds s : Standing) (n : ℕ) (b : Batch) (k : ℕ) (named : List ℕ → F) → PlanStands bounds n s (Last b k named) →
    BatchStands s b × IsWithin bounds (after s b) × (revealed b.act ≡ k) × (1 ≤ k) × (1 ≤ n)
unfolding PlanStands
plan-last bounds s n b k named h = h

pub plan-quiet : {F : Type 0} (bounds s : Standing) (n : ℕ) (b : Batch) (rest : Plan F) → PlanStands bounds n s (Quiet b rest) →
    BatchStands s b × IsWithin bounds (after s b) × (is_end b.act ≡ false) × (revealed b.act ≡ 0) × (1 ≤ n)
    × (plan_finish rest [] ≡ None) × PlanStands bounds (n - 1) (after s b) rest
unfolding PlanStands
plan-quiet bounds s n b rest h = h

-- the run of a script that follows a plan is that of the plan: none of its batches is the end, and then it comes
record AfterPlan {F : Type 0} (next : ℕ → List ℕ → Batch) (deals : ℕ → List ℕ) (inputs : List ℕ) (plan : Plan F)
    (n done : ℕ) (v : Values) : Type 0 where
  values : plan_run deals plan v ≡ clear_at next deals inputs (suc (done + plan_rounds deals plan v))
  ends : is_end (clear_act next deals inputs (done + plan_rounds deals plan v)) ≡ true
  going : (i : ℕ) → done ≤ i → i < done + plan_rounds deals plan v → is_end (clear_act next deals inputs i) ≡ false
  few : plan_rounds deals plan v ≤ n

plan-clear : {F : Type 0} (next : ℕ → List ℕ → Batch) (deals : ℕ → List ℕ) (inputs : List ℕ) (bounds : Standing)
    (plan : Plan F) (s : Standing) (n done : ℕ) (v : Values) →
    v ≡ clear_at next deals inputs done → PlanStands bounds n s plan → Follows next done v.opened plan →
    AfterPlan next deals inputs plan n done v
unfolding plan_run plan_rounds
plan-clear next deals inputs bounds (Ended f) s n done v is h g =
    let now : next done v.opened ≡ end_batch = follows-now next done v.opened (Ended f) g ∙ now-ended f in
    let none : done + 0 ≡ done = add-zero done in
    record {
      values = rw none (rw add-one at (stepped next deals inputs done v end_batch is now));
      ends = rw none (ap is_end (act-is next deals inputs done v end_batch is now));
      going = λ i l m. absurd (omega (arith, l, m));
      few = omega arith;
    }
plan-clear next deals inputs bounds (Last b k named) s n done v is h g =
    let q = plan-last bounds s n b k named h in
    let now : next done v.opened ≡ b = follows-now next done v.opened (Last b k named) g ∙ now-last b k named in
    let w = batch_on deals b v in
    let o = opens-more deals b v in
    let there : w ≡ clear_at next deals inputs (done + 1) = stepped next deals inputs done v b is now in
    let later : Follows next (done + 1) w.opened (Ended (named o.0)) = rw o.2 (follows-last next done v.opened o.0 b k named g) in
    let end : next (done + 1) w.opened ≡ end_batch =
    follows-now next (done + 1) w.opened (Ended (named o.0)) later ∙ now-ended (named o.0) in
    record {
      values = rw add-one at (stepped next deals inputs (done + 1) w end_batch there end);
      ends = ap is_end (act-is next deals inputs (done + 1) w end_batch there end);
      going = λ i l m.
          let e : i ≡ done = omega (arith, l, m) in
          rw e (ap is_end (act-is next deals inputs done v b is now) ∙ opens-some b.act (omega (arith, q.2, q.3)));
      few = q.4;
    }
plan-clear next deals inputs bounds (Quiet b rest) s n done v is h g =
    let q = plan-quiet bounds s n b rest h in
    let now : next done v.opened ≡ b = follows-now next done v.opened (Quiet b rest) g ∙ now-quiet b rest in
    let w = batch_on deals b v in
    let same : w.opened ≡ v.opened = opened-none deals b v q.3 in
    let there : w ≡ clear_at next deals inputs (done + 1) = stepped next deals inputs done v b is now in
    let later = plan-clear next deals inputs bounds rest (after s b) (n - 1) (done + 1) w there q.6
    (rw same (follows-quiet next done v.opened b rest g)) in
    let e : done + suc (plan_rounds deals rest w) ≡ done + 1 + plan_rounds deals rest w = omega arith in
    record {
      values = rw e later.values;
      ends = rw e later.ends;
      going = λ i l m. elim (cases_eq i done) [
        | inl first ↦ rw first (ap is_end (act-is next deals inputs done v b is now) ∙ q.2)
        | inr other ↦ later.going i (omega (arith, other, l)) (omega (arith, m))
      ];
      few = omega (arith, q.4, later.few);
    }
plan-clear next deals inputs bounds (Block bs k) s n done v is h g =
    let p = plan-next bounds s n bs k h in
    let after = batches_on deals bs v in
    let x = opened_by v after in
    let b = block-clear next deals inputs bs k s done v is p.0 g in
    let rest = plan-clear next deals inputs bounds (k x) (after_all s bs) (n - length bs)
    (done + length bs) after b.values (p.2 x) b.follows in
    let e : done + (length bs + plan_rounds deals (k x) after) ≡ done + length bs + plan_rounds deals (k x) after = omega arith in
    record {
      values = rw e rest.values;
      ends = rw e rest.ends;
      going = λ i l m. elim (cases_lt i (done + length bs)) [
        | inl low ↦ b.going i l low
        | inr high ↦ rest.going i high (omega (arith, m))
      ];
      few = omega (arith, p.1, rest.few);
    }

-- the run on inputs and deals of a script that follows a plan has the plan's rounds, and ends with its values
pub record RunsAsPlan {F : Type 0} (next : ℕ → List ℕ → Batch) (most : ℕ) (inputs : List ℕ) (deals : ℕ → List ℕ)
    (plan : Plan F) : Type 0 where
  pub rounds : rounds_dealt next most inputs deals ≡ plan_rounds deals plan (start_values inputs)
  pub values : values_dealt next most inputs deals ≡ plan_run deals plan (start_values inputs)

pub plan-runs : {F : Type 0} (next : ℕ → List ℕ → Batch) (deals : ℕ → List ℕ) (inputs : List ℕ) (bounds : Standing)
    (plan : Plan F) (s : Standing) (most : ℕ) →
    PlanStands bounds most s plan → Follows next 0 [] plan → RunsAsPlan next most inputs deals plan
plan-runs next deals inputs bounds plan s most h g =
    let start = start_values inputs in
    let r = plan-clear next deals inputs bounds plan s most 0 start refl h g in
    let n = plan_rounds deals plan start in
    let none : 0 + n ≡ n = zero-add n in
    let rounds = rounds-are next deals inputs most n (rw none at r.ends, λ k l. r.going k (omega arith) (rw none l)) r.few in
    record {
      rounds = rounds;
      values = ap (λ m. clear_at next deals inputs (suc m)) rounds ∙ sym (rw none at r.values);
    }

within-after : (bounds s : Standing) (b : Batch) → IsWithin bounds (after s b) → IsWithin bounds s
within-after bounds s b h = by_act b.act h where
  by_act : (a : Act) → IsWithin bounds (acted (record s { wires = s.wires + length b.lets.items }) a) → IsWithin bounds s
  by_act Deal h = (omega arith, omega arith, omega arith)
  by_act (Mul pairs) h = (omega arith, h.1, omega arith)
  by_act (Reveal shown) h = (omega arith, h.1, h.2)
  by_act End h = (omega arith, h.1, h.2)

-- a list of batches only uses more of the bounds
pub within-all : (bounds s : Standing) (bs : List Batch) → IsWithin bounds (after_all s bs) → IsWithin bounds s
within-all bounds s [] h = h
within-all bounds s (b ∷ bs) h = within-after bounds s b (within-all bounds (after s b) bs h)

-- the law of a block, where what follows keeps it
block-law : {F : Type 0} (next : ℕ → List ℕ → Batch) (bounds : Standing) (bs : List Batch) (k : ℕ → Plan F)
    (s : Standing) (n : ℕ) (opened : List ℕ) →
    BlockStands s bs → IsWithin bounds (after_all s bs) → Follows next s.done opened (Block bs k) → length bs ≤ n →
    ((x : ℕ) → Follows next (after_all s bs).done (opened ++ x ∷ []) (k x) →
    LawFrom next bounds (n - length bs) (after_all s bs) (opened ++ x ∷ [])) →
    LawFrom next bounds n s opened
unfolding BlockStands
block-law next bounds [] k s n opened h w f l rest = absurd h
block-law next bounds (b ∷ []) k s zero opened h w f l rest = absurd (omega arith)
block-law next bounds (b ∷ []) k s (suc n) opened h w f l rest =
    let now : next s.done opened ≡ b = follows-now next s.done opened (Block (b ∷ []) k) f ∙ now-block b [] k in
    let m : suc n - 1 ≡ n = omega arith in
    let go : (new : List ℕ) → length new ≡ 1 → LawFrom next bounds n (after s b) (opened ++ new) = by_list in
    rw now (h.0, w, inr (rw h.1 go)) where
      by_list : (new : List ℕ) → length new ≡ 1 → LawFrom next bounds n (after s b) (opened ++ new)
      by_list [] e = absurd (omega arith)
      by_list (x ∷ []) e =
          let m : suc n - 1 ≡ n = omega arith in
          let d = done-after s b (opens-some b.act (omega (arith, h.1))) in
          rw m at (rest x (rw d (follows-next next s.done opened b k x f)))
      by_list (x ∷ y ∷ ys) e = absurd (omega arith)
block-law next bounds (b ∷ c ∷ bs) k s zero opened h w f l rest = absurd (omega arith)
block-law next bounds (b ∷ c ∷ bs) k s (suc n) opened h w f l rest =
    let now : next s.done opened ≡ b = follows-now next s.done opened (Block (b ∷ c ∷ bs) k) f ∙ now-block b (c ∷ bs) k in
    let m : suc n - suc (suc (length bs)) ≡ n - suc (length bs) = omega arith in
    let d = done-after s b h.1 in
    let there : LawFrom next bounds n (after s b) opened =
    block-law next bounds (c ∷ bs) k (after s b) n opened h.3 w
    (rw d (follows-tail next s.done opened b c bs k f)) (omega arith) (λ x g. rw m at (rest x g)) in
    let go : (new : List ℕ) → length new ≡ 0 → LawFrom next bounds n (after s b) (opened ++ new) =
    λ new e. rw (nil_from_length new e, append-nil opened) there in
    rw now (h.0, within-all bounds (after s b) (c ∷ bs) w, inr (rw h.2 go))

-- a script that has ended keeps the law
law-ended : (next : ℕ → List ℕ → Batch) (bounds s : Standing) (n : ℕ) (opened : List ℕ) →
    next s.done opened ≡ end_batch → IsWithin bounds s →
    LawFrom next bounds n s opened
law-ended next bounds s zero opened now h =
    rw now ((tt, tt, (omega arith, omega arith)), (omega (arith, h.0), h.1, h.2), refl)
law-ended next bounds s (suc n) opened now h =
    rw now ((tt, tt, (omega arith, omega arith)), (omega (arith, h.0), h.1, h.2), inl refl)

-- a script that follows a plan keeps the law
pub plan-law : {F : Type 0} (next : ℕ → List ℕ → Batch) (bounds : Standing) (plan : Plan F) (s : Standing) (n : ℕ) (opened : List ℕ) →
    PlanStands bounds n s plan → Follows next s.done opened plan → LawFrom next bounds n s opened
unfolding PlanStands
plan-law next bounds (Ended f) s n opened h g =
    law-ended next bounds s n opened (follows-now next s.done opened (Ended f) g ∙ now-ended f) h
plan-law next bounds (Last b k named) s zero opened h g = absurd (omega (arith, h.4))
plan-law next bounds (Last b k named) s (suc n) opened h g =
    let now : next s.done opened ≡ b = follows-now next s.done opened (Last b k named) g ∙ now-last b k named in
    let d = done-after s b (opens-some b.act (omega (arith, h.2, h.3))) in
    let end : (new : List ℕ) → next (after s b).done (opened ++ new) ≡ end_batch = λ new.
    let later = follows-last next s.done opened new b k named g in
    rw d (follows-now next (s.done + 1) (opened ++ new) (Ended (named new)) later ∙ now-ended (named new)) in
    rw now (h.0, h.1, inr (λ new len. law-ended next bounds (after s b) n (opened ++ new) (end new) h.1))
plan-law next bounds (Quiet b rest) s zero opened h g = absurd (omega (arith, h.4))
plan-law next bounds (Quiet b rest) s (suc n) opened h g =
    let now : next s.done opened ≡ b = follows-now next s.done opened (Quiet b rest) g ∙ now-quiet b rest in
    let m : suc n - 1 ≡ n = omega arith in
    let d = done-after s b h.2 in
    let there : LawFrom next bounds n (after s b) opened =
    plan-law next bounds rest (after s b) n opened (rw m at h.6) (rw d (follows-quiet next s.done opened b rest g)) in
    let go : (new : List ℕ) → length new ≡ 0 → LawFrom next bounds n (after s b) (opened ++ new) =
    λ new e. rw (nil_from_length new e, append-nil opened) there in
    rw now (h.0, h.1, inr (rw h.3 go))
plan-law next bounds (Block bs k) s n opened h g =
    block-law next bounds bs k s n opened h.0 h.1 g h.2
    (λ x f. plan-law next bounds (k x) (after_all s bs) (n - length bs) (opened ++ x ∷ []) (h.3 x) f)

-- after the last batch the end comes, however many of its numbers are read
read-on : {F : Type 0} (b : Batch) (n : ℕ) (named : List ℕ → F) (done x : ℕ) (xs : List ℕ) →
    plan_batch (plan_after (Last b n named) x) done xs ≡ end_batch
unfolding plan_batch
read-on b zero named done x xs = refl
read-on b (suc zero) named done x xs = refl
read-on b (suc (suc n)) named zero x xs = refl
read-on b (suc (suc n)) named (suc done) x xs = refl

-- one opened number more
pub plan-step : {F : Type 0} (plan : Plan F) (done x : ℕ) (xs : List ℕ) → plan_batch plan done (x ∷ xs)
    ≡ (if nat_lt done (plan_length plan) then plan_batch plan done [] else plan_batch (plan_after plan x) (done - plan_length plan) xs)
unfolding plan_batch
plan-step (Ended f) done x xs = let t : nat_lt done 0 ≡ false = grind (arith, nat_tests) in rw t refl
plan-step (Block bs next) done x xs = refl
plan-step (Quiet b rest) zero x xs = let t : nat_lt 0 (suc (plan_length rest)) ≡ true = grind (arith, nat_tests) in rw t refl
plan-step (Quiet b rest) (suc done) x xs =
    let t : nat_lt (suc done) (suc (plan_length rest)) ≡ nat_lt done (plan_length rest) = grind (arith, nat_tests) in
    let e : suc done - suc (plan_length rest) ≡ done - plan_length rest = omega arith in
    rw (t, e) (plan-step rest done x xs)
plan-step (Last b n named) zero x xs = refl
plan-step (Last b n named) (suc done) x xs =
    let t : nat_lt (suc done) 1 ≡ false = grind (arith, nat_tests) in
    rw t (sym (read-on b n named (suc done - 1) x xs))

pub plan-finish-step : {F : Type 0} (plan : Plan F) (x : ℕ) (xs : List ℕ) → plan_finish plan (x ∷ xs) ≡ plan_finish (plan_after plan x) xs
unfolding plan_finish
plan-finish-step (Ended f) x xs = refl
plan-finish-step (Block bs next) x xs = refl
plan-finish-step (Quiet b rest) x xs = plan-finish-step rest x xs
plan-finish-step (Last b zero named) x xs = refl
plan-finish-step (Last b (suc zero) named) x xs = refl
plan-finish-step (Last b (suc (suc n)) named) x xs = refl

-- the numbers that the last batch opens name the finish, whatever follows them
pub finish-last : {F : Type 0} (b : Batch) (named : List ℕ → F) (new more : List ℕ) →
    plan_finish (Last b (length new) named) (new ++ more) ≡ Some (named new)
unfolding plan_finish
finish-last b named [] more = refl
finish-last b named (x ∷ xs) more = finish-last end_batch (λ rest. named (x ∷ rest)) xs more

-- a block opens one number
pub block-opened : (deals : ℕ → List ℕ) (bs : List Batch) (s : Standing) (v : Values) → BlockStands s bs →
    (x : ℕ) × ((batches_on deals bs v).opened ≡ v.opened ++ x ∷ [])
unfolding BlockStands
block-opened deals [] s v h = absurd h
block-opened deals (b ∷ []) s v h = opened-one deals b v h.1
block-opened deals (b ∷ c ∷ bs) s v h =
    let rest = block-opened deals (c ∷ bs) (after s b) (batch_on deals b v) h.3 in
    (rest.0, rw (opened-none deals b v h.2) at rest.1)

-- what a run opens leads the plan to its end
pub plan-ends : {F : Type 0} (deals : ℕ → List ℕ) (bounds : Standing) (plan : Plan F) (s : Standing) (n : ℕ)
    (v : Values) → PlanStands bounds n s plan →
    (xs : List ℕ) × ((plan_run deals plan v).opened ≡ v.opened ++ xs) × (plan_finish plan xs ≡ Some (plan_end deals plan v))
unfolding plan_run plan_end plan_finish
plan-ends deals bounds (Ended f) s n v h = ([], sym (append-nil v.opened), refl)
plan-ends deals bounds (Last b k named) s n v h =
    let q = plan-last bounds s n b k named h in
    let o = opens-more deals b v in
    let count : length o.0 ≡ k = o.1 ∙ q.2 in
    let all : all_opened_by v (batch_on deals b v) ≡ o.0 = ap (drop (length v.opened)) o.2 ∙ drop-append_seam v.opened o.0 in
    (o.0, o.2, rw (← count, all) (rw append-nil at (finish-last b named o.0 [])))
plan-ends deals bounds (Quiet b rest) s n v h =
    let q = plan-quiet bounds s n b rest h in
    let same : (batch_on deals b v).opened ≡ v.opened = opened-none deals b v q.3 in
    let later = plan-ends deals bounds rest (after s b) (n - 1) (batch_on deals b v) q.6 in
    (later.0, later.1 ∙ ap (λ (l : List ℕ). l ++ later.0) same, later.2)
plan-ends deals bounds (Block bs k) s n v h =
    let p = plan-next bounds s n bs k h in
    let after = batches_on deals bs v in
    let o = block-opened deals bs s v p.0 in
    let x : opened_by v after ≡ o.0 = rw o.1 (opened-last v.opened o.0) in
    let rest = plan-ends deals bounds (k (opened_by v after)) (after_all s bs) (n - length bs) after (p.2 (opened_by v after)) in (
      opened_by v after ∷ rest.0,
      rest.1 ∙ ap (λ (l : List ℕ). l ++ rest.0) o.1 ∙ append_assoc v.opened (o.0 ∷ []) rest.0 ∙ rw x refl,
      rest.2,
    )

-- before the end of a list its batch at a place is there
pub batch-there : (bs : List Batch) (k : ℕ) → k < length bs → Some (batch_at bs k) ≡ slice_get bs k
batch-there [] k h = absurd (omega arith)
batch-there (b ∷ bs) zero h = refl
batch-there (b ∷ bs) (suc k) h = batch-there bs k (omega arith)

pub opened-new : (before after : Values) (x : ℕ) → after.opened ≡ before.opened ++ x ∷ [] → opened_by before after ≡ x
opened-new before after x e = ap (λ (l : List ℕ). slice_index l (length before.opened)) e ∙ opened-last before.opened x

-- what each form of a plan asks
module _ {F : Type 0} (bounds : Standing) (n : ℕ) (s : Standing) where
  pub stands-ended : (f : F) → IsWithin bounds s → PlanStands bounds n s (Ended f)
  unfolding PlanStands
  stands-ended f h = h

  pub stands-block : (bs : List Batch) (next : ℕ → Plan F) → BlockStands s bs → IsWithin bounds (after_all s bs) → length bs ≤ n →
      ((x : ℕ) → PlanStands bounds (n - length bs) (after_all s bs) (next x)) → PlanStands bounds n s (Block bs next)
  unfolding PlanStands
  stands-block bs next a b c d = (a, b, c, d)

  pub stands-last : (b : Batch) (k : ℕ) (named : List ℕ → F) → BatchStands s b → IsWithin bounds (after s b) →
      revealed b.act ≡ k → 1 ≤ k → 1 ≤ n →
      PlanStands bounds n s (Last b k named)
  unfolding PlanStands
  stands-last b k named h w e some l = (h, w, e, some, l)

  pub stands-if : (b : Bool) (p q : Plan F) → PlanStands bounds n s p → PlanStands bounds n s q → PlanStands bounds n s (if b then p else q)
  stands-if true p q h k = h
  stands-if false p q h k = k
