-- The numbers that the run of a plan opens, and where a plan leads on plain values.
use Rattle.std.proofs.Common.{◌≡◌, ℕ, ◌+◌, ◌-◌, List, [], ◌∷◌, ◌++◌, drop, length, slice_index, refl, ap, sym, ◌∙◌}
use Rattle.std.proofs.Common.{arith, append_assoc, append-nil}
use Rattle.std.proofs.Math.Seq.{drop-append_seam}
use Rattle.beet_gates.specs.declared.Batch.{Batch}
use Rattle.beet_gates.specs.Clear.{Values, batch_on, batches_on}
use Rattle.beet_gates.specs.Plans.{Plan, Ended, Block, Quiet, Last}
use Rattle.beet_gates.proofs.PlanRuns.{all_opened_by, plan_run, plan_rounds, plan_end, opened_by, PlanStands, after_all}
use Rattle.beet_gates.specs.Scripts.{Standing, after}
use Rattle.beet_gates.proofs.ClearFacts.{opens-more}
use Rattle.beet_gates.proofs.PlanFacts.{block-opened, opened-last, opened-none, plan-next, plan-quiet}

-- the numbers that it opens
unfoldable pub plan_numbers : {F : Type 0} → (ℕ → List ℕ) → Plan F → Values → List ℕ
plan_numbers deals (Ended f) v = []
plan_numbers deals (Block bs next) v =
    let after = batches_on deals bs v in opened_by v after ∷ plan_numbers deals (next (opened_by v after)) after
plan_numbers deals (Quiet b rest) v = plan_numbers deals rest (batch_on deals b v)
plan_numbers deals (Last b n named) v = all_opened_by v (batch_on deals b v)

-- and so the run of the plan does
pub plan-opened : {F : Type 0} (deals : ℕ → List ℕ) (bounds : Standing) (plan : Plan F) (s : Standing) (n : ℕ)
    (v : Values) → PlanStands bounds n s plan →
    (plan_run deals plan v).opened ≡ v.opened ++ plan_numbers deals plan v
unfolding plan_run plan_numbers
plan-opened deals bounds (Ended f) s n v h = sym (append-nil v.opened)
plan-opened deals bounds (Last b k named) s n v h =
    let o = opens-more deals b v in
    let all : all_opened_by v (batch_on deals b v) ≡ o.0 = ap (drop (length v.opened)) o.2 ∙ drop-append_seam v.opened o.0 in
    o.2 ∙ ap (λ (l : List ℕ). v.opened ++ l) (sym all)
plan-opened deals bounds (Quiet b rest) s n v h =
    let q = plan-quiet bounds s n b rest h in
    let same : (batch_on deals b v).opened ≡ v.opened = opened-none deals b v q.3 in
    plan-opened deals bounds rest (after s b) (n - 1) (batch_on deals b v) q.6
    ∙ ap (λ (l : List ℕ). l ++ plan_numbers deals rest (batch_on deals b v)) same
plan-opened deals bounds (Block bs k) s n v h =
    let q = plan-next bounds s n bs k h in
    let after = batches_on deals bs v in
    let o = block-opened deals bs s v q.0 in
    let x : opened_by v after ≡ o.0 = ap (λ (l : List ℕ). slice_index l (length v.opened)) o.1 ∙ opened-last v.opened o.0 in
    let rest = plan-opened deals bounds (k (opened_by v after)) (after_all s bs) (n - length bs) after (q.2 (opened_by v after)) in
    rest ∙ ap (λ (l : List ℕ). l ++ plan_numbers deals (k (opened_by v after)) after) (o.1 ∙ ap (λ z. v.opened ++ z ∷ []) (sym x))
    ∙ append_assoc v.opened (opened_by v after ∷ []) (plan_numbers deals (k (opened_by v after)) after)

-- a plan on some values leads to another on others: it has opened these numbers in so many rounds on the way, and ends alike
pub record Leads {F : Type 0} (deals : ℕ → List ℕ) (plan : Plan F) (v : Values) (rest : Plan F) (w : Values)
    (numbers : List ℕ) (rounds : ℕ) : Type 0 where
  pub finish : plan_end deals plan v ≡ plan_end deals rest w
  pub count : plan_rounds deals plan v ≡ rounds + plan_rounds deals rest w
  pub shown : plan_numbers deals plan v ≡ numbers ++ plan_numbers deals rest w

module _ {F : Type 0} (deals : ℕ → List ℕ) where
  pub leads-then : (p q r : Plan F) (v w u : Values) (xs ys : List ℕ) (m n : ℕ) → Leads deals p v q w xs m → Leads deals q w r u ys n →
      Leads deals p v r u (xs ++ ys) (m + n)
  leads-then p q r v w u xs ys m n a b = record {
    finish = a.finish ∙ b.finish;
    count = omega (arith, a.count, b.count);
    shown = a.shown ∙ ap (λ (l : List ℕ). xs ++ l) b.shown ∙ sym (append_assoc xs ys (plan_numbers deals r u));
  }

  pub leads-block : (bs : List Batch) (next : ℕ → Plan F) (v : Values) (x : ℕ) → opened_by v (batches_on deals bs v) ≡ x →
      Leads deals (Block bs next) v (next x) (batches_on deals bs v) (x ∷ []) (length bs)
  unfolding plan_end plan_rounds plan_numbers
  leads-block bs next v x e = rw (← e) (record { finish = refl; count = refl; shown = refl })

  pub leads-quiet : (b : Batch) (rest : Plan F) (v : Values) → Leads deals (Quiet b rest) v rest (batch_on deals b v) [] 1
  unfolding plan_end plan_rounds plan_numbers
  leads-quiet b rest v = record { finish = refl; count = omega arith; shown = refl }

-- a plan that has ended
pub record EndedOn {F : Type 0} (deals : ℕ → List ℕ) (f : F) (v : Values) : Type 0 where
  pub finish : plan_end deals (Ended f) v ≡ f
  pub count : plan_rounds deals (Ended f) v ≡ 0
  pub shown : plan_numbers deals (Ended f) v ≡ []

pub ended-on : {F : Type 0} (deals : ℕ → List ℕ) (f : F) (v : Values) → EndedOn deals f v
unfolding plan_end plan_rounds plan_numbers
ended-on deals f v = record { finish = refl; count = refl; shown = refl }
