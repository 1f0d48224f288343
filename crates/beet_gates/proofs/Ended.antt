-- A script that follows a plan has ended exactly where the plan has.
use Rattle.std.proofs.Common.{◌≡◌, ◌≢◌, ◌↔◌, ℕ, zero, suc, ◌+◌, ◌-◌, ◌≤◌, false, List, [], ◌∷◌, ◌++◌, length, Some}
use Rattle.std.proofs.Common.{None, refl, ap, sym, ◌∙◌, arith, append-nil, append_assoc, add-one}
use Rattle.std.specs.Prelude.{IsSome}
use Rattle.beet_gates.specs.declared.Act.{Act}
use Rattle.beet_gates.specs.declared.Act.TheVariants.{Deal, Mul, Reveal, End}
use Rattle.beet_gates.specs.declared.Batch.{Batch}
use Rattle.beet_gates.specs.Batches.{end_batch}
use Rattle.beet_gates.specs.Clear.{is_end}
use Rattle.beet_gates.specs.Plans.{Plan, Ended, Block, Quiet, Last, plan_batch, plan_finish}
use Rattle.beet_gates.proofs.PlanRuns.{BlockStands, PlanStands, after_all}
use Rattle.beet_gates.specs.Scripts.{Standing, after, revealed}
use Rattle.beet_gates.proofs.PlanFacts.{Follows, finish-last, follows-last, opens-some, follows-now, follows-tail}
use Rattle.beet_gates.proofs.PlanFacts.{follows-next, follows-quiet, now-block, now-ended, now-quiet, now-last, single}
use Rattle.beet_gates.specs.Ends.{ComesTo, TellsEnd}
use Rattle.std.proofs.lemmas.List.{nil_from_length}

-- each block has batches, of which the last and no other opens a number, whatever numbers are opened
unfoldable Opens : List Batch → Type 0
Opens [] = ⊥
Opens (b ∷ []) = revealed b.act ≡ 1
Opens (b ∷ c ∷ bs) = (is_end b.act ≡ false) × (revealed b.act ≡ 0) × Opens (c ∷ bs)

unfoldable AllOpen : {F : Type 0} → Plan F → Type 0
AllOpen (Ended f) = Unit {0}
AllOpen (Block bs next) = Opens bs × ((x : ℕ) → AllOpen (next x))
AllOpen (Quiet b rest) = (is_end b.act ≡ false) × (revealed b.act ≡ 0) × (plan_finish rest [] ≡ None) × AllOpen rest
AllOpen (Last b n named) = (revealed b.act ≡ n) × (1 ≤ n)

opens-stands : (s : Standing) (bs : List Batch) → BlockStands s bs → Opens bs
unfolding BlockStands Opens
opens-stands s [] h = h
opens-stands s (b ∷ []) h = h.1
opens-stands s (b ∷ c ∷ bs) h = (h.1, h.2, opens-stands (after s b) (c ∷ bs) h.3)

open-stands : {F : Type 0} (bounds : Standing) (n : ℕ) (s : Standing) (plan : Plan F) → PlanStands bounds n s plan → AllOpen plan
unfolding PlanStands AllOpen
open-stands bounds n s (Ended f) h = tt
open-stands bounds n s (Last b k named) h = (h.2, h.3)
open-stands bounds n s (Quiet b rest) h = (h.2, h.3, h.5, open-stands bounds (n - 1) (after s b) rest h.6)
open-stands bounds n s (Block bs next) h =
    (opens-stands s bs h.0, λ x. open-stands bounds (n - length bs) (after_all s bs) (next x) (h.3 x))

module _ {F : Type 0} (next : ℕ → List ℕ → Batch) (whole : Plan F) where
  record Left (done : ℕ) (opened : List ℕ) (plan : Plan F) : Type 0 where
    follows : Follows next done opened plan
    opens : AllOpen plan
    finish : (more : List ℕ) → plan_finish whole (opened ++ more) ≡ plan_finish plan more

  not_end : (a : Act) → is_end a ≡ false → a ≢ End
  not_end Deal h = λ e. cc e
  not_end (Mul pairs) h = λ e. cc e
  not_end (Reveal shown) h = λ e. cc e
  not_end End h = cc h

  finish-ended : (f : F) (more : List ℕ) → plan_finish (Ended f) more ≡ Some f
  unfolding plan_finish
  finish-ended f more = refl

  finish-next : (b : Batch) (k : ℕ → Plan F) (x : ℕ) (more : List ℕ) → plan_finish (Block (b ∷ []) k) (x ∷ more) ≡ plan_finish (k x) more
  unfolding plan_finish
  finish-next b k x more = refl

  finish-quiet : (b : Batch) (rest : Plan F) (more : List ℕ) → plan_finish (Quiet b rest) more ≡ plan_finish rest more
  unfolding plan_finish
  finish-quiet b rest more = refl

  finish-tail : (b c : Batch) (bs : List Batch) (k : ℕ → Plan F) (more : List ℕ) →
      plan_finish (Block (b ∷ c ∷ bs) k) more ≡ plan_finish (Block (c ∷ bs) k) more
  unfolding plan_finish
  finish-tail b c bs k [] = refl
  finish-tail b c bs k (x ∷ xs) = refl

  -- one batch further, where it is not the end
  left-step : (done : ℕ) (opened new : List ℕ) (plan : Plan F) → Left done opened plan → (next done opened).act ≢ End →
      length new ≡ revealed (next done opened).act → (rest : Plan F) × Left (done + 1) (opened ++ new) rest
  unfolding AllOpen Opens
  left-step done opened new (Ended f) l more len =
      let now : next done opened ≡ end_batch = follows-now next done opened (Ended f) l.follows ∙ now-ended f in
      absurd (more (ap (λ (b : Batch). b.act) now))
  left-step done opened new (Last b k named) l more len =
      let now : next done opened ≡ b = follows-now next done opened (Last b k named) l.follows ∙ now-last b k named in
      let count : length new ≡ k = len ∙ ap (λ (b : Batch). revealed b.act) now ∙ l.opens.0 in (
        Ended (named new),
        record {
          follows = follows-last next done opened new b k named l.follows;
          opens = tt;
          finish = λ xs.
              let all : plan_finish (Last b k named) (new ++ xs) ≡ Some (named new) = rw (← count) (finish-last b named new xs) in
              rw (append_assoc opened new xs) (l.finish (new ++ xs) ∙ all ∙ sym (finish-ended (named new) xs));
        },
      )
  left-step done opened new (Quiet b rest) l more len =
      let now : next done opened ≡ b = follows-now next done opened (Quiet b rest) l.follows ∙ now-quiet b rest in
      let empty = nil_from_length new (len ∙ ap (λ (b : Batch). revealed b.act) now ∙ l.opens.1) in
      rw (empty, append-nil opened) (
        rest,
        record {
          follows = follows-quiet next done opened b rest l.follows;
          opens = l.opens.3;
          finish = λ xs. l.finish xs ∙ finish-quiet b rest xs;
        },
      )
  left-step done opened new (Block [] k) l more len = absurd l.opens.0
  left-step done opened new (Block (b ∷ []) k) l more len =
      let now : next done opened ≡ b = follows-now next done opened (Block (b ∷ []) k) l.follows ∙ now-block b [] k in
      let one = single new (len ∙ ap (λ (b : Batch). revealed b.act) now ∙ l.opens.0) in
      rw one.1 (
        k one.0,
        record {
          follows = follows-next next done opened b k one.0 l.follows;
          opens = l.opens.1 one.0;
          finish = λ xs. rw (append_assoc opened (one.0 ∷ []) xs) (l.finish (one.0 ∷ xs) ∙ finish-next b k one.0 xs);
        },
      )
  left-step done opened new (Block (b ∷ c ∷ bs) k) l more len =
      let now : next done opened ≡ b = follows-now next done opened (Block (b ∷ c ∷ bs) k) l.follows ∙ now-block b (c ∷ bs) k in
      let empty = nil_from_length new (len ∙ ap (λ (b : Batch). revealed b.act) now ∙ l.opens.0.1) in
      rw (empty, append-nil opened) (
        Block (c ∷ bs) k,
        record {
          follows = follows-tail next done opened b c bs k l.follows;
          opens = (l.opens.0.2, l.opens.1);
          finish = λ xs. l.finish xs ∙ finish-tail b c bs k xs;
        },
      )

  left-at : Left 0 [] whole → (done : ℕ) (opened : List ℕ) → ComesTo next done opened → (rest : Plan F) × Left done opened rest
  left-at start zero opened come = rw come (whole, start)
  left-at start (suc n) opened come =
      let before = left-at start n come.0 come.2 in
      let after = left-step n come.0 come.1 before.0 before.1 come.3 come.4 in
      rw come.5 (rw add-one at after)

  tells-left : (done : ℕ) (opened : List ℕ) (plan : Plan F) → Left done opened plan →
      IsSome (plan_finish whole opened) ↔ ((next done opened).act ≡ End)
  unfolding AllOpen Opens plan_finish
  tells-left done opened plan l =
      let e : plan_finish whole opened ≡ plan_finish plan [] = rw append-nil at (l.finish []) in
      rw (e, follows-now next done opened plan l.follows) (by_plan plan l.opens) where
        by_plan : (q : Plan F) → AllOpen q → IsSome (plan_finish q []) ↔ ((plan_batch q 0 []).act ≡ End)
        by_plan (Ended f) o = (λ h. ap (λ (b : Batch). b.act) (now-ended f), λ h. refl)
        by_plan (Last b zero named) o = absurd (omega (arith, o.1))
        by_plan (Last b (suc n) named) o = (
          λ h. cc h,
          λ h. absurd (not_end b.act (opens-some b.act (omega (arith, o.0)))
              (ap (λ (b : Batch). b.act) (sym (now-last b (suc n) named)) ∙ h)),
        )
        by_plan (Quiet b rest) o =
            (λ h. let k = rw o.2 at h in cc k, λ h. absurd (not_end b.act o.0 (ap (λ (b : Batch). b.act) (sym (now-quiet b rest)) ∙ h)))
        by_plan (Block [] k) o = absurd o.0
        by_plan (Block (b ∷ []) k) o = (
          λ h. cc h,
          λ h. absurd (not_end b.act (opens-some b.act (omega (arith, o.0))) (ap (λ (b : Batch). b.act) (sym (now-block b [] k)) ∙ h)),
        )
        by_plan (Block (b ∷ c ∷ bs) k) o =
            (λ h. cc h, λ h. absurd (not_end b.act o.0.0 (ap (λ (b : Batch). b.act) (sym (now-block b (c ∷ bs) k)) ∙ h)))

  pub plan-tells : (bounds : Standing) (n : ℕ) (s : Standing) → PlanStands bounds n s whole → Follows next 0 [] whole →
      (opened : List ℕ) → TellsEnd next opened (plan_finish whole opened)
  plan-tells bounds n s stands follows opened done come =
      let start : Left 0 [] whole = record {
        follows = follows;
        opens = open-stands bounds n s whole stands;
        finish = λ more. refl;
      } in
      let here = left-at start done opened come in
      tells-left done opened here.0 here.1
