-- How a run that keeps a place in a plan goes on.
use Rattle.std.proofs.Common.{◌≡◌, ℕ, ◌+◌, ◌-◌, ◌<◌, ◌≤◌, true, false, List, [], ◌++◌, length, drop, slice_index}
use Rattle.std.proofs.Common.{get_or, refl, ap, sym, ◌∙◌, arith, length-append, append-nil, append_assoc, le_trans}
use Rattle.std.specs.Prelude.{nat_lt, if◌then◌else◌}
use Rattle.std.proofs.Math.Nat.{sub-zero}
use Rattle.std.proofs.lemmas.Bool.Decides.{nat_tests}
use Rattle.std.proofs.lemmas.List.{drop_all, drop_more, get_or_default}
use Rattle.beet_gates.specs.Places.{GoesOnFrom}
use Rattle.beet_gates.specs.Plans.{Plan, plan_batch, plan_length, plan_after, plan_finish}
use Rattle.beet_gates.proofs.PlanFacts.{plan-step, plan-finish-step}
use Rattle.beet_gates.proofs.Segments.{index-append}

-- the number x that a loop reads is the one at i
read-at : (i : ℕ) (opened : List ℕ) → i < length opened → (x : ℕ) → x ≡ get_or opened i x → slice_index opened i ≡ x
read-at i opened h x is = sym (is ∙ get_or_default opened i x 0 h)

module _ {F : Type 0} (whole : Plan F) where
  -- at the first batch
  pub begun : GoesOnFrom whole 0 [] whole 0 0
  begun = record { passed = omega arith; rest = λ later more below. rw (sub-zero later) refl }

  -- it may go on so later as well
  pub goes-later : (done later : ℕ) (opened more : List ℕ) (plan : Plan F) (before read : ℕ) →
      GoesOnFrom whole done opened plan before read → done ≤ later →
      GoesOnFrom whole later (opened ++ more) plan before read
  goes-later done later opened more plan before read here h = record {
    passed = le_trans here.passed h;
    rest = λ n new below. rw (append_assoc opened more new) (here.rest n (more ++ new) below);
  }

  module _ (done : ℕ) (opened : List ℕ) (plan : Plan F) (before read : ℕ) (here : GoesOnFrom whole done opened plan before read) where
    batch-left : plan_batch whole done opened ≡ plan_batch plan (done - before) (drop read opened)
    batch-left = rw (append-nil opened) at (here.rest done [] here.passed)

    stepped : (later : ℕ) (all : List ℕ) → read < length all → plan_batch plan later (drop read all)
        ≡ (if nat_lt later (plan_length plan) then plan_batch plan later []
        else plan_batch (plan_after plan (slice_index all read)) (later - plan_length plan) (drop (read + 1) all))
    stepped later all h = ap (plan_batch plan later) (drop_more all read 0 h)
        ∙ plan-step plan later (slice_index all read) (drop (read + 1) all)

    -- the batch is in the next block
    pub batch-here : read < length opened → done - before < plan_length plan →
        plan_batch whole done opened ≡ plan_batch plan (done - before) []
    batch-here h l =
        let t : nat_lt (done - before) (plan_length plan) ≡ true = grind (arith, nat_tests) in
        batch-left ∙ stepped (done - before) opened h ∙ rw t refl

    -- no number is left that leads on
    pub batch-last : length opened ≤ read → plan_batch whole done opened ≡ plan_batch plan (done - before) []
    batch-last h = batch-left ∙ ap (plan_batch plan (done - before)) (drop_all read opened h)

    -- a number leads on
    pub leads-on : (x : ℕ) → read < length opened → x ≡ get_or opened read x → plan_length plan ≤ done - before →
        GoesOnFrom whole done opened (plan_after plan x) (before + plan_length plan) (read + 1)
    leads-on x h is past = record {
      passed = omega (arith, past, here.passed);
      rest = λ later more below.
          let n = plan_length plan in
          let all = opened ++ more in
          let there : read < length all = omega (arith, h, length-append opened more) in
          let since : n ≤ later - before = omega (arith, below) in
          let t : nat_lt (later - before) n ≡ false = grind (arith, nat_tests) in
          let item : slice_index all read ≡ x = index-append opened more read h ∙ read-at read opened h x is in
          let step : later - before - n ≡ later - (before + n) = omega arith in
          here.rest later more (omega (arith, below)) ∙ stepped (later - before) all there ∙ rw t refl
          ∙ (λ i. plan_batch (plan_after plan (item i)) (step i) (drop (read + 1) all));
    }

-- a number leads on to the finish
pub finish-on : {F : Type 0} (plan : Plan F) (i : ℕ) (opened : List ℕ) → i < length opened → (x : ℕ) → x ≡ get_or opened i x →
    plan_finish plan (drop i opened) ≡ plan_finish (plan_after plan x) (drop (i + 1) opened)
finish-on plan i opened h x is =
    ap (plan_finish plan) (drop_more opened i 0 h) ∙ plan-finish-step plan (slice_index opened i) (drop (i + 1) opened)
    ∙ ap (λ (y : ℕ). plan_finish (plan_after plan y) (drop (i + 1) opened)) (read-at i opened h x is)
