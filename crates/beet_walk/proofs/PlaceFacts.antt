-- How a run that keeps a place on a walk goes on.
use Rattle.std.proofs.Common.{◌≡◌, ℕ, ◌+◌, ◌-◌, ◌<◌, ◌≤◌, List, [], ◌++◌, length, drop, get_or, sym, ap, subst, ◌∙◌, arith, Option}
use Rattle.beet_gates.specs.Places.{GoesOnFrom}
use Rattle.beet_gates.specs.Plans.{Plan, plan_batch, plan_length, plan_after, plan_finish}
use Rattle.beet_gates.proofs.PlanPlaces.{begun, goes-later, batch-here, batch-last, leads-on, finish-on}
use Rattle.beet_walk.specs.Places.{IsAt}
use Rattle.beet_walk.specs.declared.Place.{Place}

module _ {W F : Type 0} (bounded : W → Type 0) (left_of : W → Plan F) where
  -- before the first batch
  pub is-begun : (walk : W) → bounded walk → IsAt bounded left_of (left_of walk) 0 [] (record { walk = walk; before = 0; read = 0 })
  is-begun walk fits = record { fits = fits; there = begun (left_of walk) }

  -- it may go on so later as well
  pub goes-on : (whole : Plan F) (done later : ℕ) (opened more : List ℕ) (place : Place W) →
      IsAt bounded left_of whole done opened place → done ≤ later → IsAt bounded left_of whole later (opened ++ more) place
  goes-on whole done later opened more place here h = record {
    fits = here.fits;
    there = goes-later whole done later opened more (left_of place.walk) place.before place.read here.there h;
  }

  -- the first place serves for every batch
  pub serves : (whole : Plan F) (done : ℕ) (opened : List ℕ) (place : Place W) → IsAt bounded left_of whole 0 [] place →
      IsAt bounded left_of whole done opened place
  serves whole done opened place here = goes-on whole 0 done [] opened place here (omega arith)

  module _ (whole : Plan F) (done : ℕ) (opened : List ℕ) (place : Place W) (here : IsAt bounded left_of whole done opened place) where
    -- the batch comes before the next number
    pub batch-before : place.read < length opened → done - place.before < plan_length (left_of place.walk) →
        plan_batch (left_of place.walk) (done - place.before) [] ≡ plan_batch whole done opened
    batch-before h short = sym (batch-here whole done opened (left_of place.walk) place.before place.read here.there h short)

    -- no number is left that leads on
    pub batch-behind : length opened ≤ place.read →
        plan_batch (left_of place.walk) (done - place.before) [] ≡ plan_batch whole done opened
    batch-behind h = sym (batch-last whole done opened (left_of place.walk) place.before place.read here.there h)

    -- a number leads on to the place after it
    pub walks-on : (x : ℕ) → place.read < length opened → x ≡ get_or opened place.read x →
        plan_length (left_of place.walk) ≤ done - place.before →
        (walk : W) → bounded walk → left_of walk ≡ plan_after (left_of place.walk) x →
        IsAt bounded left_of whole done opened
        (record { walk = walk; before = place.before + plan_length (left_of place.walk); read = place.read + 1 })
    walks-on x h is past walk fits plan = record {
      fits = fits;
      there = subst (λ (p : Plan F). GoesOnFrom whole done opened p (place.before + plan_length (left_of place.walk)) (place.read + 1))
          (sym plan) (leads-on whole done opened (left_of place.walk) place.before place.read here.there x h is past);
    }

-- a number leads on to the finish
pub finishes-on : {F : Type 0} (plan next : Plan F) (i : ℕ) (opened : List ℕ) → i < length opened → (x : ℕ) →
    x ≡ get_or opened i x → next ≡ plan_after plan x → plan_finish next (drop (i + 1) opened) ≡ plan_finish plan (drop i opened)
finishes-on {F} plan next i opened h x is leads =
    ap (λ (p : Plan F). plan_finish p (drop (i + 1) opened)) leads ∙ sym (finish-on plan i opened h x is)

-- how a walk ends that began as a whole plan
pub ends-so : {F : Type 0} {whole start : Plan F} {o : Option F} (last : Plan F) (opened : List ℕ) → start ≡ whole →
    plan_finish last [] ≡ plan_finish start opened → o ≡ plan_finish last [] → o ≡ plan_finish whole opened
ends-so {F} last opened plan finish is = is ∙ finish ∙ ap (λ (p : Plan F). plan_finish p opened) plan
