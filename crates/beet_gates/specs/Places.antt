-- A place that a run keeps in a plan.
use Rattle.std.specs.Prelude.{◌≡◌, ◌≤◌, ◌-◌, ℕ, List, ◌++◌, drop}
use Rattle.beet_gates.specs.Plans.{Plan, plan_batch}

-- a run of a whole plan that has done so many batches, and has opened these numbers, may go on with a plan, before
-- which so many batches come and so many numbers were read: whatever is opened later, the batches that come are those
-- of that plan
pub record GoesOnFrom {F : Type 0} (whole : Plan F) (done : ℕ) (opened : List ℕ) (plan : Plan F)
    (before read : ℕ) : Type 0 where
  pub passed : before ≤ done
  pub rest : (later : ℕ) (more : List ℕ) → before ≤ later →
      plan_batch whole later (opened ++ more) ≡ plan_batch plan (later - before) (drop read (opened ++ more))
