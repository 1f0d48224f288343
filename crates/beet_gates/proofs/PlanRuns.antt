-- The run of a plan on plain values, and what makes a plan's blocks lawful.
use Rattle.std.proofs.Common.{◌≡◌, ◌≤◌, ◌+◌, ◌-◌, ℕ, suc, false, List, [], ◌∷◌, drop, length, slice_index, None}
use Rattle.beet_gates.specs.declared.Batch.{Batch}
use Rattle.beet_gates.specs.Clear.{Values, batch_on, batches_on, is_end}
use Rattle.beet_gates.specs.Plans.{Plan, Ended, Block, Quiet, Last, plan_finish}
use Rattle.beet_gates.specs.Scripts.{Standing, BatchStands, IsWithin, after, revealed}

-- the number that a block opens, and all that the last batch opens
abbrev pub opened_by : Values → Values → ℕ
opened_by before after = slice_index after.opened (length before.opened)

abbrev pub all_opened_by : Values → Values → List ℕ
all_opened_by before after = drop (length before.opened) after.opened

-- the values at the end of a run on plain values
unfoldable pub plan_run : {F : Type 0} → (ℕ → List ℕ) → Plan F → Values → Values
plan_run deals (Ended f) v = v
plan_run deals (Block bs next) v =
    let after = batches_on deals bs v in plan_run deals (next (opened_by v after)) after
plan_run deals (Quiet b rest) v = plan_run deals rest (batch_on deals b v)
plan_run deals (Last b n named) v = batch_on deals b v

-- the number of batches of this run
unfoldable pub plan_rounds : {F : Type 0} → (ℕ → List ℕ) → Plan F → Values → ℕ
plan_rounds deals (Ended f) v = 0
plan_rounds deals (Block bs next) v =
    let after = batches_on deals bs v in length bs + plan_rounds deals (next (opened_by v after)) after
plan_rounds deals (Quiet b rest) v = suc (plan_rounds deals rest (batch_on deals b v))
plan_rounds deals (Last b n named) v = 1

-- the finish of this run
unfoldable pub plan_end : {F : Type 0} → (ℕ → List ℕ) → Plan F → Values → F
plan_end deals (Ended f) v = f
plan_end deals (Block bs next) v =
    let after = batches_on deals bs v in plan_end deals (next (opened_by v after)) after
plan_end deals (Quiet b rest) v = plan_end deals rest (batch_on deals b v)
plan_end deals (Last b n named) v = named (all_opened_by v (batch_on deals b v))

-- each batch of a block stands, and the last one, and no other, opens a number
unfoldable pub BlockStands : Standing → List Batch → Type 0
BlockStands s [] = ⊥
BlockStands s (b ∷ []) = BatchStands s b × (revealed b.act ≡ 1)
BlockStands s (b ∷ c ∷ bs) =
    BatchStands s b × (is_end b.act ≡ false) × (revealed b.act ≡ 0) × BlockStands (after s b) (c ∷ bs)

-- the standing after a list of batches
abbrev pub after_all : Standing → List Batch → Standing
after_all s [] = s
after_all s (b ∷ bs) = after_all (after s b) bs

-- each block stands and stays within the bounds, whatever numbers are opened, and there are at most n batches; after a
-- batch that opens nothing some number is still opened
unfoldable pub PlanStands : {F : Type 0} → Standing → ℕ → Standing → Plan F → Type 0
PlanStands bounds n s (Ended f) = IsWithin bounds s
PlanStands bounds n s (Block bs next) =
    BlockStands s bs × IsWithin bounds (after_all s bs) × (length bs ≤ n)
    × ((x : ℕ) → PlanStands bounds (n - length bs) (after_all s bs) (next x))
PlanStands bounds n s (Quiet b rest) =
    BatchStands s b × IsWithin bounds (after s b) × (is_end b.act ≡ false) × (revealed b.act ≡ 0) × (1 ≤ n)
    × (plan_finish rest [] ≡ None) × PlanStands bounds (n - 1) (after s b) rest
PlanStands bounds n s (Last b k named) =
    BatchStands s b × IsWithin bounds (after s b) × (revealed b.act ≡ k) × (1 ≤ k) × (1 ≤ n)
