-- A script as blocks one after another: each block is a list of batches whose last opens one number, and that number
-- says how it goes on. Batches that open nothing may come before a block. At the end a batch may open several numbers,
-- which name the finish.
use Rattle.std.specs.Prelude.{◌-◌, ℕ, zero, suc, List, [], ◌∷◌, length, Option, Some, None, slice_get, unwrap_or}
use Rattle.std.specs.Prelude.{nat_lt, if◌then◌else◌}
use Rattle.beet_gates.specs.declared.Batch.{Batch}
use Rattle.beet_gates.specs.Batches.{end_batch}

-- how a script goes on: it ends with a finish, or a block opens the number that picks the rest, or a batch opens
-- nothing and the rest follows, or one last batch opens so many numbers, which name the finish
pub data Plan (F : Type 0) : Type 0 where
  Ended : F → Plan F
  Block : List Batch → (ℕ → Plan F) → Plan F
  Quiet : Batch → Plan F → Plan F
  Last : Batch → ℕ → (List ℕ → F) → Plan F

-- the batch of a list at a place, and the end past it
abbrev pub batch_at : List Batch → ℕ → Batch
batch_at bs k = unwrap_or (slice_get bs k) end_batch

-- the batch after so many, with these numbers opened
unfoldable pub plan_batch : {F : Type 0} → Plan F → ℕ → List ℕ → Batch
plan_batch (Ended f) done opened = end_batch
plan_batch (Block bs next) done [] = batch_at bs done
plan_batch (Block bs next) done (x ∷ xs) =
    if nat_lt done (length bs) then batch_at bs done else plan_batch (next x) (done - length bs) xs
plan_batch (Quiet b rest) zero opened = b
plan_batch (Quiet b rest) (suc done) opened = plan_batch rest done opened
plan_batch (Last b n named) done opened = batch_at (b ∷ []) done

-- the finish after these numbers
unfoldable pub plan_finish : {F : Type 0} → Plan F → List ℕ → Option F
plan_finish (Ended f) opened = Some f
plan_finish (Block bs next) [] = None
plan_finish (Block bs next) (x ∷ xs) = plan_finish (next x) xs
plan_finish (Quiet b rest) opened = plan_finish rest opened
plan_finish (Last b zero named) opened = Some (named [])
plan_finish (Last b (suc n) named) [] = None
plan_finish (Last b (suc n) named) (x ∷ xs) = plan_finish (Last end_batch n (λ more. named (x ∷ more))) xs

-- how many batches come before the next opened number is there
abbrev pub plan_length : {F : Type 0} → Plan F → ℕ
plan_length (Ended f) = 0
plan_length (Block bs next) = length bs
plan_length (Quiet b rest) = suc (plan_length rest)
plan_length (Last b n named) = 1

-- the plan after the number that the next block opens; if the last batch opens more, its others are still to be
-- read, and the end stands in its place
abbrev pub plan_after : {F : Type 0} → Plan F → ℕ → Plan F
plan_after (Ended f) x = Ended f
plan_after (Block bs next) x = next x
plan_after (Quiet b rest) x = plan_after rest x
plan_after (Last b zero named) x = Ended (named [])
plan_after (Last b (suc zero) named) x = Ended (named (x ∷ []))
plan_after (Last b (suc (suc n)) named) x = Last end_batch (suc n) (λ more. named (x ∷ more))
