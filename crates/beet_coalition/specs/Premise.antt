-- Two worlds that servers cannot tell apart by their inputs, their words and what is opened, if they put together what
-- they see.
use Rattle.std.specs.Prelude.{◌≡◌, ◌<◌, ◌≤◌, ℕ, List, slice_index, true}
use Rattle.beet_gates.specs.Clear.{Values, clear_at}
use Rattle.beet_gates.specs.Scripts.{deals_in}
use Rattle.beet_gates.specs.declared.Batch.{Batch}
use Rattle.beet_linear_sharing.specs.Sharings.{Sharing, IsAmong}
use Rattle.beet_linear_sharing.specs.Runs.{Setup, deals_among}
use Rattle.beet_linear_sharing.specs.Polynomials.{AreShared}
use Rattle.beet_coalition.specs.Coalitions.{Coalition}

-- the secrets of a world: the values of the inputs, their points at each server, and the words that each server deals
pub record Secrets : Type 0 where
  pub values : List ℕ
  pub inputs : ℕ → List ℕ
  pub masks : ℕ → List ℕ

-- servers that begin with these secrets, and with these numbers to draw
abbrev pub begin_in : (ℕ → List ℕ → Batch) → Secrets → (ℕ → List ℕ) → Setup
begin_in next w numbers = record { next = next; inputs = w.inputs; masks = w.masks; numbers = numbers }

-- the run on the values of a world
abbrev pub clear_of : Sharing → (ℕ → List ℕ → Batch) → Secrets → ℕ → Values
clear_of q next w t = clear_at next (deals_among q w.masks) w.values t

-- servers that watch cannot tell two worlds apart by these; it speaks of runs on plain values alone, so that it holds
-- before any number is drawn
pub record MayMap (q : Sharing) (c : Coalition) (next : ℕ → List ℕ → Batch) (rounds : ℕ) (w w' : Secrets) : Type 0 where
  pub shared : AreShared q w.values w.inputs
  pub shared' : AreShared q w'.values w'.inputs
  pub inputs : (i : ℕ) → IsAmong q.servers i → c.watches i ≡ true → w'.inputs i ≡ w.inputs i
  pub opens : (t : ℕ) → t ≤ rounds → (clear_of q next w' t).opened ≡ (clear_of q next w t).opened
  pub words : (t i : ℕ) → t < rounds → IsAmong q.servers i → c.watches i ≡ true →
      0 < deals_in (next t (clear_of q next w t).opened).act →
      slice_index (w'.masks i) (clear_of q next w t).dealt ≡ slice_index (w.masks i) (clear_of q next w t).dealt
