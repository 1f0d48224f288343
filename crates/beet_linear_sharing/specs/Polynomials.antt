-- Wires whose points at the servers are those of shared values.
use Rattle.std.specs.Prelude.{◌≡◌, ◌↔◌, ℕ, List, length, slice_index}
use Rattle.beet_field.specs.Field.{IsElement}
use Rattle.beet_gates.specs.Clear.{clear_at, EndsAfter}
use Rattle.beet_linear_sharing.specs.Sharings.{Sharing, IsAmong}
use Rattle.beet_linear_sharing.specs.Runs.{Setup, HasRounds, deals_among, shared_at}

-- some numbers hide a value so that these are its points at the servers
pub record IsShared (q : Sharing) (value : ℕ) (held : ℕ → ℕ) : Type 0 where
  pub numbers : ℕ → ℕ
  pub points : (i : ℕ) → IsAmong q.servers i → held i ≡ q.share value numbers i

-- the points of each wire are those of its value
pub record AreShared (q : Sharing) (values : List ℕ) (wires : ℕ → List ℕ) : Type 0 where
  pub lengths : (i : ℕ) → IsAmong q.servers i → length (wires i) ≡ length values
  pub shared : (w : ℕ) → IsShared q (slice_index values w) (λ i. slice_index (wires i) w)
  pub elements : (w : ℕ) → IsElement (slice_index values w)

-- the shared run and the run on the values of the inputs are at one after t batches
pub record IsAtOne (q : Sharing) (o : Setup) (values : List ℕ) (t : ℕ) : Type 0 where
  pub shared : AreShared q (clear_at o.next (deals_among q o.masks) values t).wires (shared_at q o t).wires
  pub opened : (shared_at q o t).opened ≡ (clear_at o.next (deals_among q o.masks) values t).opened
  pub dealt : (shared_at q o t).dealt ≡ (clear_at o.next (deals_among q o.masks) values t).dealt

-- both have the same rounds
abbrev pub HaveSameRounds : Sharing → Setup → List ℕ → Type 0
HaveSameRounds q o values = (r : ℕ) → HasRounds q o r ↔ EndsAfter o.next (deals_among q o.masks) values r
