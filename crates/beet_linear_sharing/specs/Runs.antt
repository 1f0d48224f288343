-- The run of a script among servers: the points of each wire at each server and the opened numbers, batch by batch.
-- There are no messages in it.
use Rattle.std.specs.Prelude.{◌≡◌, ◌<◌, ℕ, zero, suc, ◌+◌, ◌*◌, List, [], ◌++◌, map, length, slice_index, true, false}
use Rattle.std.specs.Int.{bit_at}
use Rattle.beet_gates.specs.Clear.{with_lets, is_end, first_end}
use Rattle.beet_gates.specs.Each.{each}
use Rattle.beet_gates.specs.Scripts.{deals_in}
use Rattle.beet_gates.specs.declared.Act.{Act}
use Rattle.beet_gates.specs.declared.Act.TheVariants.{Deal, Mul, Reveal, End}
use Rattle.beet_gates.specs.declared.Batch.{Batch}
use Rattle.beet_gates.specs.Draws.{draws_in, secret_of}
use Rattle.beet_linear_sharing.specs.Sharings.{Sharing, joined}

-- what servers begin with: the batches of a script, the points of the inputs at each, the words that each deals, and
-- the numbers that each draws, in order
pub record Setup : Type 0 where
  pub next : ℕ → List ℕ → Batch
  pub inputs : ℕ → List ℕ
  pub masks : ℕ → List ℕ
  pub numbers : ℕ → List ℕ

-- how far a run has come: the points of each wire at each server, the opened numbers, how many secrets each server has
-- hidden, and how many words it has dealt
pub record Shared : Type 0 where
  pub wires : ℕ → List ℕ
  pub opened : List ℕ
  pub hidden : ℕ
  pub dealt : ℕ

-- the m-th of the numbers that hide the k-th secret of a server in the coming act
abbrev pub number_drawn : Sharing → Setup → Shared → ℕ → ℕ → ℕ → ℕ
number_drawn q o s j k m = slice_index (o.numbers j) (q.degree * (s.hidden + k) + m)

-- this secret, if the lets of the batch are among the wires
abbrev pub secret_hidden : Setup → Shared → Act → ℕ → ℕ → ℕ
secret_hidden o s a j k = secret_of a (s.wires j) (slice_index (o.masks j) s.dealt) k

-- its point at server i
abbrev pub hidden_at : Sharing → Setup → Shared → Act → ℕ → ℕ → ℕ → ℕ
hidden_at q o s a j i k = q.share (secret_hidden o s a j k) (number_drawn q o s j k) i

-- the point at i of the k-th product
abbrev pub product_at : Sharing → Setup → Shared → Act → ℕ → ℕ → ℕ
product_at q o s a i k = q.reshared (λ j. hidden_at q o s a j i k)

-- the points at i of the wires that an act gives
abbrev pub gained : Sharing → Setup → Shared → Act → ℕ → List ℕ
gained q o s Deal i = joined (λ j. each (hidden_at q o s Deal j i) 61) q.servers
gained q o s (Mul pairs) i = each (product_at q o s (Mul pairs) i) (length pairs.items)
gained q o s (Reveal shown) i = []
gained q o s End i = []

-- the numbers that an act opens
abbrev pub opened_by : Sharing → Shared → Act → List ℕ
opened_by q s Deal = []
opened_by q s (Mul pairs) = []
opened_by q s (Reveal shown) = map (λ w. q.opened (λ i. slice_index (s.wires i) w)) shown.items
opened_by q s End = []

-- what an act does
abbrev pub act_among : Sharing → Setup → Act → Shared → Shared
act_among q o a s = record {
  wires = λ i. s.wires i ++ gained q o s a i;
  opened = s.opened ++ opened_by q s a;
  hidden = s.hidden + draws_in a;
  dealt = s.dealt + deals_in a;
}

-- with the lets of a batch, each the same combination of points at each server
abbrev pub with_batch_lets : Batch → Shared → Shared
with_batch_lets b s = record s { wires = λ i. with_lets (s.wires i) b.lets.items }

-- what a batch does: its lets, and then its act
abbrev pub batch_among : Sharing → Setup → Batch → Shared → Shared
batch_among q o b s = act_among q o b.act (with_batch_lets b s)

-- the run after t batches; it is meant for batches before the end
abbrev pub shared_at : Sharing → Setup → ℕ → Shared
shared_at q o zero = record { wires = o.inputs; opened = []; hidden = 0; dealt = 0 }
shared_at q o (suc t) = let s = shared_at q o t in batch_among q o (o.next t s.opened) s

-- the batch that comes after t batches
abbrev pub coming : Sharing → Setup → ℕ → Batch
coming q o t = o.next t (shared_at q o t).opened

-- the run in that batch, once its lets are there
abbrev pub standing_at : Sharing → Setup → ℕ → Shared
standing_at q o t = with_batch_lets (coming q o t) (shared_at q o t)

-- the numbers that one server sends another for an act
abbrev pub sent_for : Sharing → Setup → Shared → Act → ℕ → ℕ → List ℕ
sent_for q o s Deal from to = each (hidden_at q o s Deal from to) 61
sent_for q o s (Mul pairs) from to = each (hidden_at q o s (Mul pairs) from to) (length pairs.items)
sent_for q o s (Reveal shown) from to = map (slice_index (s.wires from)) shown.items
sent_for q o s End from to = []

-- the message from one server to another in round t
abbrev pub message : Sharing → Setup → ℕ → ℕ → ℕ → List ℕ
message q o from to t = sent_for q o (standing_at q o t) (coming q o t).act from to

-- the run has r rounds: its end comes after r batches, and not before
pub record HasRounds (q : Sharing) (o : Setup) (r : ℕ) : Type 0 where
  pub ends : is_end (coming q o r).act ≡ true
  pub goes : (t : ℕ) → t < r → is_end (coming q o t).act ≡ false

-- the rounds of a run of at most so many: the batches before the first end
unfoldable pub rounds_among : Sharing → Setup → ℕ → ℕ
rounds_among q o most = first_end (λ t. (coming q o t).act) most

-- the numbers that the n-th deal appends in the run on plain values: the bits of the n-th word of each server, in order
abbrev pub deals_among : Sharing → (ℕ → List ℕ) → ℕ → List ℕ
deals_among q masks n = joined (λ j. each (bit_at (slice_index (masks j) n)) 61) q.servers
