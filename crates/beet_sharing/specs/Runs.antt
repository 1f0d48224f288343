-- The run of a script among three servers: the three points of each wire and the opened numbers, batch by batch. There
-- are no messages in it.
use Rattle.std.specs.Prelude.{◌≡◌, ◌<◌, ℕ, zero, suc, ◌+◌, List, [], ◌++◌, map, length, slice_index, true, false}
use Rattle.beet_field.specs.Trio.{member, of_each, trio_of}
use Rattle.beet_field.specs.declared.point.Point.{Point}
use Rattle.beet_field.specs.declared.point.Point.TheVariants.{One, Two, Three}
use Rattle.beet_field.specs.declared.trio.Trio.{Trio}
use Rattle.beet_shamir.specs.Line.{point_of, recombined, reshared}
use Rattle.beet_words.specs.Words.{accepted}
use Rattle.beet_gates.specs.Clear.{with_lets, is_end, first_end}
use Rattle.beet_gates.specs.Draws.{draws_in, secret_of}
use Rattle.beet_gates.specs.Each.{each}
use Rattle.beet_gates.specs.Scripts.{deals_in}
use Rattle.beet_gates.specs.declared.Act.{Act}
use Rattle.beet_gates.specs.declared.Act.TheVariants.{Deal, Mul, Reveal, End}
use Rattle.beet_gates.specs.declared.Batch.{Batch}

-- what three servers begin with: the batches of a script, the points of the inputs, the words that each server deals,
-- and the numbers that each draws, in order
pub record Setup : Type 0 where
  pub next : ℕ → List ℕ → Batch
  pub inputs : Trio (List ℕ)
  pub masks : Trio (List ℕ)
  pub numbers : Trio (List ℕ)

-- the numbers that servers with these coefficient words draw: the accepted words, in order
abbrev pub numbers_of : Trio (List ℕ) → Trio (List ℕ)
numbers_of coefficients = of_each accepted coefficients

-- how far a run has come: the three points of each wire, the opened numbers, and how many numbers each server has drawn
-- and how many words it has dealt
pub record Shared : Type 0 where
  pub wires : Trio (List ℕ)
  pub opened : List ℕ
  pub drawn : ℕ
  pub dealt : ℕ

-- the k-th number that a server draws for the coming act
abbrev pub number_drawn : Setup → Shared → Point → ℕ → ℕ
number_drawn o s j k = slice_index (member o.numbers j) (s.drawn + k)

-- the k-th secret that it hides, if the lets of the batch are among the wires
abbrev pub secret_hidden : Setup → Shared → Act → Point → ℕ → ℕ
secret_hidden o s a j k = secret_of a (member s.wires j) (slice_index (member o.masks j) s.dealt) k

-- the k-th secret of server j as the value of a line, and the number that hides it as its slope: the point of this line
-- at i
abbrev pub hidden_at : Setup → Shared → Act → Point → Point → ℕ → ℕ
hidden_at o s a j i k = point_of (secret_hidden o s a j k) (number_drawn o s j k) i

-- the point at i of the k-th product: the three local products and the three numbers drawn, put together
abbrev pub product_at : Setup → Shared → Act → Point → ℕ → ℕ
product_at o s a i k =
    point_of (reshared (trio_of (λ j. secret_hidden o s a j k))) (reshared (trio_of (λ j. number_drawn o s j k))) i

-- the points at i of the wires that an act gives
abbrev pub gained : Setup → Shared → Act → Point → List ℕ
gained o s Deal i =
    each (hidden_at o s Deal One i) 61 ++ (each (hidden_at o s Deal Two i) 61 ++ each (hidden_at o s Deal Three i) 61)
gained o s (Mul pairs) i = each (product_at o s (Mul pairs) i) (length pairs.items)
gained o s (Reveal shown) i = []
gained o s End i = []

-- the value of the line through the points of a wire at 1 and 2
abbrev pub opened_at : Trio (List ℕ) → ℕ → ℕ
opened_at wires w = recombined (of_each (λ points. slice_index points w) wires)

-- the numbers that an act opens
abbrev pub opened_by : Shared → Act → List ℕ
opened_by s Deal = []
opened_by s (Mul pairs) = []
opened_by s (Reveal shown) = map (opened_at s.wires) shown.items
opened_by s End = []

-- what an act does
abbrev pub act_among : Setup → Act → Shared → Shared
act_among o a s = record {
  wires = trio_of (λ i. member s.wires i ++ gained o s a i);
  opened = s.opened ++ opened_by s a;
  drawn = s.drawn + draws_in a;
  dealt = s.dealt + deals_in a;
}

-- with the lets of a batch, each the same combination of points at each server
abbrev pub with_batch_lets : Batch → Shared → Shared
with_batch_lets b s = record s { wires = of_each (λ points. with_lets points b.lets.items) s.wires }

-- what a batch does: its lets, and then its act
abbrev pub batch_among : Setup → Batch → Shared → Shared
batch_among o b s = act_among o b.act (with_batch_lets b s)

-- the start of a run
abbrev pub shared_start : Setup → Shared
shared_start o = record { wires = o.inputs; opened = []; drawn = 0; dealt = 0 }

-- the run after t batches; it is meant for batches before the end
abbrev pub shared_at : Setup → ℕ → Shared
shared_at o zero = shared_start o
shared_at o (suc t) = let s = shared_at o t in batch_among o (o.next t s.opened) s

-- the batch that comes after t batches
abbrev pub coming : Setup → ℕ → Batch
coming o t = o.next t (shared_at o t).opened

-- the run in that batch, once its lets are there
abbrev pub standing_at : Setup → ℕ → Shared
standing_at o t = with_batch_lets (coming o t) (shared_at o t)

-- the numbers that one server sends another for an act: of a deal and of products the hidden secrets, of an opening its
-- own points
abbrev pub sent_for : Setup → Shared → Act → Point → Point → List ℕ
sent_for o s Deal from to = each (hidden_at o s Deal from to) 61
sent_for o s (Mul pairs) from to = each (hidden_at o s (Mul pairs) from to) (length pairs.items)
sent_for o s (Reveal shown) from to = map (slice_index (member s.wires from)) shown.items
sent_for o s End from to = []

-- the message from one server to another in round t
abbrev pub message : Setup → Point → Point → ℕ → List ℕ
message o from to t = sent_for o (standing_at o t) (coming o t).act from to

-- the run has r rounds: its end comes after r batches, and not before
pub record HasRounds (o : Setup) (r : ℕ) : Type 0 where
  pub ends : is_end (coming o r).act ≡ true
  pub goes : (t : ℕ) → t < r → is_end (coming o t).act ≡ false

-- the rounds of a run of at most so many: the batches before the first end
unfoldable pub rounds_among : Setup → ℕ → ℕ
rounds_among o most = first_end (λ t. (coming o t).act) most
