-- What the walk through two worlds does in one batch.
use Rattle.std.specs.Prelude.{◌≡◌, ◌<◌, ◌≤◌, ◌+◌, ◌*◌, ◌^◌, ℕ, List, [], ◌++◌, map, length, slice_index, true, false}
use Rattle.beet_words.specs.Words.{accepted}
use Rattle.beet_gates.specs.Batches.{end_batch}
use Rattle.beet_gates.specs.Draws.{draws_in, secret_of}
use Rattle.beet_gates.specs.Each.{each}
use Rattle.beet_gates.specs.declared.Act.{Act}
use Rattle.beet_gates.specs.declared.Act.TheVariants.{Deal, Mul, Reveal, End}
use Rattle.beet_gates.specs.declared.Batch.{Batch}
use Rattle.beet_weights.specs.Quadratics.{of_five, point_of, reshared}
use Rattle.beet_weights.specs.declared.Quadratic.{Quadratic}
use Rattle.beet_linear_sharing.specs.Runs.{Setup, Shared, act_among, number_drawn, secret_hidden}
use Rattle.beet_linear_sharing.specs.Runs.{with_batch_lets}
use Rattle.beet_linear_sharing.specs.Schemes.{five_servers}
use Rattle.beet_linear_sharing.specs.Sharings.{IsAmong}
use Rattle.beet_coalition.specs.Coalitions.{Coalition, GateMapped, moved_of}
use Rattle.beet_coalition.specs.Lists.{at_server}
use Rattle.beet_coalition.specs.Premise.{Secrets, begin_in}
use Rattle.beet_coalition.specs.Watchers.{two_watch}
use Rattle.beet_coalition_map.specs.Begins.{AreTwoWorlds, Begins}

-- how far a run has come, with the points of the wires in a list for each server
pub record Stage : Type 0 where
  pub wires : List (List ℕ)
  pub opened : List ℕ
  pub hidden : ℕ
  pub dealt : ℕ

abbrev pub run_of : Stage → Shared
run_of s = record { wires = at_server s.wires; opened = s.opened; hidden = s.hidden; dealt = s.dealt }

-- the same with a list for each server
abbrev pub stage_of : Shared → Stage
stage_of s = record { wires = of_five s.wires; opened = s.opened; hidden = s.hidden; dealt = s.dealt }

-- a run on these points of the inputs that has done no batch
abbrev pub start_on : List (List ℕ) → Stage
start_on inputs = record { wires = of_five (at_server inputs); opened = []; hidden = 0; dealt = 0 }

-- a setup with these words and numbers: an act looks at no more of it
abbrev pub dealing : List (List ℕ) → List (List ℕ) → Setup
dealing masks numbers = record {
  next = λ done opened. end_batch;
  inputs = λ i. [];
  masks = at_server masks;
  numbers = at_server numbers;
}

-- with the lets of a batch
abbrev pub lets_added : Batch → Stage → Stage
lets_added b s = stage_of (with_batch_lets b (run_of s))

-- what an act does, whose lets are there
abbrev pub acted : List (List ℕ) → List (List ℕ) → Act → Stage → Stage
acted masks numbers a s = stage_of (act_among five_servers (dealing masks numbers) a (run_of s))

-- the polynomial by which a server hides its k-th secret
abbrev pub hidden_by : Setup → Shared → Act → ℕ → ℕ → Quadratic
hidden_by o s a j k = record {
  value = secret_hidden o s a j k;
  first = number_drawn five_servers o s j k 0;
  second = number_drawn five_servers o s j k 1;
}

-- the polynomial of the k-th product: those of the five servers, put together
abbrev pub product_by : Setup → Shared → Act → ℕ → Quadratic
product_by o s a k = record {
  value = reshared (λ j. (hidden_by o s a j k).value);
  first = reshared (λ j. (hidden_by o s a j k).first);
  second = reshared (λ j. (hidden_by o s a j k).second);
}

-- the polynomials of the wires that an act gives
abbrev pub polynomials : Setup → Shared → Act → List Quadratic
polynomials o s Deal =
    each (hidden_by o s Deal 1) 61
    ++ (each (hidden_by o s Deal 2) 61
    ++ (each (hidden_by o s Deal 3) 61 ++ (each (hidden_by o s Deal 4) 61 ++ each (hidden_by o s Deal 5) 61)))
polynomials o s (Mul pairs) = each (product_by o s (Mul pairs)) (length pairs.items)
polynomials o s (Reveal shown) = []
polynomials o s End = []

-- their points at a server
abbrev pub points_at : List Quadratic → ℕ → List ℕ
points_at ps i = map (λ q. point_of q.value q.first q.second i) ps

-- the k-th secret of a server
abbrev pub secret_in : List (List ℕ) → Stage → Act → ℕ → ℕ → ℕ
secret_in masks s a j k = secret_of a (at_server s.wires j) (slice_index (at_server masks j) s.dealt) k

-- each server has numbers for the secrets of an act, and the words that it has dealt can be counted
pub record HasEnough (a : Act) (numbers : List (List ℕ)) (s : Stage) : Type 0 where
  pub few : s.dealt < 2 ^ 32
  pub one : 2 * (s.hidden + draws_in a) ≤ length (at_server numbers 1)
  pub two : 2 * (s.hidden + draws_in a) ≤ length (at_server numbers 2)
  pub three : 2 * (s.hidden + draws_in a) ≤ length (at_server numbers 3)
  pub four : 2 * (s.hidden + draws_in a) ≤ length (at_server numbers 4)
  pub five : 2 * (s.hidden + draws_in a) ≤ length (at_server numbers 5)

-- the numbers of one server: those that hide so many secrets, from a place on, are moved by what these are in the two
-- worlds, and the others stay
pub record MovesList (c : Coalition) (count : ℕ) (first second : ℕ → ℕ) (hidden : ℕ) (old new : List ℕ) : Type 0 where
  pub rho : (k : ℕ) → k < count →
      slice_index new (2 * (hidden + k))
      ≡ moved_of c 0 (slice_index old (2 * (hidden + k))) (first k) (second k)
  pub sigma : (k : ℕ) → k < count →
      slice_index new (2 * (hidden + k) + 1)
      ≡ moved_of c 1 (slice_index old (2 * (hidden + k) + 1)) (first k) (second k)
  pub below : (n : ℕ) → n < 2 * hidden → slice_index new n ≡ slice_index old n
  pub beyond : (n : ℕ) → 2 * (hidden + count) ≤ n → slice_index new n ≡ slice_index old n
  pub same_length : length new ≡ length old

-- the same of server j in an act, from what two worlds' runs have come to; those of a server that watches stay
pub record MovesAt (c : Coalition) (a : Act) (masks : List (List ℕ)) (here : Stage) (masks' : List (List ℕ))
    (there : Stage) (j : ℕ) (old new : List ℕ) : Type 0 where
  pub own : c.watches j ≡ true → new ≡ old
  pub other : c.watches j ≡ false →
      MovesList c (draws_in a) (secret_in masks here a j) (secret_in masks' there a j) here.hidden old new

-- the same of each server
abbrev pub MovesBatch : Coalition → Act → List (List ℕ) → Stage → List (List ℕ) → Stage → List (List ℕ) →
    List (List ℕ) → Type 0
MovesBatch c a masks here masks' there old new =
    (j : ℕ) → IsAmong five_servers.servers j →
    MovesAt c a masks here masks' there j (at_server old j) (at_server new j)

-- in all worlds that begin with these and that servers a and b cannot tell apart the numbers are mapped for a and b
abbrev pub NumbersMapped : ℕ → ℕ → (ℕ → List ℕ → Batch) → Begins → Begins → List (List ℕ) → List (List ℕ) → Type 0
NumbersMapped a b next first second numbers numbers' =
    (rounds : ℕ) (w w' : Secrets) → AreTwoWorlds a b next rounds w w' first second →
    GateMapped five_servers (two_watch a b) rounds (begin_in next w (at_server numbers))
    (begin_in next w' (at_server numbers'))

-- the lists of two worlds are as long
abbrev pub SameLengths : List (List ℕ) → List (List ℕ) → Type 0
SameLengths numbers numbers' =
    (j : ℕ) → IsAmong five_servers.servers j → length (at_server numbers' j) ≡ length (at_server numbers j)

-- there are as many numbers as words that are not all ones
pub record FitBack (words numbers : List (List ℕ)) : Type 0 where
  pub one : length (at_server numbers 1) ≡ length (accepted (at_server words 1))
  pub two : length (at_server numbers 2) ≡ length (accepted (at_server words 2))
  pub three : length (at_server numbers 3) ≡ length (accepted (at_server words 3))
  pub four : length (at_server numbers 4) ≡ length (accepted (at_server words 4))
  pub five : length (at_server numbers 5) ≡ length (accepted (at_server words 5))
