-- What the walk through two worlds does in one batch.
use Rattle.std.specs.Prelude.{◌≡◌, ◌≢◌, ◌<◌, ◌≤◌, ◌+◌, ℕ, List, [], ◌++◌, length, slice_index}
use Rattle.beet_field.specs.Trio.{member, trio_of}
use Rattle.beet_field.specs.declared.point.Point.{Point}
use Rattle.beet_field.specs.declared.trio.Trio.{Trio}
use Rattle.beet_shamir.specs.Line.{reshared}
use Rattle.beet_shamir.specs.declared.Line.{Line}
use Rattle.beet_gates.specs.Batches.{end_batch}
use Rattle.beet_gates.specs.Clear.{product_of}
use Rattle.beet_gates.specs.Each.{each}
use Rattle.beet_gates.specs.Scripts.{deals_in}
use Rattle.beet_gates.specs.declared.Act.{Act}
use Rattle.beet_gates.specs.declared.Act.TheVariants.{Deal, Mul, Reveal, End}
use Rattle.beet_gates.specs.Draws.{draws_in, pair_at, secret_of}
use Rattle.beet_sharing.specs.Runs.{Setup, Shared}
use Rattle.beet_map.specs.Mapped.{moved_of}
use Rattle.beet_map.specs.Secrets.{Secrets}

-- a setup with these words and numbers: an act looks at no more of it
abbrev pub dealing : Trio (List ℕ) → Trio (List ℕ) → Setup
dealing masks numbers =
    record { next = λ done opened. end_batch; inputs = trio_of (λ i. []); masks = masks; numbers = numbers }

-- a run that has no wires yet
abbrev pub nothing_shared : Shared
nothing_shared = record { wires = trio_of (λ i. []); opened = []; drawn = 0; dealt = 0 }

-- the line with the k-th secret of a server as its value and the number that hides it as its slope
abbrev pub hidden_line : Act → List ℕ → ℕ → List ℕ → ℕ → ℕ → Line
hidden_line a points word numbers drawn k =
    record { value = secret_of a points word k; slope = slice_index numbers (drawn + k) }

-- the line of the k-th product
abbrev pub product_line : List (ℕ × ℕ) → Trio (List ℕ) → Trio (List ℕ) → ℕ → ℕ → Line
product_line pairs wires numbers drawn k = record {
  value = reshared (trio_of (λ j. product_of (member wires j) (pair_at pairs k)));
  slope = reshared (trio_of (λ j. slice_index (member numbers j) (drawn + k)));
}

-- the lines of the wires that an act gives
abbrev pub lines_gained : Act → Trio (List ℕ) → Trio (List ℕ) → Shared → List Line
lines_gained Deal masks numbers s =
    each (hidden_line Deal s.wires.one (slice_index masks.one s.dealt) numbers.one s.drawn) 61
    ++ (each (hidden_line Deal s.wires.two (slice_index masks.two s.dealt) numbers.two s.drawn) 61
    ++ each (hidden_line Deal s.wires.three (slice_index masks.three s.dealt) numbers.three s.drawn) 61)
lines_gained (Mul pairs) masks numbers s = each (product_line pairs.items s.wires numbers s.drawn) (length pairs.items)
lines_gained (Reveal shown) masks numbers s = []
lines_gained End masks numbers s = []

-- there are numbers and words for an act
pub record HasEnough (a : Act) (masks numbers : Trio (List ℕ)) (s : Shared) : Type 0 where
  pub words : s.dealt + deals_in a ≤ length masks.one
  pub one : s.drawn + draws_in a ≤ length numbers.one
  pub two : s.drawn + draws_in a ≤ length numbers.two
  pub three : s.drawn + draws_in a ≤ length numbers.three

-- the numbers of one server, of which those that are drawn for an act are moved
pub record MovesList (me : Point) (a : Act) (first : List ℕ) (word : ℕ) (second : List ℕ) (other drawn : ℕ)
    (old new : List ℕ) : Type 0 where
  pub moves : (k : ℕ) → k < draws_in a →
      slice_index new (drawn + k)
      ≡ moved_of me (slice_index old (drawn + k)) (secret_of a first word k) (secret_of a second other k)
  pub below : (n : ℕ) → n < drawn → slice_index new n ≡ slice_index old n
  pub beyond : (n : ℕ) → drawn + draws_in a ≤ n → slice_index new n ≡ slice_index old n
  pub same_length : length new ≡ length old

-- the same of server j, from what two worlds' runs have come to
abbrev pub MovesAt : Point → Act → Secrets → Shared → Secrets → Shared → Point → List ℕ → List ℕ → Type 0
MovesAt me a first here second there j old new =
    MovesList me a (member here.wires j) (slice_index (member first.masks j) here.dealt) (member there.wires j)
    (slice_index (member second.masks j) there.dealt) here.drawn old new

-- the same of all servers but me
pub record MovesBatch (me : Point) (a : Act) (first : Secrets) (here : Shared) (second : Secrets) (there : Shared)
    (old new : Trio (List ℕ)) : Type 0 where
  pub own : member new me ≡ member old me
  pub others : (j : Point) → j ≢ me → MovesAt me a first here second there j (member old j) (member new j)
