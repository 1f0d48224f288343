-- One server's step, on the numbers of a run: what it sends and gains is what the run says of its point.
use Rattle.std.proofs.Common.{◌≡◌, ℕ, ◌+◌, ◌*◌, ◌%◌, ◌++◌, List, [], ◌∷◌, take, drop, map, length, slice_index, refl, ◌∙◌, arith}
use Rattle.std.specs.Int.{bit_at}
use Rattle.std.proofs.lemmas.List.{length-map}
use Rattle.beet_field.specs.Field.{p}
use Rattle.beet_gates.specs.Clear.{product_of}
use Rattle.beet_gates.specs.Each.{each}
use Rattle.beet_gates.specs.Scripts.{size_of}
use Rattle.beet_gates.specs.declared.Act.{Act}
use Rattle.beet_gates.specs.declared.Act.TheVariants.{Deal, Mul, Reveal, End}
use Rattle.beet_gates.proofs.EachFacts.{length-each, item-each, each-same}
use Rattle.beet_gates.specs.Draws.{draws_in as hides_in, pair_at}
use Rattle.beet_gates.proofs.Lists.{item-taken, item-map, each-map}
use Rattle.beet_weights.specs.Quadratics.{IsServer, point_of, recombined, reshared}
use Rattle.beet_weights.specs.Weights.{five_weights, three_weights, weighted}
use Rattle.beet_linear_sharing.specs.Runs.{Setup, Shared}
use Rattle.beet_five_server.specs.Runs.{drawn as drawn_in, draws_in}
use Rattle.beet_five_server.specs.Parts.{numbers_for, points_given, numbers_opened}
use Rattle.beet_five_server.proofs.RunNames.{gained, hidden_at, opened_by, product_at, sent_for}

-- a message has the size of its batch
pub length-sent_for : (o : Setup) (s : Shared) (a : Act) (from to : ℕ) → length (sent_for o s a from to) ≡ size_of a
length-sent_for o s Deal from to = length-each (hidden_at o s Deal from to) 61
length-sent_for o s (Mul pairs) from to = length-each (hidden_at o s (Mul pairs) from to) (length pairs.items)
length-sent_for o s (Reveal shown) from to = length-map shown.items (slice_index (s.wires from))
length-sent_for o s End from to = refl

-- the places of the two numbers of a secret
first-place : (s : Shared) (k : ℕ) → drawn_in s + 2 * k ≡ 2 * (s.hidden + k) + 0
first-place s k = omega arith

second-place : (s : Shared) (k : ℕ) → drawn_in s + (2 * k + 1) ≡ 2 * (s.hidden + k) + 1
second-place s k = omega arith

pub drawn-more : (s : Shared) (a : Act) → 2 * (s.hidden + hides_in a) ≡ drawn_in s + draws_in a
drawn-more s a = omega arith

-- what a server sends
pub sends-run : (o : Setup) (s : Shared) (a : Act) (me to : ℕ) →
    numbers_for a (s.wires me) (slice_index (o.masks me) s.dealt)
    (take (draws_in a) (drop (drawn_in s) (o.numbers me))) to ≡ sent_for o s a me to
sends-run o s Deal me to =
    let word = slice_index (o.masks me) s.dealt in
    let drawn = take 122 (drop (drawn_in s) (o.numbers me)) in
    rw (length-each (bit_at word) 61) (each-same
    (λ k. point_of (slice_index (each (bit_at word) 61) k) (slice_index drawn (2 * k)) (slice_index drawn (2 * k + 1)) to)
    (hidden_at o s Deal me to) 61
    (λ k h. rw (
      item-each (bit_at word) 61 k h,
      item-taken (drawn_in s) 122 (2 * k) (o.numbers me) (omega arith),
      item-taken (drawn_in s) 122 (2 * k + 1) (o.numbers me) (omega arith),
    ) (λ i. point_of (bit_at word k) (slice_index (o.numbers me) (first-place s k i))
    (slice_index (o.numbers me) (second-place s k i)) to)))
sends-run o s (Mul pairs) me to =
    let points = s.wires me in
    let n = length pairs.items in
    let drawn = take (2 * n) (drop (drawn_in s) (o.numbers me)) in
    rw (length-map pairs.items (product_of points)) (each-same
    (λ k. point_of (slice_index (map (product_of points) pairs.items) k) (slice_index drawn (2 * k)) (slice_index drawn (2 * k + 1)) to)
    (hidden_at o s (Mul pairs) me to) n
    (λ k h. rw (
      item-map (product_of points) pairs.items (0, 0) k h,
      item-taken (drawn_in s) (2 * n) (2 * k) (o.numbers me) (omega (arith, h)),
      item-taken (drawn_in s) (2 * n) (2 * k + 1) (o.numbers me) (omega (arith, h)),
    ) (λ i. point_of (product_of points (pair_at pairs.items k)) (slice_index (o.numbers me) (first-place s k i))
    (slice_index (o.numbers me) (second-place s k i)) to)))
sends-run o s (Reveal shown) me to = refl
sends-run o s End me to = refl

-- the same numbers from each server give the same points, and open the same numbers
pub given-by : (a : Act) (f g : ℕ → List ℕ) → ((j : ℕ) → IsServer j → f j ≡ g j) → points_given a f ≡ points_given a g
given-by Deal f g h =
    λ i. h 1 (omega arith, omega arith) i ++
    (h 2 (omega arith, omega arith) i ++
    (h 3 (omega arith, omega arith) i ++ (h 4 (omega arith, omega arith) i ++ h 5 (omega arith, omega arith) i)))
given-by (Mul pairs) f g h =
    λ i. each (λ k. weighted five_weights (
    slice_index (h 1 (omega arith, omega arith) i) k ∷ slice_index (h 2 (omega arith, omega arith) i) k ∷ slice_index
    (h 3 (omega arith, omega arith) i) k
    ∷ slice_index (h 4 (omega arith, omega arith) i) k ∷ slice_index (h 5 (omega arith, omega arith) i) k ∷ []
    ) % p) (length pairs.items)
given-by (Reveal shown) f g h = refl
given-by End f g h = refl

pub opened-by-same : (a : Act) (f g : ℕ → List ℕ) → ((j : ℕ) → IsServer j → f j ≡ g j) → numbers_opened a f ≡ numbers_opened a g
opened-by-same Deal f g h = refl
opened-by-same (Mul pairs) f g h = refl
opened-by-same (Reveal shown) f g h =
    λ i. each (λ k. weighted three_weights (
    slice_index (h 1 (omega arith, omega arith) i) k ∷ slice_index (h 2 (omega arith, omega arith) i) k ∷ slice_index
    (h 3 (omega arith, omega arith) i) k ∷ []
    ) % p) (length shown.items)
opened-by-same End f g h = refl

-- the points of the wires that a server gains
pub gains-run : (o : Setup) (s : Shared) (a : Act) (i : ℕ) → points_given a (λ j. sent_for o s a j i) ≡ gained o s a i
gains-run o s Deal i = refl
gains-run o s (Mul pairs) i =
    let n = length pairs.items in
    let a = Mul pairs in
    each-same (λ k. reshared (λ j. slice_index (each (hidden_at o s (Mul pairs) j i) n) k)) (product_at o s (Mul pairs) i) n
    (λ k h. rw (
      item-each (hidden_at o s (Mul pairs) 1 i) n k h,
      item-each (hidden_at o s (Mul pairs) 2 i) n k h,
      item-each (hidden_at o s (Mul pairs) 3 i) n k h,
      item-each (hidden_at o s (Mul pairs) 4 i) n k h,
      item-each (hidden_at o s (Mul pairs) 5 i) n k h,
    ) refl)
gains-run o s (Reveal shown) i = refl
gains-run o s End i = refl

-- the numbers that are opened
pub opens-run : (o : Setup) (s : Shared) (a : Act) (i : ℕ) → numbers_opened a (λ j. sent_for o s a j i) ≡ opened_by s a
opens-run o s Deal i = refl
opens-run o s (Mul pairs) i = refl
opens-run o s (Reveal shown) i =
    let xs = shown.items in
    each-same (λ k. recombined (λ j. slice_index (map (slice_index (s.wires j)) xs) k))
    (λ k. recombined (λ j. slice_index (s.wires j) (slice_index xs k))) (length xs)
    (λ k h. rw (
      item-map (slice_index (s.wires 1)) xs 0 k h,
      item-map (slice_index (s.wires 2)) xs 0 k h,
      item-map (slice_index (s.wires 3)) xs 0 k h,
    ) refl)
    ∙ each-map (λ w. recombined (λ j. slice_index (s.wires j) w)) xs
opens-run o s End i = refl
