-- One server's step, on the numbers of a run: what it sends and gains is what the run says of its point.
use Rattle.std.proofs.Common.{◌≡◌, ℕ, take, drop, map, length, slice_index, refl, ◌∙◌, arith}
use Rattle.std.specs.Int.{bit_at}
use Rattle.std.proofs.lemmas.List.{length-map}
use Rattle.beet_field.specs.Trio.{member}
use Rattle.beet_field.specs.declared.point.Point.{Point}
use Rattle.beet_field.specs.declared.point.Point.TheVariants.{One, Two, Three}
use Rattle.beet_shamir.specs.Line.{point_of, recombined, reshared}
use Rattle.beet_gates.specs.Clear.{product_of}
use Rattle.beet_gates.specs.Each.{each}
use Rattle.beet_gates.specs.Scripts.{size_of}
use Rattle.beet_gates.specs.declared.Act.{Act}
use Rattle.beet_gates.specs.declared.Act.TheVariants.{Deal, Mul, Reveal, End}
use Rattle.beet_gates.proofs.EachFacts.{length-each, item-each, each-same}
use Rattle.beet_gates.specs.Draws.{draws_in}
use Rattle.beet_gates.proofs.Lists.{item-taken, item-map, each-map}
use Rattle.beet_sharing.specs.Runs.{Setup, Shared, hidden_at, secret_hidden, number_drawn, product_at, gained}
use Rattle.beet_sharing.specs.Runs.{opened_at, opened_by, sent_for}
use Rattle.beet_sharing.specs.Steps.{numbers_for, three_at, points_given, numbers_opened}

-- a trio of points of lines, put together as the share of a product
pub reshared-points : (a b c r s t : ℕ) (i : Point) →
    reshared (record { one = point_of a r i; two = point_of b s i; three = point_of c t i })
    ≡ point_of (reshared (record { one = a; two = b; three = c })) (reshared (record { one = r; two = s; three = t })) i
reshared-points a b c r s t One = omega arith
reshared-points a b c r s t Two = omega arith
reshared-points a b c r s t Three = omega arith

-- a message has the size of its batch
pub length-sent_for : (o : Setup) (s : Shared) (a : Act) (from to : Point) → length (sent_for o s a from to) ≡ size_of a
length-sent_for o s Deal from to = length-each (hidden_at o s Deal from to) 61
length-sent_for o s (Mul pairs) from to = length-each (hidden_at o s (Mul pairs) from to) (length pairs.items)
length-sent_for o s (Reveal shown) from to = length-map shown.items (slice_index (member s.wires from))
length-sent_for o s End from to = refl

-- what a server sends
pub sends-run : (o : Setup) (s : Shared) (a : Act) (me to : Point) →
    numbers_for a (member s.wires me) (slice_index (member o.masks me) s.dealt) (take (draws_in a) (drop s.drawn (member o.numbers me))) to
    ≡ sent_for o s a me to
sends-run o s Deal me to =
    let word = slice_index (member o.masks me) s.dealt in
    let drawn = take 61 (drop s.drawn (member o.numbers me)) in
    rw (length-each (bit_at word) 61) (each-same
    (λ k. point_of (slice_index (each (bit_at word) 61) k) (slice_index drawn k) to) (hidden_at o s Deal me to) 61
    (λ k h. rw (item-each (bit_at word) 61 k h, item-taken s.drawn 61 k (member o.numbers me) h) refl))
sends-run o s (Mul pairs) me to =
    let points = member s.wires me in
    let n = length pairs.items in
    let drawn = take n (drop s.drawn (member o.numbers me)) in
    rw (length-map pairs.items (product_of points)) (each-same
    (λ k. point_of (slice_index (map (product_of points) pairs.items) k) (slice_index drawn k) to) (hidden_at o s (Mul pairs) me to) n
    (λ k h. rw (item-map (product_of points) pairs.items (0, 0) k h, item-taken s.drawn n k (member o.numbers me) h) refl))
sends-run o s (Reveal shown) me to = refl
sends-run o s End me to = refl

-- the points of the wires that it gains
pub gains-run : (o : Setup) (s : Shared) (a : Act) (i : Point) →
    points_given a (sent_for o s a One i) (sent_for o s a Two i) (sent_for o s a Three i) ≡ gained o s a i
gains-run o s Deal i = refl
gains-run o s (Mul pairs) i =
    let n = length pairs.items in
    let a = Mul pairs in
    rw (length-each (hidden_at o s (Mul pairs) One i) n) (each-same
    (λ k. reshared (three_at (sent_for o s (Mul pairs) One i) (sent_for o s (Mul pairs) Two i) (sent_for o s (Mul pairs) Three i) k))
    (product_at o s (Mul pairs) i) n
    (λ k h. rw (
      item-each (hidden_at o s (Mul pairs) One i) n k h,
      item-each (hidden_at o s (Mul pairs) Two i) n k h,
      item-each (hidden_at o s (Mul pairs) Three i) n k h,
    ) (reshared-points
    (secret_hidden o s (Mul pairs) One k) (secret_hidden o s (Mul pairs) Two k) (secret_hidden o s (Mul pairs) Three k)
    (number_drawn o s One k) (number_drawn o s Two k) (number_drawn o s Three k) i)))
gains-run o s (Reveal shown) i = refl
gains-run o s End i = refl

-- the numbers that are opened
pub opens-run : (o : Setup) (s : Shared) (a : Act) (i : Point) →
    numbers_opened a (sent_for o s a One i) (sent_for o s a Two i) (sent_for o s a Three i) ≡ opened_by s a
opens-run o s Deal i = refl
opens-run o s (Mul pairs) i = refl
opens-run o s (Reveal shown) i =
    let xs = shown.items in
    rw (length-map xs (slice_index (member s.wires One))) (each-same
    (λ k. recombined (three_at (map (slice_index (member s.wires One)) xs) (map (slice_index (member s.wires Two)) xs)
    (map (slice_index (member s.wires Three)) xs) k))
    (λ k. opened_at s.wires (slice_index xs k)) (length xs)
    (λ k h. rw (
      item-map (slice_index (member s.wires One)) xs 0 k h,
      item-map (slice_index (member s.wires Two)) xs 0 k h,
    ) refl)
    ∙ each-map (opened_at s.wires) xs)
opens-run o s End i = refl
