-- Runs among three servers of which the points of the inputs are numbers of the field, whether they lie on lines or not.
use Rattle.std.proofs.Common.{ℕ, zero, suc, List, [], ◌∷◌, ◌++◌, length, All, slice_index, arith, inl, inr, subst, sym}
use Rattle.std.proofs.Math.ListN.{get_or-eq_default}
use Rattle.std.proofs.lemmas.Bool.{cases_lt}
use Rattle.std.proofs.lemmas.List.Elements.{All-append, All-cons, All-get_or, All-map, All-nil}
use Rattle.beet_field.specs.Field.{IsElement}
use Rattle.beet_field.specs.Trio.{member}
use Rattle.beet_field.specs.declared.point.Point.{Point}
use Rattle.beet_field.specs.declared.point.Point.TheVariants.{One, Two, Three}
use Rattle.beet_gates.specs.Clear.{let_of, with_lets}
use Rattle.beet_gates.specs.Each.{each}
use Rattle.beet_gates.specs.declared.Act.{Act}
use Rattle.beet_gates.specs.declared.Act.TheVariants.{Deal, Mul, Reveal, End}
use Rattle.beet_gates.specs.declared.Linear.{Linear}
use Rattle.beet_gates.proofs.EachFacts.{all-each}
use Rattle.beet_sharing.specs.Runs.{Setup, Shared, coming, gained, hidden_at, message, product_at, sent_for, shared_at, standing_at}
use Rattle.beet_sharing.proofs.Lined.{member-each, member-trio}

-- an item is a number of the field, and so is the 0 that stands for each item behind the last
item-element : (xs : List ℕ) (w : ℕ) → All IsElement xs → IsElement (slice_index xs w)
item-element xs w all = elim (cases_lt w (length xs)) [
  | inl lt ↦ All-get_or IsElement xs w 0 lt all
  | inr le ↦ subst IsElement (sym (get_or-eq_default xs 0 le)) (omega arith)
]

-- lets are numbers of the field
lets-elements : (points : List ℕ) (lets : List Linear) → All IsElement points → All IsElement (with_lets points lets)
lets-elements points [] all = all
lets-elements points (l ∷ lets) all =
    lets-elements (points ++ let_of points l ∷ []) lets
    (All-append IsElement points (let_of points l ∷ []) all (All-cons IsElement (let_of points l) [] (omega arith) (All-nil IsElement)))

module _ (o : Setup) where
  -- what an act gives are numbers of the field
  dealt-elements : (s : Shared) (j i : Point) → All IsElement (each (hidden_at o s Deal j i) 61)
  dealt-elements s j i = all-each IsElement (hidden_at o s Deal j i) 61 (λ k lt. omega arith)

  gained-elements : (s : Shared) (a : Act) (i : Point) → All IsElement (gained o s a i)
  gained-elements s Deal i =
      All-append IsElement _ _ (dealt-elements s One i)
      (All-append IsElement _ _ (dealt-elements s Two i) (dealt-elements s Three i))
  gained-elements s (Mul pairs) i = all-each IsElement (product_at o s (Mul pairs) i) (length pairs.items) (λ k lt. omega arith)
  gained-elements s (Reveal shown) i = All-nil IsElement
  gained-elements s End i = All-nil IsElement

  -- what is sent for an act too, if the points of the sender are
  sent-elements : (s : Shared) (a : Act) (from to : Point) → All IsElement (member s.wires from) → All IsElement (sent_for o s a from to)
  sent-elements s Deal from to all = dealt-elements s from to
  sent-elements s (Mul pairs) from to all =
      all-each IsElement (hidden_at o s (Mul pairs) from to) (length pairs.items) (λ k lt. omega arith)
  sent-elements s (Reveal shown) from to all =
      All-map IsElement (slice_index (member s.wires from)) shown.items (λ k d lt. item-element (member s.wires from) _ all)
  sent-elements s End from to all = All-nil IsElement

  module _ (inputs : (i : Point) → All IsElement (member o.inputs i)) where
    standing-elements : (t : ℕ) → ((i : Point) → All IsElement (member (shared_at o t).wires i)) →
        (i : Point) → All IsElement (member (standing_at o t).wires i)
    standing-elements t all i =
        subst (All IsElement) (sym (member-each (λ points. with_lets points (coming o t).lets.items) (shared_at o t).wires i))
        (lets-elements (member (shared_at o t).wires i) (coming o t).lets.items (all i))

    -- the points of all servers are numbers of the field
    wires-elements : (t : ℕ) (i : Point) → All IsElement (member (shared_at o t).wires i)
    wires-elements zero i = inputs i
    wires-elements (suc t) i =
        let s = standing_at o t in
        let a = (coming o t).act in
        subst (All IsElement) (sym (member-trio (λ j. member s.wires j ++ gained o s a j) i))
        (All-append IsElement (member s.wires i) (gained o s a i) (standing-elements t (wires-elements t) i) (gained-elements s a i))

    -- and so are those of each message
    pub message-elements : (from to : Point) (t : ℕ) → All IsElement (message o from to t)
    message-elements from to t =
        sent-elements (standing_at o t) (coming o t).act from to (standing-elements t (wires-elements t) from)
