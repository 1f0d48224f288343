-- What an act does, from the lines of the wires that it gives.
use Rattle.std.proofs.Common.{◌≡◌, ◌+◌, ℕ, List, ◌++◌, length, slice_index, refl, ◌∙◌}
use Rattle.std.proofs.lemmas.List.{map-append}
use Rattle.beet_field.specs.Trio.{member, trio_of}
use Rattle.beet_field.specs.declared.point.Point.{Point}
use Rattle.beet_field.specs.declared.point.Point.TheVariants.{One, Two, Three}
use Rattle.beet_field.specs.declared.trio.Trio.{Trio}
use Rattle.beet_shamir.specs.Line.{point_of}
use Rattle.beet_shamir.specs.declared.Line.{Line}
use Rattle.beet_gates.specs.Each.{each}
use Rattle.beet_gates.specs.Scripts.{deals_in}
use Rattle.beet_gates.specs.declared.Act.{Act}
use Rattle.beet_gates.specs.declared.Act.TheVariants.{Deal, Mul, Reveal, End}
use Rattle.beet_gates.proofs.EachFacts.{map-each}
use Rattle.beet_gates.specs.Draws.{draws_in}
use Rattle.beet_sharing.specs.Runs.{Shared, act_among, gained, opened_by}
use Rattle.beet_map.specs.Steps.{dealing, hidden_line, lines_gained, product_line}
use Rattle.beet_map.specs.Secrets.{shares_of}

pub shares_gained : (a : Act) (masks numbers : Trio (List ℕ)) (s : Shared) (i : Point) →
    shares_of (lines_gained a masks numbers s) i ≡ gained (dealing masks numbers) s a i
shares_gained Deal masks numbers s i =
    let one = hidden_line Deal s.wires.one (slice_index masks.one s.dealt) numbers.one s.drawn in
    let two = hidden_line Deal s.wires.two (slice_index masks.two s.dealt) numbers.two s.drawn in
    let three = hidden_line Deal s.wires.three (slice_index masks.three s.dealt) numbers.three s.drawn in
    let f : Line → ℕ = λ l. point_of l.value l.slope i in
    map-append f (each one 61) (each two 61 ++ each three 61)
    ∙ (λ x. map-each f one 61 x ++ (map-append f (each two 61) (each three 61) ∙ (λ y. map-each f two 61 y ++ map-each f three 61 y)) x)
shares_gained (Mul pairs) masks numbers s i =
    map-each (λ l. point_of l.value l.slope i) (product_line pairs.items s.wires numbers s.drawn) (length pairs.items)
shares_gained (Reveal shown) masks numbers s i = refl
shares_gained End masks numbers s i = refl

pub acted : (a : Act) (masks numbers : Trio (List ℕ)) (s : Shared) (lines : List Line) → lines ≡ lines_gained a masks numbers s →
    record {
      wires = trio_of (λ i. member s.wires i ++ shares_of lines i);
      opened = s.opened ++ opened_by s a;
      drawn = s.drawn + draws_in a;
      dealt = s.dealt + deals_in a;
    } ≡ act_among (dealing masks numbers) a s
acted a masks numbers s lines e =
    let g : (i : Point) → shares_of lines i ≡ gained (dealing masks numbers) s a i =
    λ i. (λ x. shares_of (e x) i) ∙ shares_gained a masks numbers s i in
    λ x. record {
      wires = record { one = s.wires.one ++ g One x; two = s.wires.two ++ g Two x; three = s.wires.three ++ g Three x };
      opened = s.opened ++ opened_by s a;
      drawn = s.drawn + draws_in a;
      dealt = s.dealt + deals_in a;
    }
