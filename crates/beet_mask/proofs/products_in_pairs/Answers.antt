use Rattle.std.proofs.Common.{◌≡◌, ℕ, length, map, take, ap, ◌∙◌, arith}
use Rattle.std.proofs.lemmas.List.{take_all}
use Rattle.beet_gates.specs.Levels.{places_of_pair, wire_of}
use Rattle.beet_gates.proofs.EachFacts.{length-each, map-each}
use Rattle.beet_mask.proofs.products_in_pairs.Goals as goal

pub returns : goal.returns
returns g c =
    let place : ℕ × ℕ → ℕ × ℕ = λ at. (wire_of c.args.items at.0, wire_of c.args.items at.1) in
    let list = c.level_pairs-places.result in
    let whole : take c.loop-left.left-index list ≡ list =
    take_all c.loop-left.left-index list (omega
    (arith, c.loop-left-test.false, ap length c.level_pairs-places.ensures, length-each places_of_pair g.row.K)) in
    c.loop-left.invariant.so_far ∙ ap (map place) (whole ∙ c.level_pairs-places.ensures) ∙ map-each place places_of_pair g.row.K
