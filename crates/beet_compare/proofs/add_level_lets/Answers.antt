use Rattle.std.proofs.Common.{◌≡◌, ℕ, ◌+◌, length, get_or, map, take, ap, ◌∙◌, arith, List}
use Rattle.std.proofs.lemmas.List.{take_all}
use Rattle.beet_gates.specs.declared.Linear.{Linear}
use Rattle.beet_gates.specs.Levels.{places_of_pair, wire_of}
use Rattle.beet_gates.specs.Linears.{two_terms}
use Rattle.beet_gates.proofs.EachFacts.{get_or-each, length-each, map-each}
use Rattle.beet_compare.proofs.add_level_lets.Goals as goal

pub overflow_add-products : goal.overflow_add-products
overflow_add-products g c =
    let i = c.loop-low.low-index in
    let place : get_or c.level_pairs.result i (0, 0) ≡ places_of_pair i =
    ap (λ (l : List (ℕ × ℕ)). get_or l i (0, 0)) c.level_pairs.ensures ∙ get_or-each places_of_pair g.row.K i (0, 0) c.loop-low-test.true in
    rw place (omega (arith, c.requires.products, c.loop-low-test.true))

pub returns : goal.returns
returns g c =
    let rule : ℕ × ℕ → Linear = λ place. two_terms 0 (1, wire_of c.args.less place.1) (1, c.args.products + place.0) in
    let list = c.level_pairs.result in
    let whole : take c.loop-low.low-index list ≡ list =
    take_all c.loop-low.low-index list
    (omega (arith, c.loop-low-test.false, ap length c.level_pairs.ensures, length-each places_of_pair g.row.K)) in
    c.loop-low.invariant.so_far ∙ ap (map rule) (whole ∙ c.level_pairs.ensures) ∙ map-each rule places_of_pair g.row.K
