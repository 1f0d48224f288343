use Rattle.std.proofs.Common.{◌≡◌, ℕ, ◌+◌, ◌*◌, List, [], ◌∷◌, ◌++◌, length, get_or, refl, ap, ◌∙◌}
use Rattle.beet_gates.specs.Each.{each, by_turns}
use Rattle.beet_gates.specs.Levels.{places_of_pair, wire_of}
use Rattle.beet_gates.proofs.EachFacts.{get_or-each, length-each, turns-push}
use Rattle.beet_compare.proofs.level_products.Goals as goal

pub loop-i-init : goal.loop-i-init
unfolding each
loop-i-init g c = record { so_far = c.new-pairs.ensures; count = ap length c.new-pairs.ensures }

pub loop-i-preserved : goal.loop-i-preserved
loop-i-preserved g c =
    let less = wire_of c.args.less in
    let same = wire_of c.args.same in
    let f : ℕ → ℕ × ℕ = λ i. (same (2 * i + 1), less (2 * i)) in
    let h : ℕ → ℕ × ℕ = λ i. (same (2 * i + 1), same (2 * i)) in
    let i = c.loop-i.i in
    let place : get_or c.level_pairs-places.result i (0, 0) ≡ places_of_pair i =
    ap (λ (l : List (ℕ × ℕ)). get_or l i (0, 0)) c.level_pairs-places.ensures
    ∙ get_or-each places_of_pair g.row.K i (0, 0) c.loop-i-test.true in
    let first : ℕ × ℕ = (c.wire.result, c.wire-in-loop-i.result) in
    let second : ℕ × ℕ = (c.wire-in-loop-i-2.result, c.wire-in-loop-i-3.result) in
    let x : first ≡ f i = rw (c.wire.ensures, c.wire-in-loop-i.ensures, place) refl in
    let y : second ≡ h i = rw (c.wire-in-loop-i-2.ensures, c.wire-in-loop-i-3.ensures, place) refl in
    let more : c.push-in-loop-i.new.self.items ≡ each (by_turns f h) (2 * (i + 1)) =
    c.push-in-loop-i.ensures.items ∙ ap (λ (l : List (ℕ × ℕ)). l ++ second ∷ []) c.push.ensures.items
    ∙ turns-push f h i c.loop-i.pairs.items first second c.loop-i.invariant.so_far x y in
    record { so_far = more; count = ap length more ∙ length-each (by_turns f h) (2 * (i + 1)) }
