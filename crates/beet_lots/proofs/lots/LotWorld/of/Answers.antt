use Rattle.std.proofs.Common.{◌≡◌, List, refl, [], ◌∷◌, length, map, ap, sym, ◌∙◌, arith, append-nil}
use Rattle.std.proofs.lemmas.List.{length-map}
use Rattle.std.specs.Vec.Iter.{into_iter_items}
use Rattle.beet_lots.specs.LotWorlds.{begun}
use Rattle.beet_lots.proofs.lots.LotWorld.of.Goals as goal

nothing_left : {X : Type 0} (l : List X) → length l ≡ 0 → l ≡ []
nothing_left [] h = refl
nothing_left (x ∷ xs) h = absurd (omega arith)

pub returns : goal.returns
returns g c =
    let inv = c.loop-cores.invariant in
    let empty : into_iter_items c.loop-cores.cores-iterator ≡ [] = nothing_left _ (sym inv.left ∙ c.in-None.ensures.steps.0) in
    let all = sym (append-nil c.loop-cores.yielded) ∙ rw empty at inv.rest in
    inv.made ∙ ap (map (begun g.S.Script.rounds_of)) all

pub invariant_of-result : goal.invariant_of-result
invariant_of-result g c =
    let long = ap length (returns g c) ∙ length-map c.args.lots.items (begun g.S.Script.rounds_of) in
    let some = c.requires.some in
    let few = c.requires.few in
    (omega (arith, long, some), omega (arith, long, few))
