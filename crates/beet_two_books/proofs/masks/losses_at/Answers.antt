use Rattle.std.proofs.Common.{◌<◌, ◌++◌, ◌∷◌, [], ℕ, slice_index, map, sym, ap, ◌∙◌, arith, take_all}
use Rattle.std.proofs.lemmas.List.{map_more}
use Rattle.std.proofs.lemmas.List.Elements.{All-get_or}
use Rattle.beet_two_books.specs.Losses.{lost_at}
use Rattle.beet_two_books.proofs.masks.losses_at.Goals as goal

pub lost-requires-clause-first : goal.lost-requires-clause-first
lost-requires-clause-first c =
    All-get_or (λ (place : ℕ). place < c.args.first.now.grid.prices) c.args.places.now c.loop-place.place-index 0
    c.loop-place-test.true c.requires.within

pub lost-requires-clause-second : goal.lost-requires-clause-second
lost-requires-clause-second c =
    let within : slice_index c.args.places.now c.loop-place.place-index < c.args.first.now.grid.prices =
    All-get_or (λ (place : ℕ). place < c.args.first.now.grid.prices) c.args.places.now c.loop-place.place-index 0
    c.loop-place-test.true c.requires.within in
    omega (arith, c.requires.grids, within)

pub loop-place-preserved : goal.loop-place-preserved
loop-place-preserved c =
    c.in_ok-push.ensures.items ∙ (λ j. c.loop-place.invariant j ++ c.lost.ensures j ∷ [])
    ∙ sym (map_more (lost_at c.args.first.now c.args.second.now) c.args.places.now c.loop-place.place-index 0 c.loop-place-test.true)

pub returns : goal.returns
returns c =
    c.loop-place.invariant
    ∙ ap (map (lost_at c.args.first.now c.args.second.now)) (take_all c.loop-place.place-index c.args.places.now c.loop-place-test.false)
