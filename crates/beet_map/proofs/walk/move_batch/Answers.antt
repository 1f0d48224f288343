use Rattle.std.proofs.Common.{ℕ, List, sym, subst, ◌∙◌}
use Rattle.std.proofs.lemmas.List.{with_items_is}
use Rattle.beet_field.specs.declared.point.Point.TheVariants.{One, Two, Three}
use Rattle.beet_field.specs.declared.trio.Trio.{Trio}
use Rattle.beet_map.specs.declared.walk.World.{World}
use Rattle.beet_map.specs.Steps.{MovesBatch}
use Rattle.beet_map.proofs.Moves.{list_moved, moves_batch}
use Rattle.beet_map.proofs.walk.move_batch.Goals as goal

pub returns-clause-moves : goal.returns-clause-moves
returns-clause-moves c =
    let me = c.args.me in
    let act = c.args.act.now in
    let here = c.args.here.now in
    let there = c.args.there.now in
    let second = c.there.inside.0.0.now in
    let stage = c.there.inside.0.1.1.0 in
    let lists = c.there.inside.0.1.0.lists in
    let one = with_items_is lists.one c.move_list.new.list (c.move_list.ensures.same_length ∙ c.as_mut_slice-one.ensures.len) in
    let two = with_items_is lists.two c.move_list-2.new.list (c.move_list-2.ensures.same_length ∙ c.as_mut_slice-two.ensures.len) in
    let three = with_items_is lists.three c.move_list-3.new.list
    (c.move_list-3.ensures.same_length ∙ c.as_mut_slice-three.ensures.len) in
    let after : Trio (List ℕ) = record { one = c.move_list.new.list; two = c.move_list-2.new.list; three = c.move_list-3.new.list } in
    subst (MovesBatch me act here.secrets.now here.stage there.secrets.now there.stage there.numbers)
    (λ i. record { one = sym one i; two = sym two i; three = sym three i })
    (subst (λ (w : World). MovesBatch me act here.secrets.now here.stage w.secrets.now w.stage there.numbers after) c.there.view_is
    (moves_batch me act here.secrets.now here.stage second stage there.numbers after
    (list_moved me act here.secrets.now here.stage second stage there.numbers after One c.as_mut_slice-one.result.now
    (c.as_mut_slice-one.ensures.value ∙ (λ i. (c.there.view_is i).numbers.one)) c.move_list.ensures.own c.move_list.ensures.other)
    (list_moved me act here.secrets.now here.stage second stage there.numbers after Two c.as_mut_slice-two.result.now
    (c.as_mut_slice-two.ensures.value ∙ (λ i. (c.there.view_is i).numbers.two)) c.move_list-2.ensures.own c.move_list-2.ensures.other)
    (list_moved me act here.secrets.now here.stage second stage there.numbers after Three c.as_mut_slice-three.result.now
    (c.as_mut_slice-three.ensures.value ∙ (λ i. (c.there.view_is i).numbers.three)) c.move_list-3.ensures.own c.move_list-3.ensures.other)))
