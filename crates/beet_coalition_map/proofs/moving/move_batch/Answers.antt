use Rattle.std.proofs.Common.{[], ◌∷◌, sym, subst, ◌∙◌}
use Rattle.std.proofs.lemmas.List.{with_items_is}
use Rattle.beet_coalition.specs.Watchers.{two_watch}
use Rattle.beet_coalition_map.specs.Steps.{MovesBatch}
use Rattle.beet_coalition_map.proofs.Moves.{list-moved, moves-batch}
use Rattle.beet_coalition_map.proofs.moving.move_batch.Goals as goal

pub returns : goal.returns
returns c =
    let pair = two_watch c.args.two.a c.args.two.b in
    let act = c.args.act.now in
    let masks = c.args.here.masks.now in
    let here = c.args.here.stage.now in
    let masks' = c.args.there.masks.now in
    let there = c.args.there.stage.now in
    let lists = c.numbers.inside in
    let one = with_items_is lists.one c.move_list.new.list (c.move_list.ensures.same_length ∙ c.as_mut_slice-first.ensures.len) in
    let two = with_items_is lists.two c.move_list-2.new.list
    (c.move_list-2.ensures.same_length ∙ c.as_mut_slice-second.ensures.len) in
    let three = with_items_is lists.three c.move_list-3.new.list
    (c.move_list-3.ensures.same_length ∙ c.as_mut_slice-third.ensures.len) in
    let four = with_items_is lists.four c.move_list-4.new.list
    (c.move_list-4.ensures.same_length ∙ c.as_mut_slice-fourth.ensures.len) in
    let five = with_items_is lists.five c.move_list-5.new.list
    (c.move_list-5.ensures.same_length ∙ c.as_mut_slice-fifth.ensures.len) in
    let first = list-moved pair act masks here masks' there 1 c.as_mut_slice-first.result.now lists.one.items c.move_list.new.list
    c.as_mut_slice-first.ensures.value c.move_list.ensures.own c.move_list.ensures.other in
    let second = list-moved pair act masks here masks' there 2 c.as_mut_slice-second.result.now lists.two.items
    c.move_list-2.new.list c.as_mut_slice-second.ensures.value c.move_list-2.ensures.own c.move_list-2.ensures.other in
    let third = list-moved pair act masks here masks' there 3 c.as_mut_slice-third.result.now lists.three.items
    c.move_list-3.new.list c.as_mut_slice-third.ensures.value c.move_list-3.ensures.own c.move_list-3.ensures.other in
    let fourth = list-moved pair act masks here masks' there 4 c.as_mut_slice-fourth.result.now lists.four.items
    c.move_list-4.new.list c.as_mut_slice-fourth.ensures.value c.move_list-4.ensures.own c.move_list-4.ensures.other in
    let fifth = list-moved pair act masks here masks' there 5 c.as_mut_slice-fifth.result.now lists.five.items
    c.move_list-5.new.list c.as_mut_slice-fifth.ensures.value c.move_list-5.ensures.own c.move_list-5.ensures.other in
    let moved = moves-batch pair act masks here masks' there lists.one.items lists.two.items lists.three.items lists.four.items
    lists.five.items c.move_list.new.list c.move_list-2.new.list c.move_list-3.new.list c.move_list-4.new.list
    c.move_list-5.new.list first second third fourth fifth in
    subst (MovesBatch pair act masks here masks' there c.args.numbers.now)
    (λ i. sym one i ∷ sym two i ∷ sym three i ∷ sym four i ∷ sym five i ∷ [])
    (subst (λ old. MovesBatch pair act masks here masks' there old
    (c.move_list.new.list ∷ c.move_list-2.new.list ∷ c.move_list-3.new.list ∷ c.move_list-4.new.list ∷ c.move_list-5.new.list ∷ []))
    c.numbers.view_is moved)
