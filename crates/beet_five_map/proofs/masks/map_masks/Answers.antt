use Rattle.std.proofs.Common.{arith}
use Rattle.beet_two_books.specs.Losses.{losses_of}
use Rattle.beet_five_map.proofs.MaskLists.{masks-all, masks-more, masks-none}
use Rattle.beet_five_map.proofs.masks.map_masks.Goals as goal

pub loop-server-init : goal.loop-server-init
loop-server-init c =
    rw c.in_ok-mapped.ensures.items
    (masks-none c.place_of_lowest-turner.result (losses_of c.args.first.now c.args.second.now) c.args.masks.now)

pub loop-server-preserved : goal.loop-server-preserved
loop-server-preserved c =
    let list = c.in_ok-words_of in
    rw c.in_ok-push.ensures.items (masks-more c.place_of_lowest-turner.result (losses_of c.args.first.now c.args.second.now)
    c.args.masks.now c.loop-server.mapped.items c.loop-server.server list.field-0 c.loop-server.invariant list.ensures.length
    list.ensures.turns list.ensures.other)

pub returns : goal.returns
returns c =
    rw (← c.place_of_lowest-turner.ensures) (masks-all c.place_of_lowest-turner.result
    (losses_of c.args.first.now c.args.second.now) c.args.masks.now c.loop-server.mapped.items c.loop-server.server
    (omega (arith, c.loop-server-test.false)) c.loop-server.invariant)
