use Rattle.std.proofs.Common.{◌≡◌, ◌<◌, ◌∙◌, ap, arith, length, subst, sym}
use Rattle.std.specs.Prelude.{All}
use Rattle.std.proofs.lemmas.List.{length-map}
use Rattle.beet_lots.specs.LotWorlds.{begun}
use Rattle.beet_lots.specs.declared.lots.LotDelivery.{LotDelivery}
use Rattle.beet_plan.specs.Auction.{most_rounds}
use Rattle.beet_job_replay.proofs.LotsBegun.{begun-fresh, begun-many}
use Rattle.beet_job_replay.proofs.Replays.{replays, worlds-many}
use Rattle.beet_job_replay.proofs.playing.play.Goals as goal

pub of-requires-clause-some : goal.of-requires-clause-some
of-requires-clause-some c =
    let a = c.requires.begun.1 in
    let many = (begun-many _ _ _ a.all).1 in
    let count = a.count in
    let some = c.requires.some in
    omega (arith, many, count, some)

pub of-requires-clause-few : goal.of-requires-clause-few
of-requires-clause-few c =
    let a = c.requires.begun.1 in
    let many = (begun-many _ _ _ a.all).1 in
    let count = a.count in
    let few = c.requires.few in
    omega (arith, many, count, few)

pub of-requires-clause-fresh : goal.of-requires-clause-fresh
of-requires-clause-fresh c = begun-fresh _ _ _ c.requires.begun.1.all

pub play-requires : goal.play-requires
play-requires c =
    let a = c.requires.begun.1 in
    let many : length c.args.rows.now ≡ length c.in_ok-world.world =
    sym (ap length c.in_ok-world.ensures ∙ length-map c.args.begun.cores.items (begun most_rounds)
    ∙ (begun-many _ _ _ a.all).1 ∙ a.count) in
    subst (λ n. All (λ (delivery : LotDelivery). delivery.lot < n) c.args.schedule.now) many c.requires.within

pub tell_lots-told-requires-clause-worlds : goal.tell_lots-told-requires-clause-worlds
tell_lots-told-requires-clause-worlds c =
    let a = c.requires.begun.1 in
    worlds-many c.args.rows.now c.args.begun c.requires.begun.0 c.args.schedule.now _ _ a c.in_ok-world.ensures c.play.ensures
    ∙ (begun-many _ _ _ a.all).1 ∙ a.count

pub tell_lots-told-requires-clause-grids : goal.tell_lots-told-requires-clause-grids
tell_lots-told-requires-clause-grids c =
    let a = c.requires.begun.1 in
    ap length c.as_slice.ensures.value ∙ (begun-many _ _ _ a.all).0 ∙ a.count

pub returns-clause-tells : goal.returns-clause-tells
returns-clause-tells c = λ lots a.
    replays c.args.rows.now c.args.begun lots c.args.schedule.now _ _ a c.in_ok-world.ensures c.play.ensures
    _ _ c.undelivered-undelivered.result (rw c.as_slice.ensures.value at c.in_ok-told.ensures) c.undelivered-undelivered.ensures
    c.in_ok-reply.ensures.reply
