use Rattle.std.proofs.Common.{List, arith, length, refl, subst, take_all}
use Rattle.std.proofs.lemmas.Option.{slice_get_read}
use Rattle.beet_errand.specs.Errands.{Answer}
use Rattle.beet_lot_load.specs.Telling.{TellsLots}
use Rattle.beet_lot_load.proofs.LotsTelling.{tells-none}
use Rattle.beet_job_replay.proofs.Replays.{first-more, there}
use Rattle.beet_job_replay.proofs.telling.tell_lots.Goals as goal

pub loop-i-init : goal.loop-i-init
loop-i-init c = λ answers many each. tells-none c.args.rows.now _ c.new-told.ensures.text c.new-told.ensures.spent

pub loop-i-preserved : goal.loop-i-preserved
loop-i-preserved c = λ answers many each.
    let worlds = c.requires.worlds in
    let grids = c.requires.grids in
    let i = c.loop-i.i in
    let world = there c.args.world.now i (omega (arith, worlds)) in
    first-more c.args.rows.now answers i _ _ _ many (omega arith) c.index-rows-i.is (c.loop-i.invariant answers many each)
    (λ answer at. c.in_ok-tell_lot.ensures world.0 answer world.1
    (each i world.0 c.index-grids-i.result answer world.1
    (slice_get_read c.args.grids.now (length c.args.grids.now) i c.index-grids-i.result refl (omega (arith, grids)) c.index-grids-i.is) at))

pub returns : goal.returns
returns c = λ answers many each.
    subst (λ (l : List Answer). TellsLots c.args.rows.now l c.loop-i.told) (take_all c.loop-i.i answers (omega (arith, many)))
    (c.loop-i.invariant answers many each)
