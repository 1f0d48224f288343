use Rattle.std.proofs.Common.{◌+◌, List, arith, drop, get_or, subst}
use Rattle.std.proofs.lemmas.List.{drop_all, drop_more}
use Rattle.beet_field.specs.declared.point.Point.TheVariants.{One}
use Rattle.beet_lots.specs.LotWorlds.{lot_triples}
use Rattle.beet_lots.specs.declared.lots.LotDelivery.{LotDelivery}
use Rattle.beet_lots.proofs.LotFacts.{PlaysOn, plays-all, plays-more, plays-none}
use Rattle.beet_lots.proofs.lots.LotWorld.play.Goals as goal

pub loop-delivery-init : goal.loop-delivery-init
loop-delivery-init g c = plays-none g.S.Script.batch_of g.S.Script.inputs_of g.S.Script.rounds_of c.args.self.now
    (lot_triples c.args.schedule.now)

pub loop-delivery-preserved : goal.loop-delivery-preserved
loop-delivery-preserved g c =
    let script = g.S.Script in
    let k = c.loop-delivery.delivery-index in
    let none : LotDelivery = record { lot = 0; delivery = record { from = One; to = One; round = 0 } } in
    let here : LotDelivery = get_or c.args.schedule.now k none in
    let rest : List LotDelivery = drop (k + 1) c.args.schedule.now in
    plays-more script.batch_of script.inputs_of script.rounds_of c.args.self.now c.loop-delivery.self c.event.new.self _
    (lot_triples rest) _ c.event.result
    (subst (λ (l : List LotDelivery). PlaysOn script.batch_of script.inputs_of script.rounds_of c.args.self.now c.loop-delivery.self
    (lot_triples l) (lot_triples c.args.schedule.now))
    (drop_more c.args.schedule.now k none c.loop-delivery-test.true) c.loop-delivery.invariant) c.event.ensures

pub returns : goal.returns
returns g c =
    let script = g.S.Script in
    plays-all script.batch_of script.inputs_of script.rounds_of c.args.self.now c.loop-delivery.self (lot_triples c.args.schedule.now)
    (subst (λ (l : List LotDelivery). PlaysOn script.batch_of script.inputs_of script.rounds_of c.args.self.now c.loop-delivery.self
    (lot_triples l) (lot_triples c.args.schedule.now))
    (drop_all c.loop-delivery.delivery-index c.args.schedule.now (omega arith)) c.loop-delivery.invariant)
