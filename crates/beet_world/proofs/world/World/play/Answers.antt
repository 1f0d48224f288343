use Rattle.std.proofs.Common.{◌≡◌, ◌+◌, ℕ, List, drop, sym, ◌∙◌, ap, get_or}
use Rattle.std.proofs.lemmas.List.{drop_more}
use Rattle.beet_field.specs.declared.point.Point.TheVariants.{One}
use Rattle.beet_field.specs.declared.trio.Trio.{Trio}
use Rattle.beet_server.specs.Cores.{Core, setup_of}
use Rattle.beet_delivery.specs.Events.{Delivered, after_from, deliver}
use Rattle.beet_sharing.specs.Runs.{rounds_among}
use Rattle.beet_world.specs.Worlds.{delivered_in, named_in, rounds_in, triple_of}
use Rattle.beet_world.specs.declared.schedule.Delivery.{Delivery}
use Rattle.beet_world.proofs.world.World.play.Goals as goal

pub loop-delivery-preserved : goal.loop-delivery-preserved
loop-delivery-preserved g c =
    let script = g.S.Script in
    let next = script.batch_of in
    let inv = c.loop-delivery.invariant in
    let rounds : ℕ = rounds_in next script.inputs_of script.rounds_of c.args.self.now in
    let k = c.loop-delivery.delivery-index in
    let none : Delivery = record { from = One; to = One; round = 0 } in
    let here : Delivery = get_or c.args.schedule.now k none in
    let rest : List Delivery = drop (k + 1) c.args.schedule.now in
    let x : Delivered = delivered_in c.loop-delivery.self in
    let same : rounds_in next script.inputs_of script.rounds_of c.loop-delivery.self ≡ rounds =
    ap (λ (t : Trio (Core g.row.S.Denot)). rounds_among (setup_of next script.inputs_of t) (script.rounds_of t.one.script)) inv.start in
    let event : delivered_in c.event.new.self ≡ deliver rounds x (triple_of here) =
    c.event.ensures.delivered ∙ ap (λ r. deliver r x (triple_of here)) same in
    record {
      rest = ap (λ y. after_from rounds y (named_in rest)) event
          ∙ ap (λ l. after_from rounds x (named_in l)) (sym (drop_more c.args.schedule.now k none c.loop-delivery-test.true))
          ∙ inv.rest;
      start = c.event.ensures.start ∙ inv.start;
    }
