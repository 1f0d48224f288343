use Rattle.std.proofs.Common.{◌+◌, [], List, arith, drop, get_or, subst}
use Rattle.std.proofs.lemmas.List.{drop_all, drop_more}
use Rattle.beet_five_world.specs.Members.{named_in, triple}
use Rattle.beet_five_world.specs.declared.world.FiveDelivery.{FiveDelivery}
use Rattle.beet_five_world.proofs.PlayFacts.{LeadsOn, leads-all, leads-more, leads-none, leads-sent}
use Rattle.beet_five_world.proofs.WorldFacts.{led-all}
use Rattle.beet_five_world.proofs.world.FiveWorld.play.Given.{Over}
use Rattle.beet_five_world.proofs.world.FiveWorld.play.Goals.{After-loop-delivery}
use Rattle.beet_five_world.proofs.world.FiveWorld.play.Goals as goal

pub loop-delivery-init : goal.loop-delivery-init
loop-delivery-init g c = leads-none g.S.Script.batch_of c.args.self.now (named_in c.args.schedule.now)

pub loop-delivery-preserved : goal.loop-delivery-preserved
loop-delivery-preserved g c =
    let next = g.S.Script.batch_of in
    let k = c.loop-delivery.delivery-index in
    let none : FiveDelivery = record { from = 0; to = 0; round = 0 } in
    let here : FiveDelivery = get_or c.args.schedule.now k none in
    let rest : List FiveDelivery = drop (k + 1) c.args.schedule.now in
    let whole = named_in c.args.schedule.now in
    leads-more next c.args.self.now whole c.loop-delivery.self c.event.new.self (triple here.from here.to here.round) (named_in rest)
    (subst (λ (l : List FiveDelivery). LeadsOn next c.args.self.now c.loop-delivery.self (named_in l) whole)
    (drop_more c.args.schedule.now k none c.loop-delivery-test.true) c.loop-delivery.invariant)
    c.event.ensures.fits
    (λ script o rounds x f unsent. c.event.ensures.unchanged ((c.event.ensures.sent script o rounds x f).1 unsent))

-- no event is left
module _ (g : Over) (c : After-loop-delivery g) where
  all-led : LeadsOn g.S.Script.batch_of c.args.self.now c.loop-delivery.self [] (named_in c.args.schedule.now)
  all-led =
      subst (λ (l : List FiveDelivery). LeadsOn g.S.Script.batch_of c.args.self.now c.loop-delivery.self (named_in l)
      (named_in c.args.schedule.now)) (drop_all c.loop-delivery.delivery-index c.args.schedule.now (omega arith)) c.loop-delivery.invariant

pub returns-clause-leads : goal.returns-clause-leads
returns-clause-leads g c = leads-all g.S.Script.batch_of c.args.self.now (named_in c.args.schedule.now) c.loop-delivery.self (all-led g c)

pub returns-clause-passed_over : goal.returns-clause-passed_over
returns-clause-passed_over g c =
    leads-sent g.S.Script.batch_of c.args.self.now (named_in c.args.schedule.now) c.loop-delivery.self (all-led g c)

pub returns-clause-fits : goal.returns-clause-fits
returns-clause-fits g c = λ script o rounds x f.
    let next = g.S.Script.batch_of in
    let whole = named_in c.args.schedule.now in
    led-all next script o rounds whole c.args.self.now c.loop-delivery.self x
    (leads-all next c.args.self.now whole c.loop-delivery.self (all-led g c)) f
