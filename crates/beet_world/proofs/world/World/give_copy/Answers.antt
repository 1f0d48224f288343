use Rattle.std.proofs.Common.{◌<◌, true≢false, inl, inr, arith, refl, sym, subst, length}
use Rattle.std.proofs.lemmas.Bool.{cases_lt}
use Rattle.beet_field.specs.Trio.{member}
use Rattle.beet_gates.specs.Scripts.{Standing, bounds_of}
use Rattle.beet_delivery.specs.Events.{Triple}
use Rattle.beet_delivery.proofs.NetworkFacts.{deliver_unsent}
use Rattle.beet_delivery.proofs.ThreeServers.{three-is}
use Rattle.beet_world.specs.Happens.{HasHappened}
use Rattle.beet_world.specs.Worlds.{World, delivered_in, rounds_in}
use Rattle.beet_world.specs.declared.world.Event.TheVariants.{Delivered as DeliveredBy, NotSent}
use Rattle.beet_world.proofs.Delivered.{back_side, delivered, gives, holds-after, mark-within, may-take, not-sent-event}
use Rattle.beet_world.proofs.Delivered.{not-sent-to, told-event}
use Rattle.beet_world.proofs.MarkFacts.{with_mark}
use Rattle.beet_world.proofs.world.World.give_copy.Given.{Over}
use Rattle.beet_world.proofs.world.World.give_copy.Goals.{After-sent_message, In-Some}
use Rattle.beet_world.proofs.world.World.give_copy.Goals as goal

module _ (g : Over) (c : After-sent_message g) where
  abbrev seen : World g.row.S.Denot
  seen = record { start = c.self.inside.start.value; marks = c.self.inside.marks.items }

  abbrev limits : Standing
  limits =
      let first = seen.start.one.script in
      bounds_of (g.S.Script.wires_of first) (g.S.Script.masks_of first) (g.S.Script.secrets_of first)

  abbrev asked : Triple
  asked = record { from = c.args.from; to = c.args.to; round = c.args.round }

-- the message was sent
sent-there : (g : Over) (c : In-Some g) → c.args.round < length (member c.self.inside.sent c.args.from).items
sent-there g c = elim (cases_lt c.args.round (length (member c.self.inside.sent c.args.from).items)) [
  | inl less ↦ less
  | inr past ↦ absurd (true≢false (c.in-Some.ensures.none.1 past))
]

pub returns-in_default : goal.returns-in_default
returns-in_default g c =
    let script = g.S.Script in
    let next = script.batch_of in
    let asks = (goal.at.returns-in_default g c).After-sent_message in
    let none = c.in_default.ensures.none.0 refl in
    subst (λ (v : World g.row.S.Denot). HasHappened next script.inputs_of script.rounds_of v (asked g asks) NotSent v) c.self.view_is
    (record {
      delivered = sym (deliver_unsent three-is (rounds_in next script.inputs_of script.rounds_of (seen g asks))
          (delivered_in (seen g asks)) (asked g asks)
          (not-sent-to next script.inputs_of script.rounds_of (limits g asks) (seen g asks) c.self.inside.cores c.self.inside.sent
          (g.met.S.Script.lawful _) c.self.invariant c.args.from c.args.to c.args.side c.args.round c.requires none));
      start = refl;
      told = not-sent-event next script.inputs_of script.rounds_of (limits g asks) (seen g asks) c.self.inside.cores c.self.inside.sent
          (g.met.S.Script.lawful _) c.self.invariant c.args.from c.args.to c.args.side c.args.round c.requires none;
      unchanged = λ e. refl;
    })

pub give_to-verdict-requires : goal.give_to-verdict-requires
give_to-verdict-requires g c =
    let script = g.S.Script in
    let asks = (goal.at.give_to-verdict-requires g c).After-sent_message in
    may-take script.batch_of script.inputs_of script.rounds_of (limits g asks) (seen g asks) c.self.inside.cores c.self.inside.sent
    (g.met.S.Script.lawful _) c.self.invariant c.args.to

pub index_mut-requires : goal.index_mut-requires
index_mut-requires g c =
    let script = g.S.Script in
    let asks = (goal.at.index_mut-requires g c).After-sent_message in
    let within = mark-within script.batch_of script.inputs_of script.rounds_of (limits g asks)
    (seen g asks) c.self.inside.cores c.self.inside.sent
    (g.met.S.Script.lawful _) c.self.invariant c.args.from c.args.side c.args.round (sent-there g (goal.at.index_mut-requires g c).In-Some)
    c.args.to c.requires c.in-Some.message c.in-Some.ensures.message in
    omega (arith, within, c.mark_place.ensures, c.self.inside.marks.ok)

pub invariant_of-self : goal.invariant_of-self
invariant_of-self g c =
    let script = g.S.Script in
    let asks = (goal.at.invariant_of-self g c).After-sent_message in
    let there = sent-there g (goal.at.invariant_of-self g c).In-Some in
    let v = c.give_to-verdict.ensures in
    let may = gives script.batch_of script.inputs_of script.rounds_of (limits g asks) (seen g asks) c.self.inside.cores c.self.inside.sent
    (g.met.S.Script.lawful _) c.self.invariant c.args.from c.args.side c.args.round there c.args.to c.requires
    c.in-Some.message c.in-Some.ensures.message in
    let given = v.given _ _ _ (back_side c.args.from c.args.side).0 c.args.round may in
    rw c.mark_place.ensures
    (holds-after script.batch_of script.inputs_of script.rounds_of (limits g asks) (seen g asks) c.self.inside.cores c.self.inside.sent
    (g.met.S.Script.lawful _) c.self.invariant c.args.from c.args.side c.args.round there c.args.to c.requires
    c.in-Some.message c.in-Some.ensures.message c.give_to-verdict.new.cores c.give_to-verdict.new.sent c.give_to-verdict.result
    v.others v.took.capacity v.took.keeps v.took.quiet given)

pub returns : goal.returns
returns g c =
    let script = g.S.Script in
    let next = script.batch_of in
    let asks = (goal.at.returns g c).After-sent_message in
    let there = sent-there g (goal.at.returns g c).In-Some in
    let may = gives next script.inputs_of script.rounds_of (limits g asks) (seen g asks) c.self.inside.cores c.self.inside.sent
    (g.met.S.Script.lawful _) c.self.invariant c.args.from c.args.side c.args.round there c.args.to c.requires
    c.in-Some.message c.in-Some.ensures.message in
    let given = c.give_to-verdict.ensures.given _ _ _ (back_side c.args.from c.args.side).0 c.args.round may in
    rw c.mark_place.ensures
    (subst (λ (v : World g.row.S.Denot). HasHappened next script.inputs_of script.rounds_of v (asked g asks)
    (DeliveredBy c.give_to-verdict.result)
    (record { start = c.self.inside.start.value; marks = with_mark c.self.inside.marks.items c.args.from c.args.side c.args.round }))
    c.self.view_is (record {
      delivered = delivered next script.inputs_of script.rounds_of (limits g asks) (seen g asks) c.self.inside.cores c.self.inside.sent
          (g.met.S.Script.lawful _) c.self.invariant c.args.from c.args.side c.args.round there c.args.to c.requires
          c.in-Some.message c.in-Some.ensures.message;
      start = refl;
      told = told-event next script.inputs_of script.rounds_of (limits g asks) (seen g asks) c.self.inside.cores c.self.inside.sent
          (g.met.S.Script.lawful _) c.self.invariant c.args.from c.args.side c.args.round there c.args.to c.requires
          c.in-Some.message c.in-Some.ensures.message c.give_to-verdict.result given.told;
      unchanged = λ e. cc e;
    }))
