use Rattle.std.proofs.Common.{◌≡◌, ◌-◌, ℕ, List, Some, length, slice_get, sym, ap, subst, ◌∙◌, arith, refl}
use Rattle.std.proofs.lemmas.Bool.{both_ways}
use Rattle.std.proofs.lemmas.Option.{same_Some, slice_get-get_or, slice_get_within}
use Rattle.beet_delivery.specs.Networks.{Delivered, deliver}
use Rattle.beet_linear_sharing.specs.Runs.{Setup}
use Rattle.beet_five_server.specs.Network.{five, rank}
use Rattle.beet_five_server.specs.declared.mail.FiveMessage.{FiveMessage}
use Rattle.beet_five_world.specs.Members.{AllFit, IsAt, Seen, triple, verdict_at}
use Rattle.beet_five_world.specs.declared.world.FiveEvent.TheVariants.{Delivered as DeliveredBy}
use Rattle.beet_five_world.proofs.WorldFacts.{event-none, event-some, nothing-changes}
use Rattle.beet_five_world.proofs.world.FiveWorld.event.Given.{Over}
use Rattle.beet_five_world.proofs.world.FiveWorld.event.Goals.{After-copy_of}
use Rattle.beet_five_world.proofs.world.FiveWorld.event.Goals as goal

-- the sender is at its place, and is not the receiver
module _ (g : Over) (c : After-copy_of g) where
  sender-at : IsAt c.self.inside.members.items (c.args.from - 1) c.index.result.now
  sender-at =
      let ms = c.self.inside.members.items in
      slice_get-get_or ms (c.args.from - 1) c.index.result.now (omega (arith, c.self.invariant.fit.count, c.requires.from))
      ∙ ap (λ z. Some z) (sym c.index.ensures)

  sender-is : (s : Seen g.row.S.Denot) → IsAt c.args.self.now (c.args.from - 1) s → c.index.result.now ≡ s
  sender-is s there =
      same_Some c.index.result.now s
      (sym sender-at ∙ ap (λ (v : List (Seen g.row.S.Denot)). slice_get v (c.args.from - 1)) c.self.view_is ∙ there)

  apart : c.args.from ≡ c.args.to → ⊥
  apart e = c.if-from-to.false e

  -- the servers stand in the run before the event
  stand : (script : g.row.S.Denot) (o : Setup) (rounds : ℕ) (x : Delivered ℕ) →
      AllFit g.S.Script.batch_of script o rounds x c.args.self.now →
      AllFit g.S.Script.batch_of script o rounds x c.self.inside.members.items
  stand script o rounds x f =
      subst (λ (v : List (Seen g.row.S.Denot)). AllFit g.S.Script.batch_of script o rounds x v) (sym c.self.view_is) f

pub returns-in-None-clause-fits : goal.returns-in-None-clause-fits
returns-in-None-clause-fits g c = λ script o rounds x f.
    let next = g.S.Script.batch_of in
    let at = (goal.at.returns-in-None-clause-fits g c).After-copy_of in
    nothing-changes next script o rounds x c.args.self.now (triple c.args.from c.args.to c.args.round) f
    (event-none next script o rounds x c.self.inside.members.items c.args.from c.args.to c.args.round c.requires.from c.requires.to
    (apart g at) (stand g at script o rounds x f)
    c.index.result.now (sender-at g at) c.in-None.ensures)

pub returns-in-None-clause-sent : goal.returns-in-None-clause-sent
returns-in-None-clause-sent g c = λ script o rounds x f.
    let next = g.S.Script.batch_of in
    let at = (goal.at.returns-in-None-clause-sent g c).After-copy_of in
    let none = event-none next script o rounds x c.self.inside.members.items c.args.from c.args.to c.args.round
    c.requires.from c.requires.to (apart g at) (stand g at script o rounds x f)
    c.index.result.now (sender-at g at) c.in-None.ensures in
    (λ _. none, λ _. refl)

pub invariant_of-self : goal.invariant_of-self
invariant_of-self g c =
    let next = g.S.Script.batch_of in
    let at = (goal.at.invariant_of-self g c).After-copy_of in
    let w = c.self.invariant in
    let sent = c.in-Some.ensures in
    record {
      script = w.script;
      o = w.o;
      rounds = w.rounds;
      x = deliver five w.rounds w.x (triple c.args.from c.args.to c.args.round);
      fit = (event-some next w.script w.o w.rounds w.x c.self.inside.members.items c.give_at.new.members.items
          c.args.from c.args.to c.args.round c.requires.from c.requires.to (apart g at) w.fit
          c.index.result.now (sender-at g at) sent.0 c.in-Some.m sent.1 sent.2 c.give_at.ensures.gives).0;
    }

pub returns-in-Some-clause-fits : goal.returns-in-Some-clause-fits
returns-in-Some-clause-fits g c = λ script o rounds x f.
    let next = g.S.Script.batch_of in
    let at = (goal.at.returns-in-Some-clause-fits g c).After-copy_of in
    let sent = c.in-Some.ensures in
    (event-some next script o rounds x c.self.inside.members.items c.give_at.new.members.items c.args.from c.args.to c.args.round
    c.requires.from c.requires.to (apart g at)
    (stand g at script o rounds x f) c.index.result.now (sender-at g at) sent.0 c.in-Some.m sent.1 sent.2 c.give_at.ensures.gives).0

pub returns-in-Some-clause-sent : goal.returns-in-Some-clause-sent
returns-in-Some-clause-sent g c = λ script o rounds x f.
    let next = g.S.Script.batch_of in
    let at = (goal.at.returns-in-Some-clause-sent g c).After-copy_of in
    let sent = c.in-Some.ensures in
    let was = (event-some next script o rounds x c.self.inside.members.items c.give_at.new.members.items c.args.from c.args.to c.args.round
    c.requires.from c.requires.to (apart g at)
    (stand g at script o rounds x f) c.index.result.now (sender-at g at) sent.0 c.in-Some.m sent.1 sent.2 c.give_at.ensures.gives).1 in
    (λ e. cc e, λ none. absurd (both_ways _ none was))

pub returns-in-None-clause-verdict : goal.returns-in-None-clause-verdict
returns-in-None-clause-verdict g c = λ sender receiver row m other there to_there is_row is_m.
    let at = (goal.at.returns-in-None-clause-verdict g c).After-copy_of in
    let within = slice_get_within sender.sent c.args.round row is_row in
    let same = ap (λ (v : Seen g.row.S.Denot). length v.sent) (sender-is g at sender there) in
    absurd (omega (arith, within, c.in-None.ensures, same))

pub returns-in-Some-clause-verdict : goal.returns-in-Some-clause-verdict
returns-in-Some-clause-verdict g c = λ sender receiver row m other there to_there is_row is_m.
    let next = g.S.Script.batch_of in
    let at = (goal.at.returns-in-Some-clause-verdict g c).After-copy_of in
    let sent = c.in-Some.ensures in
    let row_is : sent.0 ≡ row =
    same_Some sent.0 row
    (sym sent.1 ∙ ap (λ (v : Seen g.row.S.Denot). slice_get v.sent c.args.round) (sender-is g at sender there) ∙ is_row) in
    let m_is : c.in-Some.m ≡ m =
    same_Some c.in-Some.m m
    (sym sent.2 ∙ ap (λ (l : List FiveMessage). slice_get l (rank c.args.from c.args.to)) row_is ∙ is_m) in
    let receiver_at : IsAt c.self.inside.members.items (c.args.to - 1) receiver =
    ap (λ (v : List (Seen g.row.S.Denot)). slice_get v (c.args.to - 1)) c.self.view_is ∙ to_there in
    ap (λ v. DeliveredBy v)
    (c.give_at.ensures.verdict receiver receiver_at ∙ ap (λ (n : FiveMessage). verdict_at next receiver.core n) m_is)
