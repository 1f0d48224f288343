use Rattle.std.proofs.Common.{◌+◌, arith, ap, length, length-append, subst, sym, ◌∙◌}
use Rattle.beet_round.specs.Boxes.{HasBoth, Mailbox}
use Rattle.beet_server.specs.Cores.{Core, has_ended}
use Rattle.beet_server.specs.Steps.{Work}
use Rattle.beet_server.proofs.server.ServerCore.turn.Goals as goal

pub pass-requires : goal.pass-requires
pass-requires g c =
    let next = g.S.Script.batch_of in
    record {
      goes = ap (λ (v : Core g.row.S.Denot). has_ended next v) c.self.view_is ∙ c.requires.goes;
      handed = ap (λ (v : Core g.row.S.Denot). v.handed) c.self.view_is ∙ c.requires.handed;
      low = c.numbers.ensures.length ∙ c.self.invariant.want;
      high = c.numbers-2.ensures.length ∙ c.self.invariant.want;
    }

pub turn-requires : goal.turn-requires
turn-requires g c = record {
  both = subst (λ (v : Core g.row.S.Denot). HasBoth v.mail.now) (sym c.self.view_is) c.requires.both;
  wanted = c.size-size.ensures.few;
  room = omega (arith, c.pass.ensures.counted, c.self.invariant.round);
}

pub invariant_of-self : goal.invariant_of-self
invariant_of-self g c =
    let was = c.self.invariant in
    let done = sym c.pass.ensures.work in
    record {
      me = ap (λ (b : Mailbox). b.me) c.turn.ensures ∙ was.me ∙ ap (λ (w : Work g.row.S.Denot). w.me) done;
      round = ap (λ (b : Mailbox). b.round) c.turn.ensures ∙ ap (λ n. n + 1) was.round ∙ ap (λ (w : Work g.row.S.Denot). w.round) done;
      want = ap (λ (b : Mailbox). b.want) c.turn.ensures ∙ c.size-size.ensures.size;
      count = ap length c.push.ensures.messages ∙ length-append c.self.inside.received.messages _ ∙ ap (λ n. n + 1) was.count
          ∙ ap (λ (w : Work g.row.S.Denot). w.round) done;
      fit = rw (c.push.ensures.room, c.pass.ensures.work) was.fit;
      keeps = c.push.ensures.me ∙ was.keeps ∙ ap (λ (w : Work g.row.S.Denot). w.me) done;
    }
