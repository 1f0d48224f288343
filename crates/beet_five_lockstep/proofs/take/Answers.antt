use Rattle.std.proofs.Common.{◌≡◌, arith, subst}
use Rattle.beet_five_lockstep.specs.FiveLockstep.{HasHanded}
use Rattle.beet_five_lockstep.proofs.OneRound.{all-taken}
use Rattle.beet_five_lockstep.proofs.take.Goals as goal

pub take_from-requires-clause-may : goal.take_from-requires-clause-may
take_from-requires-clause-may g c =
    let r = c.requires in
    record {
      o = r.o;
      script = r.script;
      t = r.t;
      s = r.s;
      server = r.server;
      is_round = r.is_round;
      has_handed = c.loop-from.invariant.stands r.o r.script r.t r.s r.server r.is_round r.are_sent r.has_handed;
      room = r.room;
      are_sent = r.are_sent;
    }

pub loop-from-preserved : goal.loop-from-preserved
loop-from-preserved g c =
    let inv = c.loop-from.invariant in
    record {
      low = omega arith;
      high = omega (arith, c.loop-from-test.true);
      stands = λ o script t s server is sent begun.
          c.take_from.ensures o script t s server is sent (inv.stands o script t s server is sent begun);
    }

pub returns : goal.returns
returns g c = λ o script t s server is sent begun.
    let next = g.S.Script.batch_of in
    let l = c.loop-from in
    let last : l.from ≡ 6 = omega (arith, c.loop-from-test.false, l.invariant.high) in
    all-taken next o script t s server is l.core
    (subst (λ k. HasHanded next o script t k s l.core) last (l.invariant.stands o script t s server is sent begun))
