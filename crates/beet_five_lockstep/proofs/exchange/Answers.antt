use Rattle.std.proofs.Common.{◌<◌, ◌+◌, ◌∙◌, arith}
use Rattle.std.proofs.lemmas.List.{length-set}
use Rattle.beet_five_lockstep.proofs.OneRound.{all-done, moves-one, next-of, next-server, none-yet}
use Rattle.beet_five_lockstep.proofs.exchange.Goals as goal

pub hand_out_all-sent-requires : goal.hand_out_all-sent-requires
hand_out_all-sent-requires g c = c.requires.stand.count

pub loop-k-init : goal.loop-k-init
loop-k-init g c = record {
  within = omega arith;
  count = c.hand_out_all-sent.ensures.count;
  stand = λ o script t is begun.
      none-yet _ _ _ c.hand_out_all-sent.ensures.count (c.hand_out_all-sent.ensures.handed o script t is begun);
}

pub take-requires : goal.take-requires
take-requires g c =
    let r = c.requires in
    let l = c.loop-k in
    let within : l.k < 5 = omega (arith, c.loop-k-test.true) in
    record {
      o = r.o;
      script = r.script;
      t = r.t;
      s = l.k + 1;
      server = next-server l.k within;
      is_round = r.is_round;
      has_handed = next-of _ _ l.cores.items l.k c.index_mut-core.result.now within
          (l.invariant.stand r.o r.script r.t r.is_round r.stand) c.index_mut-core.ensures.value;
      room = c.hand_out_all-sent.ensures.room;
      are_sent = c.hand_out_all-sent.ensures.sent r.o r.script r.t r.is_round r.stand;
    }

pub loop-k-preserved : goal.loop-k-preserved
loop-k-preserved g c =
    let l = c.loop-k in
    let within : l.k < 5 = omega (arith, c.loop-k-test.true) in
    record {
      within = omega (arith, within);
      count = length-set l.cores.items l.k c.take.new.core ∙ l.invariant.count;
      stand = λ o script t is begun.
          moves-one _ _ l.cores.items l.k c.index_mut-core.result.now c.take.new.core within c.index_mut-core.ensures.value
          (c.take.ensures o script t (l.k + 1) (next-server l.k within) is (c.hand_out_all-sent.ensures.sent o script t is begun))
          (l.invariant.stand o script t is begun);
    }

pub returns : goal.returns
returns g c = λ o script t is begun. record {
  count = c.loop-k.invariant.count;
  stand = all-done _ _ _ c.loop-k.k (omega (arith, c.loop-k-test.false, c.loop-k.invariant.within))
      (c.loop-k.invariant.stand o script t is begun);
}
