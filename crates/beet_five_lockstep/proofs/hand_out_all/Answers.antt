use Rattle.std.proofs.Common.{◌<◌, ◌+◌, refl, ◌∙◌, arith}
use Rattle.std.proofs.lemmas.List.{length-set}
use Rattle.beet_five_lockstep.proofs.OneRound.{all-done, moves-one, next-of, next-server, none-yet, one-more}
use Rattle.beet_five_lockstep.proofs.hand_out_all.Goals as goal

pub loop-k-init : goal.loop-k-init
loop-k-init g c = record {
  within = omega arith;
  count = c.requires;
  room = refl;
  stand = λ o script t is begun. none-yet _ _ _ begun.count begun.stand;
  sent = λ o script t is begun. none-yet _ _ _ refl (λ j server x at. refl);
}

pub loop-k-preserved : goal.loop-k-preserved
loop-k-preserved g c =
    let l = c.loop-k in
    let k = l.k in
    let inv = l.invariant in
    let core = c.index_mut-core in
    let within : k < 5 = omega (arith, c.loop-k-test.true) in
    record {
      within = omega (arith, within);
      count = length-set l.cores.items k c.hand_out.new.core ∙ inv.count;
      room = length-set l.sent k c.hand_out.result ∙ inv.room;
      stand = λ o script t is begun.
          moves-one _ _ l.cores.items k core.result.now c.hand_out.new.core within core.ensures.value
          (λ waits. (c.hand_out.ensures o script t (k + 1) (next-server k within) is waits).0) (inv.stand o script t is begun);
      sent = λ o script t is begun.
          one-more _ _ l.sent k c.hand_out.result within (inv.sent o script t is begun)
          (c.hand_out.ensures o script t (k + 1) (next-server k within) is
          (next-of _ _ l.cores.items k core.result.now within (inv.stand o script t is begun) core.ensures.value)).1;
    }

pub returns-clause-handed : goal.returns-clause-handed
returns-clause-handed g c = λ o script t is begun.
    all-done _ _ _ c.loop-k.k (omega (arith, c.loop-k-test.false, c.loop-k.invariant.within))
    (c.loop-k.invariant.stand o script t is begun)

pub returns-clause-sent : goal.returns-clause-sent
returns-clause-sent g c = λ o script t is begun.
    all-done _ _ _ c.loop-k.k (omega (arith, c.loop-k-test.false, c.loop-k.invariant.within))
    (c.loop-k.invariant.sent o script t is begun)
