use Rattle.std.proofs.Common.{sym, ◌∙◌, ap, arith}
use Rattle.beet_world.proofs.GivenFacts.{Takes, given-all, given-taken, keeps-both}
use Rattle.beet_world.proofs.giving.give.Given.{Over}
use Rattle.beet_world.proofs.giving.give.Goals.{After-deliver-verdict}
use Rattle.beet_world.proofs.giving.give.Goals as goal

-- what the core makes of the message
takes : (g : Over) (c : After-deliver-verdict g) →
    Takes g.S.Script.batch_of c.args.core.now c.deliver-verdict.new.self c.args.message.now c.deliver-verdict.result
takes g c = record { ended = λ e. (c.deliver-verdict.ensures.ended e).0; going = c.deliver-verdict.ensures.verdict }

pub hand_out-requires : goal.hand_out-requires
hand_out-requires g c =
    let next = g.S.Script.batch_of in
    let d = c.deliver-verdict in
    let rounds = ap g.S.Script.rounds_of d.ensures.keeps.script in
    record {
      room = omega (arith, rounds, c.requires.holds.room);
      counted = c.requires.holds.counted ∙ sym (given-taken next c.args.core.now d.new.self c.args.message.now d.result c.requires.quiet
          (takes g (goal.at.hand_out-requires g c).After-deliver-verdict));
      within = omega (arith, rounds, c.requires.holds.within);
    }

pub returns-clause-took : goal.returns-clause-took
returns-clause-took g c =
    let d = c.deliver-verdict.ensures in
    let took = c.hand_out.ensures.took in
    let rounds = ap g.S.Script.rounds_of d.keeps.script in
    record {
      capacity = took.capacity;
      keeps = keeps-both d.keeps took.keeps;
      quiet = took.quiet;
      counted = took.counted;
      within = omega (arith, rounds, took.within);
    }

pub returns-clause-given : goal.returns-clause-given
returns-clause-given g c = λ o x rounds s t may.
    let d = c.deliver-verdict.ensures in
    let h = c.hand_out.ensures in
    given-all g.S.Script.batch_of o x rounds s t c.args.core.now c.deliver-verdict.new.self c.hand_out.new.core
    c.args.sent.now.items c.hand_out.new.sent.items
    c.args.message.now c.deliver-verdict.result c.requires.quiet
    (takes g (goal.at.returns-clause-given g c).After-deliver-verdict) d.keeps.me d.fits d.told h.fits h.sends h.going may
