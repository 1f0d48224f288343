use Rattle.beet_server.proofs.Rounds.{high-taken, low-taken, quiet-then, with_low}
use Rattle.beet_world.proofs.stepping.take_both.Goals as goal

pub deliver-requires-2 : goal.deliver-requires-2
deliver-requires-2 g c =
    let r = c.requires in
    let d = c.deliver.ensures in
    record {
      sent = quiet-then g.S.Script.batch_of r.o r.t (with_low r.s r.t) r.s c.deliver.new.self
          (low-taken g.S.Script.batch_of r.o r.t r.s c.args.core.now c.deliver.new.self c.args.low.now c.deliver.result
          r.waits r.is_round d.verdict d.fits d.keeps.me r.is_low);
    }

pub returns-clause-passed : goal.returns-clause-passed
returns-clause-passed g c = λ o t s is waits low high.
    let next = g.S.Script.batch_of in
    let d = c.deliver.ensures in
    let e = c.deliver-2.ensures in
    high-taken next o t s c.deliver.new.self c.deliver-2.new.self c.args.high.now c.deliver-2.result
    (low-taken next o t s c.args.core.now c.deliver.new.self c.args.low.now c.deliver.result waits is d.verdict d.fits d.keeps.me low)
    is e.verdict e.fits e.keeps.me high
