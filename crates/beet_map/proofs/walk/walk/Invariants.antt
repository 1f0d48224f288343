use Rattle.std.proofs.Common.{◌≡◌}
use Rattle.beet_sharing.specs.Runs.{shared_at}
use Rattle.beet_map.specs.Mapped.{GateMapped}
use Rattle.beet_map.specs.Secrets.{begin_in}
use Rattle.beet_map.proofs.walk.walk.Given as goal

abbrev pub invariant-loop-t : goal.invariant-loop-t
invariant-loop-t g l = record {
  secrets : l.here.secrets ≡ l.fn.here.secrets;
  numbers : l.here.numbers ≡ l.fn.here.numbers;
  secrets' : l.there.secrets ≡ l.fn.there.secrets;
  first : l.here.stage ≡ shared_at (begin_in (g.S.Script.batch_of l.script) l.fn.here.secrets.now l.fn.here.numbers) l.t;
  second : l.there.stage ≡ shared_at (begin_in (g.S.Script.batch_of l.script) l.fn.there.secrets.now l.there.numbers) l.t;
  mapped : GateMapped l.me l.t (begin_in (g.S.Script.batch_of l.script) l.fn.here.secrets.now l.fn.here.numbers)
      (begin_in (g.S.Script.batch_of l.script) l.fn.there.secrets.now l.there.numbers);
  placed : g.S.Script.is_at l.script l.t l.here.stage.opened l.place;
}
