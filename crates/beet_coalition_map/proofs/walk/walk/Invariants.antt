use Rattle.std.proofs.Common.{◌≡◌}
use Rattle.beet_coalition_map.proofs.Turning.{Walked}
use Rattle.beet_coalition_map.proofs.walk.walk.Given as goal

abbrev pub invariant-loop-t : goal.invariant-loop-t
invariant-loop-t g l = record {
  secrets : l.here.secrets ≡ l.fn.here.secrets;
  numbers : l.here.numbers ≡ l.fn.here.numbers;
  secrets' : l.there.secrets ≡ l.fn.there.secrets;
  walked : Walked l.two.a l.two.b (g.S.Script.batch_of l.script) l.fn.here.secrets.now l.fn.there.secrets.now
      l.fn.here.numbers l.here.stage l.there.stage l.there.numbers l.t;
  end : l.t-end ≡ g.S.Script.rounds_of l.script;
  placed : g.S.Script.is_at l.script l.t l.here.stage.opened l.place;
}
