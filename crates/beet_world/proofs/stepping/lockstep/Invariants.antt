use Rattle.std.proofs.Common.{◌≡◌}
use Rattle.beet_field.specs.Trio.{member}
use Rattle.beet_field.specs.declared.point.Point.{Point}
use Rattle.beet_server.specs.Answers.{Keeps}
use Rattle.beet_server.specs.Cores.{setup_of}
use Rattle.beet_server.specs.Lockstep.{AreAtRound}
use Rattle.beet_world.proofs.stepping.lockstep.Given as goal

abbrev pub invariant-loop-round : goal.invariant-loop-round
invariant-loop-round g l = record {
  end : l._round-end ≡ g.S.Script.rounds_of l.fn.cores.one.script;
  stand : AreAtRound g.S.Script.batch_of (setup_of g.S.Script.batch_of g.S.Script.inputs_of l.fn.cores) l._round l.cores;
  keeps : (s : Point) → Keeps (member l.fn.cores s) (member l.cores s);
}
