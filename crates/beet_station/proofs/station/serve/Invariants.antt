use Rattle.std.proofs.Common.{◌≡◌}
use Rattle.beet_station.specs.Notes.{Awaits, notes_left}
use Rattle.beet_station.specs.Stations.{IsTied}
use Rattle.beet_station.proofs.station.serve.Given as goal

abbrev pub invariant-loop : goal.invariant-loop
invariant-loop g l = record {
  tied : IsTied g.S.Script.batch_of g.S.Script.inputs_of g.S.Script.rounds_of l.run.value l.me l.station;
  same : g.K.Sink.origin l.sink ≡ g.K.Sink.origin l.fn.sink;
  told : Awaits (g.K.Sink.due l.sink)
      (notes_left g.S.Script.batch_of g.S.Script.inputs_of g.S.Script.rounds_of l.run.value l.me l.station.core.round);
}
