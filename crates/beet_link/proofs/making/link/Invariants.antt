use Rattle.std.specs.Prelude.{[]}
use Rattle.beet_link.specs.Streams.{stream_of}
use Rattle.beet_link.proofs.making.link.Given as goal

abbrev pub ghosts-open : goal.ghosts-open
ghosts-open g a = record {
  streams = record {
    one = stream_of g.S.Script.batch_of g.S.Script.inputs_of g.S.Script.rounds_of a._cores.now a._from a._to;
    two = [];
    three = [];
  };
}
