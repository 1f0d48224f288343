use Rattle.beet_load.specs.Counts.{counts_of}
use Rattle.beet_run.proofs.Starting.{each-has}
use Rattle.beet_run.proofs.running.start_servers.Goals as goal

pub start_script-requires : goal.start_script-requires
start_script-requires c = rw c.over-script.ensures (λ i. record {
  points = c.requires.inputs i;
  coefficients = (each-has (counts_of c.args.grid.now) c.args.words c.requires.enough i).coefficients;
  masks = (each-has (counts_of c.args.grid.now) c.args.words c.requires.enough i).masks;
})

pub returns-clause-starts : goal.returns-clause-starts
returns-clause-starts c = rw c.over-script.ensures at c.start_script.ensures.starts
