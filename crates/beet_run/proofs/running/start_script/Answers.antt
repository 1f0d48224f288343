use Rattle.beet_field.specs.declared.point.Point.TheVariants.{One, Two, Three}
use Rattle.beet_run.proofs.Starting.{begins}
use Rattle.beet_run.proofs.running.start_script.Goals as goal

pub start-one-requires : goal.start-one-requires
start-one-requires g c = c.requires One

pub start-two-requires : goal.start-two-requires
start-two-requires g c = c.requires Two

pub start-three-requires : goal.start-three-requires
start-three-requires g c = c.requires Three

pub returns-clause-starts : goal.returns-clause-starts
returns-clause-starts g c =
    let is = c.in_ok-cores.ensures in
    let one = c.start-one.ensures in
    let two = c.start-two.ensures in
    let three = c.start-three.ensures in
    begins g.S.Script.batch_of g.S.Script.inputs_of c.args.script c.args.inputs c.args.words c.in_ok-cores.cores (record {
      one = (rw is.0 at one.core, rw is.0 at one.fresh, rw is.0 at one.words);
      two = (rw is.1 at two.core, rw is.1 at two.fresh, rw is.1 at two.words);
      three = (rw is.2 at three.core, rw is.2 at three.fresh, rw is.2 at three.words);
    }) (λ i. (c.requires i).points)
