use Rattle.std.proofs.Common.{refl}
use Rattle.beet_field.specs.declared.point.Point.TheVariants.{One, Two, Three}
use Rattle.beet_station.proofs.Ends.{begins}
use Rattle.beet_station.proofs.making.stations.Goals as goal

pub returns-clause-tied : goal.returns-clause-tied
returns-clause-tied g c =
    let script = g.S.Script in
    let start = c.args.cores in
    let one_two = c.requires.links.one_two in
    let one_three = c.requires.links.one_three in
    let two_three = c.requires.links.two_three in
    record {
      one = begins script.batch_of script.inputs_of script.rounds_of start c.requires.fresh One c.station.result c.station.ensures refl
          one_two.put_there one_three.put_there one_two.taken_back one_three.taken_back;
      two = begins script.batch_of script.inputs_of script.rounds_of start c.requires.fresh Two c.station-2.result c.station-2.ensures refl
          one_two.put_back two_three.put_there one_two.taken_there two_three.taken_back;
      three = begins script.batch_of script.inputs_of script.rounds_of start c.requires.fresh Three c.station-3.result
          c.station-3.ensures refl
          one_three.put_back two_three.put_back one_three.taken_there two_three.taken_there;
    }
