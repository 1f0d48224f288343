use Rattle.beet_station.proofs.Ends.{all-ended}
use Rattle.beet_station.proofs.laws.ended_servers_are_as_after_lockstep.Goals as goal

pub returns : goal.returns
returns g c = let script = g.S.Script in all-ended script.batch_of script.inputs_of script.rounds_of
