use Rattle.beet_lots.proofs.LotLaws.{plays-both, plays-one}
use Rattle.beet_lots.proofs.laws.events_add_up.Goals as goal

pub returns-clause-one : goal.returns-clause-one
returns-clause-one g c = let script = g.S.Script in plays-one script.batch_of script.inputs_of script.rounds_of

pub returns-clause-more : goal.returns-clause-more
returns-clause-more g c = let script = g.S.Script in plays-both script.batch_of script.inputs_of script.rounds_of
