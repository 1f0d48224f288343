use Rattle.beet_lots.proofs.LotLaws.{stands-alone}
use Rattle.beet_lots.proofs.laws.each_lot_stands_by_its_own_events.Goals as goal

pub returns : goal.returns
returns g c =
    let script = g.S.Script in
    λ openings now events lot opening w s core plays opens is h.
    stands-alone script.batch_of script.inputs_of script.rounds_of openings now events lot opening w plays opens is s core h
