use Rattle.beet_lot_load.proofs.LotsTelling.{tells-none}
use Rattle.beet_job_session.proofs.telling.ClearedLotsTakesLots.begin.Goals as goal

pub returns : goal.returns
returns c = λ rows. tells-none rows _ c.new.ensures.text c.new.ensures.spent
