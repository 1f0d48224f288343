use Rattle.beet_program_laws.proofs.PointAudits.{audited}
use Rattle.beet_program_laws.proofs.what_witness_puts_is_audited_by_its_points.Goals as goal

pub returns : goal.returns
returns c = λ files auction servers list out call done.
    audited files call done.from done.code auction servers list out done.runs
