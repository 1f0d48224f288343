use Rattle.beet_program_laws.proofs.Seals.{seals}
use Rattle.beet_program_laws.proofs.what_seal_puts_are_the_points_of_the_bid.Goals as goal

pub returns : goal.returns
returns c = λ files auction bid source out call done.
    seals files call done.from done.code auction bid source out done.runs
