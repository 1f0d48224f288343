use Rattle.beet_program_laws.proofs.Tallies.{tallies}
use Rattle.beet_program_laws.proofs.what_tally_says_are_the_sums_of_the_bids.Goals as goal

pub returns : goal.returns
returns c = λ files auction list call done. tallies files call done.from done.code auction list done.runs
