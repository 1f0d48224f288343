use Rattle.beet_witness_laws.proofs.PointRuns.{bid-curves, one-run}
use Rattle.beet_witness_laws.proofs.witnessed_views_are_of_one_run_where_bids_are_curves.Goals as goal

pub returns : goal.returns
returns c = λ grid bidders words enough. (bid-curves grid bidders words, one-run grid bidders words enough)
