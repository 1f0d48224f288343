use Rattle.beet_witness_laws.proofs.FittingPoints.{points-again, points-fit, points-short}
use Rattle.beet_witness_laws.proofs.witnessed_views_are_read_again.Goals as goal

pub returns-clause-fits : goal.returns-clause-fits
returns-clause-fits c = λ grid bidders words s can. points-fit grid bidders words can s

pub returns-clause-short : goal.returns-clause-short
returns-clause-short c = λ grid bidders words s can. points-short grid bidders words can s

pub returns-clause-again : goal.returns-clause-again
returns-clause-again c = λ grid bidders words s can. points-again grid bidders words can s
