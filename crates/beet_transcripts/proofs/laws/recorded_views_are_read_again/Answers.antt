use Rattle.beet_transcripts.proofs.FittingViews.{view-again, view-fits, view-short}
use Rattle.beet_transcripts.proofs.laws.recorded_views_are_read_again.Goals as goal

pub returns-clause-fits : goal.returns-clause-fits
returns-clause-fits c = λ book words s g b can product. view-fits book words g b can product s

pub returns-clause-again : goal.returns-clause-again
returns-clause-again c = λ book words s g b can product are. view-again book words g b can are product s

pub returns-clause-short : goal.returns-clause-short
returns-clause-short c = λ book words s g b can product. view-short book words g b can product s
