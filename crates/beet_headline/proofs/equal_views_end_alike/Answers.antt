use Rattle.beet_headline.proofs.Telling.{equal-ends}
use Rattle.beet_headline.proofs.equal_views_end_alike.Goals as goal

pub returns : goal.returns
returns c = equal-ends
