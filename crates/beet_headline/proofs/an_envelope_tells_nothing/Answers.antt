use Rattle.beet_headline.proofs.Sealed.{one-envelope}
use Rattle.beet_headline.proofs.an_envelope_tells_nothing.Goals as goal

pub returns : goal.returns
returns c = one-envelope
