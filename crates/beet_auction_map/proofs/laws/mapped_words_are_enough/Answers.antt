use Rattle.beet_auction_map.proofs.EnoughFacts.{mapped-enough}
use Rattle.beet_auction_map.proofs.laws.mapped_words_are_enough.Goals as goal

pub returns : goal.returns
returns c = mapped-enough
