use Rattle.beet_coalition.proofs.Alternating.{word-put}
use Rattle.beet_coalition.proofs.a_word_tells_the_mask.Goals as goal

pub returns : goal.returns
returns c = word-put
