use Rattle.beet_five_auction.proofs.ThreeTell.{three-tell}
use Rattle.beet_five_auction.proofs.three_of_five_can_tell_values_apart.Goals as goal

pub returns : goal.returns
returns c' = λ v a b w c d i j k one two. three-tell v a b w c d one two i j k
