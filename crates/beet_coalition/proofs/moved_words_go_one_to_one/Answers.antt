use Rattle.beet_linear_sharing.proofs.Arithmetic.{five-laws}
use Rattle.beet_coalition.proofs.Arithmetic.{two-of-five}
use Rattle.beet_coalition.proofs.ListMoves.{moved-image, moved-only, moved-there, points-same}
use Rattle.beet_linear_sharing.specs.Schemes.{five_servers}
use Rattle.beet_coalition.specs.Watchers.{two_watch}
use Rattle.beet_coalition.proofs.moved_words_go_one_to_one.Goals as goal

pub returns-clause-only : goal.returns-clause-only
returns-clause-only c = λ a b some less few count value other. moved-only five_servers (two_watch a b) five-laws count value other

pub returns-clause-back : goal.returns-clause-back
returns-clause-back c = λ a b some less few count value other words words' are small small' m.
    moved-there five_servers (two_watch a b) five-laws count value other words words' are small small' m

pub returns-clause-image : goal.returns-clause-image
returns-clause-image c = λ a b some less few count value other words are enough.
    moved-image five_servers (two_watch a b) five-laws count value other words are enough

pub returns-clause-points : goal.returns-clause-points
returns-clause-points c = λ a b some less few count value other words words' small m n s lt at is.
    points-same five_servers (two_watch a b) five-laws count value other (two-of-five a b some less few) words words' small m n s lt at is
