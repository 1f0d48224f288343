use Rattle.beet_coalition.proofs.WordPairs.{words-image, words-source}
use Rattle.beet_linear_sharing.proofs.Arithmetic.{five-laws}
use Rattle.beet_coalition.proofs.Arithmetic.{two-of-five}
use Rattle.beet_linear_sharing.specs.Schemes.{five_servers}
use Rattle.beet_coalition.specs.Watchers.{two_watch}
use Rattle.beet_coalition.proofs.words_are_mapped_one_to_one.Goals as goal

pub returns-clause-image : goal.returns-clause-image
returns-clause-image c = λ a b some less few next rounds w w' may ends words are fits.
    words-image five_servers (two_watch a b) five-laws (two-of-five a b some less few) next rounds w w' may ends words are fits

pub returns-clause-source : goal.returns-clause-source
returns-clause-source c = λ a b some less few next rounds w w' may ends words are fits.
    words-source five_servers (two_watch a b) five-laws (two-of-five a b some less few) next rounds w w' may ends words are fits
