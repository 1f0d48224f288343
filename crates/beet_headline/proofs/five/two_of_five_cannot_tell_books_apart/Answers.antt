use Rattle.std.proofs.Common.{◌≤◌, ◌<◌, ℕ, ap}
use Rattle.beet_bids.specs.Books.{Book}
use Rattle.beet_five_dealing.specs.FiveWords.{FiveWords}
use Rattle.beet_five_map.proofs.Joined.{first-pair, second-pair}
use Rattle.beet_five_map.specs.FiveWorlds.{AreOnePair, AreTwoBooks}
use Rattle.beet_five_view.specs.JointViews.{joint_bytes}
use Rattle.beet_five_view.proofs.SameViews.{joint-same}
use Rattle.beet_headline.specs.FiveStatements.{LookTheSame}
use Rattle.beet_headline.proofs.five.two_of_five_cannot_tell_books_apart.Goals as goal

look-alike : (a b : ℕ) → 1 ≤ a → a < b → b ≤ 5 → (first second : Book) (words words' : FiveWords) → AreTwoBooks a b first second →
    AreOnePair a b first words second words' → LookTheSame a b first words second words'
look-alike a b some less few first second words words' two pair =
    let views = joint-same a b some less few first second words words' two pair in
    record { pair = pair; views = views; transcripts = ap joint_bytes views }

pub returns-clause-second : goal.returns-clause-second
returns-clause-second c = λ a b first second words some less few chain two can.
    let found = second-pair a b some less few first second two words can in
    (found.0, look-alike a b some less few first second words found.0 two found.1)

pub returns-clause-first : goal.returns-clause-first
returns-clause-first c = λ a b first second words' some less few chain two can.
    let found = first-pair a b some less few first second two words' can in
    (found.0, look-alike a b some less few first second found.0 words' two found.1)
