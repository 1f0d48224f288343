-- What two of five servers see alike of two books, and no third.
use Rattle.std.specs.Prelude.{◌≡◌, ◌≢◌, ℕ}
use Rattle.beet_bids.specs.Books.{Book}
use Rattle.beet_weights.specs.Quadratics.{IsServer}
use Rattle.beet_five_dealing.specs.FiveWords.{CanRun, FiveWords}
use Rattle.beet_five_view.specs.JointBooks.{joint_view_of, view_at}

-- servers a and b together see the same of both auctions, and no third server does
pub record SeeAlone (a b : ℕ) (first : Book) (words : FiveWords) (second : Book) (words' : FiveWords) : Type 0 where
  pub runs : CanRun second words'
  pub same : joint_view_of a b second words' ≡ joint_view_of a b first words
  pub others : (k : ℕ) → IsServer k → k ≢ a → k ≢ b → view_at second words' k ≢ view_at first words k
