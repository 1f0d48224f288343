-- Mapped words are as many as those of the first world.
use Rattle.std.proofs.Common.{◌≤◌, ◌<◌, ℕ, arith}
use Rattle.beet_words.proofs.WordLists.{ones-long}
use Rattle.beet_bids.specs.Books.{Book}
use Rattle.beet_two_books.specs.Losses.{losses_of}
use Rattle.beet_linear_sharing.proofs.Arithmetic.{among-bounds}
use Rattle.beet_coalition.specs.Lists.{at_server}
use Rattle.beet_five_dealing.specs.FiveWords.{FiveWords}
use Rattle.beet_five_map.specs.FiveWorlds.{MappedForTwo}
use Rattle.beet_five_map.proofs.MaskFacts.{as-long}
use Rattle.beet_five_run.specs.FiveRuns.{HasFewWords}

pub few-mapped : (a b : ℕ) → 1 ≤ a → a < b → (first second : Book) (words words' : FiveWords) →
    MappedForTwo a b first words second words' → HasFewWords words → HasFewWords words'
few-mapped a b some less first second words words' m few = record {
  masks = λ j at.
      let long = as-long a b some less (losses_of first second) words.masks words'.masks m.masks j in
      let few = few.masks j at in
      omega (arith, long, few);
  coefficients = λ j at.
      let long = ones-long (at_server words.coefficients j) (at_server words'.coefficients j)
      (m.coefficients.places j (among-bounds j at)) in
      let few = few.coefficients j at in
      omega (arith, long, few);
}
