-- Lots that three servers can run.
use Rattle.std.specs.Prelude.{List, [], ◌∷◌}
use Rattle.beet_words.specs.Bundles.{Words}
use Rattle.beet_bids.specs.Books.{Book}
use Rattle.beet_load.specs.Wholes.{CanStart}

-- there are as many words as books, and three servers can run the auction of each book with its words
abbrev pub CanStartEach : List Book → List Words → Type 0
CanStartEach [] [] = Unit {0}
CanStartEach (book ∷ books) (held ∷ words) = CanStart book held × CanStartEach books words
CanStartEach _ _ = ⊥
