-- The words of a command, told by their count.
use Rattle.std.specs.Prelude.{ℕ, List, [], ◌∷◌}
use Rattle.beet_command.specs.declared.line.Line.{Line}
use Rattle.beet_command.specs.declared.line.Line.TheVariants.{Two, Three, Four, Five, Six, Seven, Other}

-- a command and the words after it, of which there are two to seven; or fewer, or more
pub data Words : Type 0 where
  WithTwo : List ℕ → List ℕ → List ℕ → Words
  WithThree : List ℕ → List ℕ → List ℕ → List ℕ → Words
  WithFour : List ℕ → List ℕ → List ℕ → List ℕ → List ℕ → Words
  WithFive : List ℕ → List ℕ → List ℕ → List ℕ → List ℕ → List ℕ → Words
  WithSix : List ℕ → List ℕ → List ℕ → List ℕ → List ℕ → List ℕ → List ℕ → Words
  WithSeven : List ℕ → List ℕ → List ℕ → List ℕ → List ℕ → List ℕ → List ℕ → List ℕ → Words
  WithOthers : Words

-- those of a list
abbrev pub words_in : List (List ℕ) → Words
words_in (command ∷ a ∷ b ∷ []) = WithTwo command a b
words_in (command ∷ a ∷ b ∷ c ∷ []) = WithThree command a b c
words_in (command ∷ a ∷ b ∷ c ∷ d ∷ []) = WithFour command a b c d
words_in (command ∷ a ∷ b ∷ c ∷ d ∷ e ∷ []) = WithFive command a b c d e
words_in (command ∷ a ∷ b ∷ c ∷ d ∷ e ∷ f ∷ []) = WithSix command a b c d e f
words_in (command ∷ a ∷ b ∷ c ∷ d ∷ e ∷ f ∷ g ∷ []) = WithSeven command a b c d e f g
words_in words = WithOthers

-- those that are read
abbrev pub words_read : Line → Words
words_read (Two command a b) = WithTwo command.now a.now b.now
words_read (Three command a b c) = WithThree command.now a.now b.now c.now
words_read (Four command a b c d) = WithFour command.now a.now b.now c.now d.now
words_read (Five command a b c d e) = WithFive command.now a.now b.now c.now d.now e.now
words_read (Six command a b c d e f) = WithSix command.now a.now b.now c.now d.now e.now f.now
words_read (Seven command a b c d e f g) = WithSeven command.now a.now b.now c.now d.now e.now f.now g.now
words_read Other = WithOthers
