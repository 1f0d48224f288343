-- Words of two worlds of a script that go with each other, and with no others.
use Rattle.std.specs.Prelude.{ℕ, List, slice_index}
use Rattle.beet_field.specs.Field.{IsElement}
use Rattle.beet_field.specs.declared.point.Point.{Point}
use Rattle.beet_field.specs.declared.trio.Trio.{Trio}
use Rattle.beet_gates.specs.Scripts.{HasWords}
use Rattle.beet_gates.specs.declared.Batch.{Batch}
use Rattle.beet_sharing.specs.Runs.{numbers_of}
use Rattle.beet_map.specs.Mapped.{AreWords, IsOnlyImage, IsOnlySource, WordsLookAlike, WordsMapped}
use Rattle.beet_map.specs.Refused.{HasSecrets, LookSame}
use Rattle.beet_map.specs.Secrets.{Secrets, values_of}

-- the values of the inputs are numbers of the field
abbrev pub AreElements : Secrets → Type 0
AreElements w = (k : ℕ) → IsElement (slice_index (values_of w.inputs) k)

-- two worlds of a script with so many inputs and deals, and of at most so many rounds, that server me cannot tell apart
-- by its points of the inputs, its words and what is opened
pub record AreTwoWorlds (next : ℕ → List ℕ → Batch) (most inputs deals : ℕ) (me : Point) (w w' : Secrets) : Type 0 where
  pub first : HasSecrets inputs deals w
  pub second : HasSecrets inputs deals w'
  pub elements : AreElements w
  pub elements' : AreElements w'
  pub same : LookSame next most deals me w w'

-- coefficient words from which each server can draw so many numbers
pub record CanDraw (wanted : ℕ) (words : Trio (List ℕ)) : Type 0 where
  pub are_words : AreWords words
  pub numbers : HasWords wanted (numbers_of words)

-- the words of two worlds are mapped, so that the runs look alike to the server; each are the only ones that go with
-- the others
pub record GoTogether (next : ℕ → List ℕ → Batch) (most : ℕ) (me : Point) (w w' : Secrets)
    (words words' : Trio (List ℕ)) : Type 0 where
  pub mapped : WordsMapped next most me w w' words words'
  pub looks : WordsLookAlike next most me w w' words words'
  pub only : IsOnlyImage next most me w w' words words'
  pub back : IsOnlySource next most me w w' words words'
