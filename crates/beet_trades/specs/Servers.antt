-- The words of the servers in two worlds of a script, if the compared numbers lose some amount.
use Rattle.std.specs.Prelude.{◌≡◌, ℕ, List, All, length}
use Rattle.beet_field.specs.declared.point.Point.{Point}
use Rattle.beet_field.specs.declared.trio.Trio.{Trio}
use Rattle.beet_shamir.specs.declared.Line.{Line}
use Rattle.beet_words.specs.Words.{IsWord}
use Rattle.beet_gates.specs.Scripts.{HasWords}
use Rattle.beet_gates.specs.declared.Batch.{Batch}
use Rattle.beet_sharing.specs.Runs.{numbers_of}
use Rattle.beet_map.specs.Refused.{HasSecrets, LookSame}
use Rattle.beet_map.specs.Secrets.{Secrets}
use Rattle.beet_map_laws.specs.Pairs.{GoTogether}
use Rattle.beet_turned.specs.MappedMasks.{MasksMapped}

-- the words of each server are below 2^61
abbrev pub AreBelow : Trio (List ℕ) → Type 0
AreBelow words = All IsWord words.one × All IsWord words.two × All IsWord words.three

-- a world with these inputs
abbrev pub world_with : List Line → Trio (List ℕ) → Secrets
world_with lines masks = record { inputs = lines; masks = masks }

-- a server cannot tell the worlds, if the masks of the second are mapped
abbrev pub LookSameMapped : (ℕ → List ℕ → Batch) → ℕ → ℕ → Point → List ℕ → Secrets → List Line → Type 0
LookSameMapped next most deals me losses here lines =
    (masks : Trio (List ℕ)) → MasksMapped me losses here.masks masks →
    LookSame next most deals me here (world_with lines masks)

-- the words of the servers can be mapped to those of a second world, whose inputs are on these lines: there are as many
-- inputs, mask words and numbers as a script asks for, and server me cannot tell the worlds
pub record CanMap (next : ℕ → List ℕ → Batch) (most inputs deals numbers : ℕ) (me : Point) (losses : List ℕ)
    (here : Secrets) (lines : List Line) (words : Trio (List ℕ)) : Type 0 where
  pub secrets : HasSecrets inputs deals here
  pub long : length lines ≡ inputs
  pub drawn : HasWords numbers (numbers_of words)
  pub same : LookSameMapped next most deals me losses here lines

-- the mask words and coefficient words of the second world, whose inputs are on these lines: they are mapped in the one
-- way there is, and are words
pub record ServersMapped (next : ℕ → List ℕ → Batch) (most : ℕ) (me : Point) (losses : List ℕ) (here : Secrets)
    (lines : List Line) (words masks' words' : Trio (List ℕ)) : Type 0 where
  pub turned : MasksMapped me losses here.masks masks'
  pub together : GoTogether next most me here (world_with lines masks') words words'
  pub masks_below : AreBelow masks'
  pub below : AreBelow words'
