-- Two worlds between which a server cannot tell by its inputs, its words and what is opened.
use Rattle.std.specs.Prelude.{◌≡◌, ◌<◌, ◌≤◌, ◌+◌, ℕ, List, length, slice_index}
use Rattle.beet_field.specs.Trio.{member, trio_of}
use Rattle.beet_field.specs.declared.point.Point.{Point}
use Rattle.beet_field.specs.declared.trio.Trio.{Trio}
use Rattle.beet_words.specs.Words.{accepted, ones_in}
use Rattle.beet_gates.specs.Clear.{Values, clear_at}
use Rattle.beet_gates.specs.Deals.{deals_of}
use Rattle.beet_gates.specs.Scripts.{deals_in}
use Rattle.beet_gates.specs.declared.Batch.{Batch}
use Rattle.beet_gates.specs.Draws.{draws_in}
use Rattle.beet_sharing.specs.Lines.{OnLines}
use Rattle.beet_sharing.specs.Runs.{Setup, coming, shared_at}
use Rattle.beet_map.specs.Secrets.{Secrets, shares_of, slopes_of, values_of}

-- the run on the values of a world
abbrev pub clear_of : (ℕ → List ℕ → Batch) → Secrets → ℕ → Values
clear_of next w t = clear_at next (deals_of w.masks) (values_of w.inputs) t

-- it speaks of runs on plain values alone, so that it holds before any number is drawn
pub record MayMap (next : ℕ → List ℕ → Batch) (me : Point) (rounds : ℕ) (w w' : Secrets) : Type 0 where
  pub lines : OnLines (values_of w.inputs) (slopes_of w.inputs) (trio_of (shares_of w.inputs))
  pub lines' : OnLines (values_of w'.inputs) (slopes_of w'.inputs) (trio_of (shares_of w'.inputs))
  pub inputs : shares_of w'.inputs me ≡ shares_of w.inputs me
  pub opens : (t : ℕ) → t ≤ rounds → (clear_of next w' t).opened ≡ (clear_of next w t).opened
  pub words : (t : ℕ) → t < rounds → 0 < deals_in (next t (clear_of next w t).opened).act →
      slice_index (member w'.masks me) (clear_of next w t).dealt
      ≡ slice_index (member w.masks me) (clear_of next w t).dealt

-- there are numbers and words for each batch of a run, and words for it in the second world
pub record HasRoom (rounds : ℕ) (o : Setup) (w' : Secrets) : Type 0 where
  pub numbers : (t : ℕ) (j : Point) → t < rounds →
      (shared_at o t).drawn + draws_in (coming o t).act ≤ length (member o.numbers j)
  pub words : (t : ℕ) → t < rounds → (shared_at o t).dealt + deals_in (coming o t).act ≤ length o.masks.one
  pub words' : (t : ℕ) → t < rounds → (shared_at o t).dealt + deals_in (coming o t).act ≤ length w'.masks.one

-- there are as many numbers as accepted words
pub record FitBack (words numbers : Trio (List ℕ)) : Type 0 where
  pub one : length numbers.one ≡ length (accepted words.one)
  pub two : length numbers.two ≡ length (accepted words.two)
  pub three : length numbers.three ≡ length (accepted words.three)

-- the words that are all ones stand at the same places
pub record SamePlaces (back words : Trio (List ℕ)) : Type 0 where
  pub one : ones_in back.one ≡ ones_in words.one
  pub two : ones_in back.two ≡ ones_in words.two
  pub three : ones_in back.three ≡ ones_in words.three
