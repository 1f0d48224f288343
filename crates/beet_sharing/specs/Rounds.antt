-- What a round of a run among three servers takes.
use Rattle.std.specs.Prelude.{◌≡◌, ◌+◌, ◌<◌, ◌≤◌, ℕ, suc, length}
use Rattle.beet_field.specs.Trio.{member}
use Rattle.beet_field.specs.declared.point.Point.{Point}
use Rattle.beet_field.specs.declared.TheConstants.{MOST_NUMBERS}
use Rattle.beet_gates.specs.Scripts.{Standing, deals_in, size_of}
use Rattle.beet_gates.specs.Draws.{draws_in}
use Rattle.beet_sharing.specs.Runs.{Setup, coming, message, shared_at}

-- each server has so many points of the inputs
abbrev pub HasInputs : Setup → ℕ → Type 0
HasInputs o inputs = (i : Point) → length (member o.inputs i) ≡ inputs

-- the numbers that a server has drawn, the words that it has dealt and the points that it holds after round t are
-- within the bounds; each message of the round has as many numbers as its act says, at least one and no more than a
-- message may
pub record RoundIsWithin (o : Setup) (bounds : Standing) (t : ℕ) : Type 0 where
  pub drawn : (shared_at o t).drawn + draws_in (coming o t).act ≤ bounds.coefficients
  pub dealt : (shared_at o t).dealt + deals_in (coming o t).act ≤ bounds.masks
  pub points : (i : Point) → length (member (shared_at o (suc t)).wires i) ≤ bounds.wires
  pub numbers : (from to : Point) → length (message o from to t) ≡ size_of (coming o t).act
  pub some : 0 < size_of (coming o t).act
  pub few : size_of (coming o t).act ≤ MOST_NUMBERS
