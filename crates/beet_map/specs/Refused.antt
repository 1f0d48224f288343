-- Where two worlds do not look alike to one server.
use Rattle.std.specs.Prelude.{◌≡◌, ◌≢◌, ◌<◌, ℕ, List, length, take, slice_get}
use Rattle.beet_field.specs.Trio.{member}
use Rattle.beet_field.specs.declared.point.Point.{Point}
use Rattle.beet_gates.specs.Clear.{clear_values}
use Rattle.beet_gates.specs.Scripts.{HasWords}
use Rattle.beet_gates.specs.declared.Batch.{Batch}
use Rattle.beet_map.specs.declared.refusals.GateFault.{GateFault}
use Rattle.beet_map.specs.declared.refusals.GateFault.TheVariants.{InputsDiffer, OwnMaskDiffers, RevealDiffers}
use Rattle.beet_map.specs.declared.refusals.GateFault.TheVariants.{OutOfMemory}
use Rattle.beet_map.specs.Secrets.{Secrets, shares_of, values_of}

-- the numbers that the script opens on the values of a world
abbrev pub opened_in : (ℕ → List ℕ → Batch) → ℕ → Secrets → List ℕ
opened_in next most w = (clear_values next most (values_of w.inputs) w.masks).opened

-- the lists differ at this place, where one may have no item, and at none before it
pub record DifferFirst {A : Type 0} (xs ys : List A) (n : ℕ) : Type 0 where
  pub before : (k : ℕ) → k < n → slice_get xs k ≡ slice_get ys k
  pub here : slice_get xs n ≢ slice_get ys n

-- server me has the same points of the inputs
abbrev pub SameShares : Point → Secrets → Secrets → Type 0
SameShares me w w' = shares_of w.inputs me ≡ shares_of w'.inputs me

-- it has the same words, of so many that a script deals
abbrev pub SameMasks : ℕ → Point → Secrets → Secrets → Type 0
SameMasks masks me w w' = take masks (member w.masks me) ≡ take masks (member w'.masks me)

-- the script opens the same numbers
abbrev pub SameOpened : (ℕ → List ℕ → Batch) → ℕ → Secrets → Secrets → Type 0
SameOpened next most w w' = opened_in next most w ≡ opened_in next most w'

-- the server cannot tell the worlds by its points of the inputs, by so many of its words, or by what is opened
pub record LookSame (next : ℕ → List ℕ → Batch) (most masks : ℕ) (me : Point) (w w' : Secrets) : Type 0 where
  pub shares : SameShares me w w'
  pub words : SameMasks masks me w w'
  pub opened : SameOpened next most w w'

-- where each refusal stands; want of memory may come at any time
abbrev pub Refuses : (ℕ → List ℕ → Batch) → ℕ → ℕ → Point → Secrets → Secrets → GateFault → Type 0
Refuses next most masks me w w' (InputsDiffer wire) = DifferFirst (shares_of w.inputs me) (shares_of w'.inputs me) wire
Refuses next most masks me w w' (OwnMaskDiffers place) =
    SameShares me w w' × DifferFirst (take masks (member w.masks me)) (take masks (member w'.masks me)) place
Refuses next most masks me w w' (RevealDiffers place first second) =
    SameShares me w w' × SameMasks masks me w w' × DifferFirst (opened_in next most w) (opened_in next most w') place
    × (first ≡ slice_get (opened_in next most w) place) × (second ≡ slice_get (opened_in next most w') place)
Refuses next most masks me w w' OutOfMemory = Unit {0}

-- a world has so many inputs, and words for so many deals
pub record HasSecrets (wanted deals : ℕ) (w : Secrets) : Type 0 where
  pub inputs : length w.inputs ≡ wanted
  pub masks : HasWords deals w.masks
