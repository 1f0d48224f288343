-- What two of five servers see of an auction together, and the bytes of its file.
use Rattle.std.specs.Prelude.{ℕ, ◌++◌, List, [], ◌∷◌, codes}
use Rattle.std.specs.List.{flat_map}
use Rattle.beet_words.specs.Fields.{number_bytes}
use Rattle.beet_bids.specs.Grids.{Grid}
use Rattle.beet_bids.specs.declared.outcomes.Policy.{Policy}
use Rattle.beet_bids.specs.declared.outcomes.Policy.TheVariants.{Price, Volume, Full}
use Rattle.beet_view.specs.Transcripts.{counted_bytes, number_of_gates, numbers_bytes, seen_bytes}
use Rattle.beet_view.specs.declared.view.Seen.{Seen}

-- what one of them sees: its number, the grid, the bidders, its words, and in each round the numbers of its four peers,
-- in rising order
pub record FiveView : Type 0 where
  pub server : ℕ
  pub grid : Grid
  pub bidders : List Seen
  pub masks : List ℕ
  pub coefficients : List ℕ
  pub rounds : List (List (List ℕ))

-- and what both of them see
pub record JointView : Type 0 where
  pub lower : FiveView
  pub higher : FiveView

-- the text that the file begins with
abbrev pub magic : List ℕ
magic = codes "BEETFV01"

-- the number of a policy, which is always told
abbrev pub number_of_policy : Policy → ℕ
number_of_policy Price = 0
number_of_policy Volume = 1
number_of_policy Full = 2

abbrev pub grid_bytes : Grid → List ℕ
grid_bytes grid =
    numbers_bytes
    (grid.base ∷ grid.tick ∷ grid.prices ∷ number_of_gates grid.gates ∷ number_of_policy grid.policy ∷ [])

-- the bytes of the messages of a round
abbrev pub round_bytes : List (List ℕ) → List ℕ
round_bytes messages = flat_map (counted_bytes number_bytes) messages

-- the bytes of what one server sees
abbrev pub view_bytes : FiveView → List ℕ
view_bytes view =
    number_bytes view.server ++ (grid_bytes view.grid
    ++ (counted_bytes seen_bytes view.bidders
    ++ (counted_bytes number_bytes view.masks
    ++ (counted_bytes number_bytes view.coefficients
    ++ counted_bytes round_bytes view.rounds))))

-- the bytes of the file
abbrev pub joint_bytes : JointView → List ℕ
joint_bytes view = magic ++ (view_bytes view.lower ++ view_bytes view.higher)
