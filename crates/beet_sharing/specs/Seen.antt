-- What one server sees of a run among three.
use Rattle.std.specs.Prelude.{ℕ, List}
use Rattle.beet_field.specs.declared.point.Point.{Point}
use Rattle.beet_gates.specs.Each.{each}
use Rattle.beet_round.specs.Sides.{peer}
use Rattle.beet_round.specs.declared.sides.Side.TheVariants.{Low, High}
use Rattle.beet_sharing.specs.Runs.{Setup, message}

-- beside its points of the inputs: its mask words, its coefficient words, and in each round the numbers from its lower
-- and from its higher peer
pub record SeenRun : Type 0 where
  pub masks : List ℕ
  pub coefficients : List ℕ
  pub rounds : List (List ℕ × List ℕ)

-- the numbers that are sent to a server in a round of a run, by the lower and by the higher peer
abbrev pub round_seen : Setup → Point → ℕ → List ℕ × List ℕ
round_seen o server t = (message o (peer server Low) server t, message o (peer server High) server t)

-- those that are sent to it in each of so many rounds
abbrev pub rounds_seen : Setup → Point → ℕ → List (List ℕ × List ℕ)
rounds_seen o server rounds = each (round_seen o server) rounds

-- what a server with these mask words and coefficient words sees of a run of so many rounds
abbrev pub run_seen : Setup → Point → ℕ → List ℕ → List ℕ → SeenRun
run_seen o server rounds masks coefficients =
    record { masks = masks; coefficients = coefficients; rounds = rounds_seen o server rounds }
