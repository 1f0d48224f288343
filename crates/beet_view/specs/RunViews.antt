-- The view of a server that has run a script with two others.
use Rattle.std.specs.Prelude.{ℕ, List, [], unwrap_or}
use Rattle.beet_field.specs.declared.point.Point.{Point}
use Rattle.beet_gates.specs.Each.{each}
use Rattle.beet_bids.specs.Grids.{Grid}
use Rattle.beet_round.specs.Sides.{peer}
use Rattle.beet_round.specs.declared.sides.Side.{Side}
use Rattle.beet_round.specs.declared.sides.Side.TheVariants.{Low, High}
use Rattle.beet_sharing.specs.Runs.{Setup}
use Rattle.beet_sharing.specs.Seen.{SeenRun, run_seen}
use Rattle.beet_server.specs.Cores.{Core}
use Rattle.beet_server.specs.Steps.{received_from}
use Rattle.beet_view.specs.declared.view.Seen.{Seen}
use Rattle.beet_view.specs.Transcripts.{view_bytes}
use Rattle.beet_view.specs.Views.{Viewed, view_with_run}

-- the numbers that a core received from its peer of a side in a round that it has passed
abbrev pub numbers_received : {S : Type 0} → Core S → Side → ℕ → List ℕ
numbers_received c side t = unwrap_or (received_from c t (peer c.me side)) []

-- those that it received in such a round, from the lower and from the higher peer
abbrev pub round_received : {S : Type 0} → Core S → ℕ → List ℕ × List ℕ
round_received c t = (numbers_received c Low t, numbers_received c High t)

-- those that it received in each round that it has passed
abbrev pub rounds_received : {S : Type 0} → Core S → List (List ℕ × List ℕ)
rounds_received c = each (round_received c) c.round

-- what a core has seen of its run
abbrev pub run_of_core : {S : Type 0} → Core S → SeenRun
run_of_core c = record { masks = c.masks.words; coefficients = c.coefficients.words; rounds = rounds_received c }

-- the view of a server with this core, with a grid and bidders
abbrev pub view_of_core : {S : Type 0} → Core S → Grid → List Seen → Viewed
view_of_core c grid bidders = view_with_run c.me grid bidders (run_of_core c)

-- its bytes
abbrev pub core_transcript : {S : Type 0} → Core S → Grid → List Seen → List ℕ
core_transcript c grid bidders = view_bytes (view_of_core c grid bidders)

-- the view of a server of a run of so many rounds, with a grid, bidders, and the mask and coefficient words of the
-- server
abbrev pub view_of_run : Setup → Point → ℕ → Grid → List Seen → List ℕ → List ℕ → Viewed
view_of_run o server rounds grid bidders masks coefficients =
    view_with_run server grid bidders (run_seen o server rounds masks coefficients)
