-- What a core that fits a run has received is what is sent to its server in the run.
use Rattle.std.proofs.Common.{◌≡◌, ℕ, ◌<◌, List, [], Some, slice_get, unwrap_or, refl, ap, ◌∙◌}
use Rattle.beet_field.specs.declared.point.Point.{Point}
use Rattle.beet_field.specs.declared.point.Point.TheVariants.{One, Two, Three}
use Rattle.beet_gates.specs.declared.Batch.{Batch}
use Rattle.beet_gates.proofs.EachFacts.{each-same, get-each}
use Rattle.beet_round.specs.Sides.{peer}
use Rattle.beet_round.specs.declared.message.RoundMessage.{RoundMessage}
use Rattle.beet_round.specs.declared.sides.Side.{Side}
use Rattle.beet_round.specs.declared.sides.Side.TheVariants.{Low, High}
use Rattle.beet_sharing.specs.Runs.{Setup, message}
use Rattle.beet_sharing.specs.Seen.{SeenRun, round_seen, rounds_seen, run_seen}
use Rattle.beet_delivery.specs.Events.{Delivered}
use Rattle.beet_server.specs.Cores.{Core}
use Rattle.beet_server.specs.Fits.{Fits, messages_to}
use Rattle.beet_server.specs.Steps.{received_from}
use Rattle.beet_bids.specs.Grids.{Grid}
use Rattle.beet_view.specs.RunViews.{numbers_received, round_received, rounds_received, run_of_core}
use Rattle.beet_view.specs.RunViews.{view_of_core, view_of_run}
use Rattle.beet_view.specs.Views.{view_with_run}
use Rattle.beet_view.specs.declared.view.Seen.{Seen}

-- of both messages to a server, that of its peer of a side
of_side : {S : Type 0} (c : Core S) → (o : Setup) (me : Point) (side : Side) (t : ℕ) →
    c.me ≡ me →
    slice_get c.received t ≡ Some (messages_to o me t) →
    received_from c t (peer me side) ≡ Some (message o (peer me side) me t)
of_side c o One Low t is there = rw (is, there) refl
of_side c o One High t is there = rw (is, there) refl
of_side c o Two Low t is there = rw (is, there) refl
of_side c o Two High t is there = rw (is, there) refl
of_side c o Three Low t is there = rw (is, there) refl
of_side c o Three High t is there = rw (is, there) refl

module _ {S : Type 0} (next : S → ℕ → List ℕ → Batch) (o : Setup) (x : Delivered) (c : Core S) (fits : Fits next o x c) where
  numbers-fit : (side : Side) (t : ℕ) → t < c.round → numbers_received c side t ≡ message o (peer c.me side) c.me t
  numbers-fit side t h =
      let there : slice_get c.received t ≡ Some (messages_to o c.me t) =
      ap (λ (l : List (List RoundMessage)). slice_get l t) fits.received ∙ get-each (messages_to o c.me) c.round t h in
      ap (λ n. unwrap_or n []) (of_side c o c.me side t refl there)

  pub rounds-fit : rounds_received c ≡ rounds_seen o c.me c.round
  rounds-fit =
      each-same (round_received c) (round_seen o c.me) c.round
      (λ t h.
      ap (λ (low : List ℕ). (low, numbers_received c High t)) (numbers-fit Low t h)
      ∙ ap (λ (high : List ℕ). (message o (peer c.me Low) c.me t, high)) (numbers-fit High t h))

  -- so what it has seen is what its server sees of the run
  pub run-fits : run_of_core c ≡ run_seen o c.me c.round c.masks.words c.coefficients.words
  run-fits =
      ap {B = SeenRun} (λ (rounds : List (List ℕ × List ℕ)).
      record { masks = c.masks.words; coefficients = c.coefficients.words; rounds = rounds }) rounds-fit

  -- and its view is that of the run
  pub view-fits : (grid : Grid) (bidders : List Seen) →
      view_of_core c grid bidders ≡ view_of_run o c.me c.round grid bidders c.masks.words c.coefficients.words
  view-fits grid bidders = ap (view_with_run c.me grid bidders) run-fits
