-- Envelopes of one bid that were not sealed together.
use Rattle.std.specs.Prelude.{ℕ, List, [], ◌∷◌}
use Rattle.beet_field.specs.declared.point.Point.TheVariants.{One, Two, Three}
use Rattle.beet_field.specs.declared.trio.Trio.{Trio}
use Rattle.beet_bids.specs.Curves.{Curve}
use Rattle.beet_farmer.specs.Sealing.{points_in, sealed_envelope}
use Rattle.beet_farmer.specs.declared.envelope.Envelope.{Envelope}

-- the envelopes of a bid for servers 1 and 2 by these words, and that for server 3 by other words
abbrev pub of_two_sealings : Curve → List ℕ → List ℕ → Trio Envelope
of_two_sealings curve words other = record {
  one = sealed_envelope curve words One;
  two = sealed_envelope curve words Two;
  three = sealed_envelope curve other Three;
}

-- at one price the points of a bid for nothing
abbrev pub mixed_points : Trio (List ℕ)
mixed_points =
    points_in (of_two_sealings (record { buy = 0 ∷ []; sell = 0 ∷ [] }) (0 ∷ 0 ∷ []) (1 ∷ 1 ∷ []))
