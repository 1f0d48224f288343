-- One server sees the same of other bids, as no other server does.
use Rattle.std.proofs.Common.{◌≡◌, ◌≢◌, ℕ, List, ap, ◌∙◌}
use Rattle.beet_field.specs.declared.point.Point.{Point}
use Rattle.beet_words.specs.Bundles.{Words}
use Rattle.beet_bids.specs.Books.{Book}
use Rattle.beet_bids.specs.Curves.{Curve}
use Rattle.beet_bids.specs.Grids.{Grid}
use Rattle.beet_farmer.specs.Envelopes.{envelope_of}
use Rattle.beet_farmer.specs.Sealing.{envelope_for, sealed_envelope}
use Rattle.beet_farmer.proofs.SealedAgain.{sealed-again}
use Rattle.beet_headline.specs.Envelopes.{AreTwoBids, CanSeal}
use Rattle.beet_headline.specs.Statements.{AreTwoBooks, CanRun}
use Rattle.beet_headline.proofs.Pairing.{second-there}
use Rattle.beet_headline.proofs.Sealed.{one-envelope, same-read}
use Rattle.beet_headline.proofs.TwoServers.{envelopes-tell, views-tell}
use Rattle.beet_counterexamples.specs.OneServer.{HasAlone, SeesAlone}

pub sees-alone : (s : Point) (first second : Book) (words : Words) → AreTwoBooks s first second → second ≢ first →
    CanRun first words → (words' : Words) × SeesAlone s first words second words'
sees-alone s first second words two differ runs =
    let found = second-there s first second words two runs in (
      found.0,
      record {
        runs = found.1.second_runs;
        same = found.1.views;
        others = λ t apart e. differ (views-tell s t first second words found.0 apart two.first_book two.second_book
            runs found.1.second_runs found.1.views e);
      },
    )

pub has-alone : (grid : Grid) (s : Point) (one other : Curve) (words : List ℕ) → AreTwoBids grid one other →
    other ≢ one → CanSeal grid words → (words' : List ℕ) × HasAlone grid s one words other words'
has-alone grid s one other words two differ can =
    let found = one-envelope grid s one other words two can in (
      found.0,
      record {
        can_seal = found.1.can_seal;
        same = found.1.same;
        others = λ t apart e. differ (envelopes-tell grid s t one other words found.0 apart two can found.1.can_seal
            found.1.same e);
      },
    )

-- an envelope that is the same has the same points
pub no-difference : (grid : Grid) (s : Point) (one other : Curve) (words : List ℕ) → AreTwoBids grid one other →
    CanSeal grid words →
    (words' : List ℕ) × CanSeal grid words' × (sealed_envelope other words' s ≡ sealed_envelope one words s)
no-difference grid s one other words two can =
    let found = one-envelope grid s one other words two can in (
      found.0,
      found.1.can_seal,
      same-read (sealed_envelope other found.0 s) (sealed_envelope one words s)
          (envelope_of grid s (envelope_for grid other found.0 s))
          (sealed-again grid other found.0 s two.is_grid two.other_of_grid found.1.can_seal.enough)
          (ap (envelope_of grid s) found.1.same
          ∙ sealed-again grid one words s two.is_grid two.one_of_grid can.enough),
    )
