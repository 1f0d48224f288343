-- Envelopes of two sealings are those of no curve.
use Rattle.std.proofs.Common.{◌≡◌, ◌≢◌, ℕ, List, [], ◌∷◌, arith, refl, subst}
use Rattle.beet_field.specs.declared.trio.Trio.{Trio}
use Rattle.beet_shamir.specs.Line.{IsLine}
use Rattle.beet_bids.specs.Grids.{Grid}
use Rattle.beet_book.specs.Dealing.{pairwise}
use Rattle.beet_book.specs.Totals.{points_on}
use Rattle.beet_audit.proofs.BidFacts.{is-line}
use Rattle.beet_witness_laws.specs.SealedCurves.{BidCurves}
use Rattle.beet_app_laws.specs.Calls.{Call}
use Rattle.beet_program_laws.specs.Accepted.{AuditsPoints}
use Rattle.beet_counterexample_laws.specs.TwoSealings.{mixed_points}

points-are : mixed_points ≡ record { one = 0 ∷ 0 ∷ []; two = 0 ∷ 0 ∷ []; three = 3 ∷ 3 ∷ [] }
unfolding pairwise
points-are = refl

no-curve : (grid : Grid) → grid.prices ≡ 1 → BidCurves grid (mixed_points ∷ []) → ⊥
no-curve grid e h =
    let bid = h.bids 0 (omega arith) in
    let line : IsLine (points_on mixed_points 0) =
    is-line grid mixed_points (h.curves 0) bid.is_curve bid.of_grid bid.shares 0 (omega (arith, e)) in
    let same : 0 ≡ 3 = subst (λ (points : Trio (List ℕ)). IsLine (points_on points 0)) points-are line in
    absurd (omega (arith, same))

pub not-accepted : (grid : Grid) (status : ℕ) (text : List ℕ) (audit : Call) → grid.prices ≡ 1 →
    AuditsPoints grid (mixed_points ∷ []) status text audit → audit.status ≢ status
not-accepted grid status text audit e h same = no-curve grid e (h.accepted same).0
