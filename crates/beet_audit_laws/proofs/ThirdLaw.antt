-- A third view beside two of one run: it is of that run exactly where it agrees with the run's own in all that the run uses.
use Rattle.std.proofs.Common.{◌≡◌, ◌≢◌, ◌<◌, ◌*◌, ℕ, List, Option, Some, None, refl, sym, subst, ⊎_elim}
use Rattle.std.specs.Prelude.{◌↔◌, IfSome}
use Rattle.beet_field.specs.Trio.{member}
use Rattle.beet_field.specs.declared.point.Point.{Point}
use Rattle.beet_field.specs.declared.trio.Trio.{Trio}
use Rattle.beet_bids.specs.Curves.{Curve}
use Rattle.beet_bids.specs.Grids.{Grid}
use Rattle.beet_round.specs.Sides.{peer}
use Rattle.beet_round.specs.declared.sides.Side.TheVariants.{Low, High}
use Rattle.beet_round.proofs.SideFacts.{peer-apart, peer-one}
use Rattle.beet_map.proofs.Moves.{same_or}
use Rattle.beet_view.specs.Views.{Viewed}
use Rattle.beet_audit.specs.Audits.{bidder_at, points_of_bidder}
use Rattle.beet_audit.specs.OneRuns.{KeepsBid, OneRun}
use Rattle.beet_audit_laws.specs.InUse.{KeptAlike, SameAmong, SameButAt}
use Rattle.beet_audit_laws.proofs.FreeFacts.{free-run}
use Rattle.beet_audit_laws.proofs.ThirdFacts.{IsSound, bidders-many, third-same}

kept-itself : (grid : Grid) (curve : Curve) (points : Trio (List ℕ)) (own : Option (Curve × List ℕ)) →
    IfSome own (KeepsBid grid curve points) →
    KeptAlike (2 * grid.prices) own own
kept-itself grid curve points None keeps = tt
kept-itself grid curve points (Some own) keeps = record { curve = refl; enough = keeps.words; numbers = λ n lt. refl }

-- a view agrees with itself
same-itself : (grid : Grid) (views : Trio Viewed) → OneRun grid views → (s : Point) → SameAmong grid views s (member views s)
same-itself grid views one s = record {
  server = refl;
  over = refl;
  count = refl;
  bidders = λ n lt.
      let bid = one.bids n (subst (λ k. n < k) (bidders-many grid views one s) lt) in
      record {
        mark = refl;
        points = refl;
        kept = kept-itself grid (one.curves n) (points_of_bidder views n) (bidder_at (member views s) n).own (bid.known s);
      };
  rounds = refl;
  enough = one.tapes s;
  masks = λ n lt. refl;
  numbers = λ n lt. refl;
}

pub third-law : (grid : Grid) (views others : Trio Viewed) (s : Point) → ((r : Point) → IsSound (member views r)) →
    ((r : Point) → IsSound (member others r)) →
    OneRun grid views → SameButAt s views others → OneRun grid others ↔ SameAmong grid views s (member others s)
third-law grid views others s sound sound' one same = (
  λ one'.
      third-same grid views others sound sound' one one' (peer s Low) (peer s High) (λ e. let sides = peer-one s Low High e in cc)
      (same (peer s Low) (peer-apart s Low)) (same (peer s High) (peer-apart s High)) s,
  λ alike.
      free-run grid views others one
      (λ r. ⊎_elim
      (λ (e : r ≡ s). subst (λ x. SameAmong grid views x (member others x)) (sym e) alike)
      (λ (ne : r ≢ s). subst (λ view. SameAmong grid views r view) (sym (same r ne)) (same-itself grid views one r))
      (same_or r s)),
)
