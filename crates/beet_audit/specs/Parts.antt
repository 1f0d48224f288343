-- Judging a part of the bidders of three views, as each of several threads does.
use Rattle.std.proofs.Common.{arith}
use Rattle.std.specs.Prelude.{◌+◌, ◌*◌, ◌≤◌, ◌<◌, ℕ, length, Result, IfOk}
use Rattle.beet_field.specs.Trio.{member}
use Rattle.beet_field.specs.declared.point.Point.{Point}
use Rattle.beet_field.specs.declared.trio.Trio.{Trio}
use Rattle.beet_shamir.specs.Line.{AreElements}
use Rattle.beet_bids.specs.Grids.{Grid}
use Rattle.beet_book.specs.PointSums.{AddsUp}
use Rattle.beet_book.specs.Totals.{Totals, points_on}
use Rattle.beet_view.specs.Views.{Viewed, IsView}
use Rattle.beet_audit.specs.Audits.{HeaderFits, OneBidder, points_from, points_of_bidder}
use Rattle.beet_audit.specs.Verdicts.{EachBelow, Judges}
use Rattle.beet_audit.specs.declared.fault.AuditFault.{AuditFault}

-- three views that fit have so many bidders from one on
pub record CanJudge (grid : Grid) (views : Trio Viewed) (from count : ℕ) : Type 0 where
  pub within : from + count ≤ length views.one.bidders
  pub fit : (s : Point) → HeaderFits grid views.one s (member views s)
  pub limits : (s : Point) → IsView (member views s)

-- what is found of them is the first thing that is wrong; if nothing is, their points are numbers of the field, and are
-- added up
pub record JudgesPart (grid : Grid) (views : Trio Viewed) (from count : ℕ)
    (result : Result Totals AuditFault) : Type 0 where
  pub bidders : Judges (EachBelow count (λ k. OneBidder grid.prices views (from + k))) result
  pub elements : IfOk result (λ totals. (k : ℕ) → k < count → (n : ℕ) → n < 2 * grid.prices →
      AreElements (points_on (points_of_bidder views (from + k)) n))
  pub sums : IfOk result (λ totals. AddsUp grid totals (points_from views from count))

-- bidders that can be judged, can be judged in two parts
pub judge-splits : (grid : Grid) (views : Trio Viewed) (from few rest : ℕ) → CanJudge grid views from (few + rest) →
    CanJudge grid views from few × CanJudge grid views (from + few) rest
judge-splits grid views from few rest can = (
  record { within = omega (arith, can.within); fit = can.fit; limits = can.limits },
  record { within = omega (arith, can.within); fit = can.fit; limits = can.limits },
)
