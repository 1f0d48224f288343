use Rattle.std.proofs.Common.{inl, inr}
use Rattle.beet_shamir.specs.Line.{AreElements}
use Rattle.beet_book.specs.Totals.{points_on}
use Rattle.beet_audit.specs.Audits.{OneBidder, points_of_bidder}
use Rattle.beet_audit.proofs.PointFacts.{both-sides}
use Rattle.beet_audit.proofs.VerdictFacts.{exits}
use Rattle.beet_audit.proofs.bidders.check_bidder.Goals as goal

pub check_known-requires-clause-bidder : goal.check_known-requires-clause-bidder
check_known-requires-clause-bidder c = record {
  lengths = c.requires.lengths;
  there = c.requires.bidder;
  over = c.requires.prices;
}

pub returns-in_err-check_lines-clause-bidder : goal.returns-in_err-check_lines-clause-bidder
returns-in_err-check_lines-clause-bidder c =
    exits (OneBidder c.args.prices c.args.views.now c.args.bidder) _ _ c.from_residual.ensures.1
    (λ ne. inl (c.in_err-check_lines.ensures.lines ne))

pub returns-in_err-check_lines-2-clause-bidder : goal.returns-in_err-check_lines-2-clause-bidder
returns-in_err-check_lines-2-clause-bidder c =
    exits (OneBidder c.args.prices c.args.views.now c.args.bidder) _ _ c.from_residual-in_err-check_lines-2.ensures.1
    (λ ne. inr (c.in_ok-check_lines.ensures.lines, inl (c.in_err-check_lines-2.ensures.lines ne)))

pub returns-in_err-check_monotone-clause-bidder : goal.returns-in_err-check_monotone-clause-bidder
returns-in_err-check_monotone-clause-bidder c =
    exits (OneBidder c.args.prices c.args.views.now c.args.bidder) _ _ c.from_residual-in_err-check_monotone.ensures.1
    (λ ne.
    inr (
      c.in_ok-check_lines.ensures.lines,
      inr (c.in_ok-check_lines-2.ensures.lines, inl (c.in_err-check_monotone.ensures.monotone ne)),
    ))

pub returns-in_err-check_known-clause-bidder : goal.returns-in_err-check_known-clause-bidder
returns-in_err-check_known-clause-bidder c =
    exits (OneBidder c.args.prices c.args.views.now c.args.bidder) _ _ c.from_residual-in_err-check_known.ensures.1
    (λ ne.
    inr (
      c.in_ok-check_lines.ensures.lines,
      inr (
        c.in_ok-check_lines-2.ensures.lines,
        inr (c.in_ok-check_monotone.ensures.monotone, c.in_err-check_known.ensures ne),
      ),
    ))

pub returns-clause-bidder : goal.returns-clause-bidder
returns-clause-bidder c = (
  c.in_ok-check_lines.ensures.lines,
  (c.in_ok-check_lines-2.ensures.lines, (c.in_ok-check_monotone.ensures.monotone, c.in_ok-check_known.ensures)),
)

pub returns-clause-elements : goal.returns-clause-elements
returns-clause-elements c =
    both-sides (λ m. AreElements (points_on (points_of_bidder c.args.views.now c.args.bidder) m)) c.args.prices
    c.in_ok-check_lines.ensures.elements c.in_ok-check_lines-2.ensures.elements
