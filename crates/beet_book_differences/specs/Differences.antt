-- The first thing by which one who knows some bidders can tell two books apart, and the line that tells it.
use Rattle.std.specs.Prelude.{ℕ, ◌==◌, ◌&&◌, List, [], ◌++◌, nat_eq, Bool, true, false, Option, codes}
use Rattle.std.specs.Cmp.Lexicographic.{pointwise}
use Rattle.std.specs.Option.{option_eq}
use Rattle.beet_field.specs.declared.point.Point.{Point}
use Rattle.beet_bids.specs.Books.{Book}
use Rattle.beet_bids.specs.Curves.{Curve}
use Rattle.beet_bids.specs.Outcomes.{outcome_of}
use Rattle.beet_bids.specs.declared.book.Bidder.{Bidder}
use Rattle.beet_bids.specs.declared.outcomes.Outcome.{Outcome}
use Rattle.beet_bids.specs.declared.outcomes.Outcome.TheVariants.{Price, No}
use Rattle.beet_errand.specs.Texts.{line_of}
use Rattle.beet_differences.specs.Comparing.{bidder_text}
use Rattle.beet_differences.specs.Differences.{ends_between, first_difference, marks_between, own_between}
use Rattle.beet_run.specs.OutcomeTexts.{outcome_word}
use Rattle.beet_view.specs.BookViews.{names}
use Rattle.beet_two_books.specs.Agreement.{marks_of}
use Rattle.beet_two_books.specs.declared.agreeing.MapFault.{MapFault}
use Rattle.beet_two_books.specs.declared.agreeing.MapFault.TheVariants.{ShapeDiffers, OwnBidsDiffer, OutcomesDiffer}
use Rattle.beet_two_books.specs.declared.agreeing.MapFault.TheVariants.{OutOfMemory}

-- whether two curves have the same quantities
abbrev pub same_curve : Curve → Curve → Bool
same_curve one other = pointwise nat_eq one.buy other.buy && pointwise nat_eq one.sell other.sell

-- whether two outcomes are the same
abbrev pub same_outcome : Outcome → Outcome → Bool
same_outcome No No = true
same_outcome (Price place price volume supply) (Price place' price' volume' supply') =
    (place == place') && (price == price') && option_eq nat_eq volume volume' && option_eq nat_eq supply supply'
same_outcome _ _ = false

-- what tells two books apart first, for one who knows the bidders with marks of some kind: the first bidder that one
-- book lacks, or that has another mark in the second book; the first that is known and has another curve there; or the
-- outcomes
abbrev pub difference_for : (Option Point → Bool) → Book → Book → Option MapFault
difference_for knows first second =
    first_difference ShapeDiffers OwnBidsDiffer (marks_between (marks_of first) (marks_of second))
    (own_between (λ (bidder : Bidder). knows bidder.known) (λ (one other : Bidder). same_curve one.curve other.curve)
    first.bidders second.bidders)
    (ends_between same_outcome OutcomesDiffer (outcome_of first) (outcome_of second))

-- the first thing by which one server can tell two books apart
abbrev pub difference_between : Point → Book → Book → Option MapFault
difference_between s = difference_for (λ mark. names mark s)

-- the line of a refusal; if memory ran out nothing is said
abbrev pub refused_text : MapFault → List ℕ
refused_text (ShapeDiffers bidder) = bidder_text (codes "worlds refused") (codes "shape") bidder
refused_text (OwnBidsDiffer bidder) = bidder_text (codes "worlds refused") (codes "own bids") bidder
refused_text (OutcomesDiffer one other) =
    line_of (codes "worlds refused outcomes " ++ outcome_word one ++ codes " " ++ outcome_word other)
refused_text OutOfMemory = []
