-- The run on the points of bidders who bid curves ends with the outcome of the book of these curves.
use Rattle.std.proofs.Common.{◌≡◌, ◌<◌, ◌≤◌, ℕ, List, length, All, arith, sym, subst}
use Rattle.beet_field.specs.Trio.{trio_of}
use Rattle.beet_field.specs.declared.trio.Trio.{Trio}
use Rattle.beet_bids.specs.Curves.{IsCurve}
use Rattle.beet_bids.specs.Grids.{Grid}
use Rattle.beet_masking.specs.Masks.{AreMasks}
use Rattle.beet_plan.specs.Auction.{auction_over}
use Rattle.beet_book.specs.Dealing.{AreShares, quantities}
use Rattle.beet_book.specs.PointSums.{inputs_at}
use Rattle.beet_auction.specs.AnyPoints.{points_finish, points_rounds}
use Rattle.beet_auction.specs.Endings.{book_finish, book_rounds}
use Rattle.beet_load.specs.Servers.{ServerWords, masks_of}
use Rattle.beet_run.specs.Outcomes.{outcome_answer}
use Rattle.beet_run.specs.Runs.{EndsAuction}
use Rattle.beet_view.specs.Views.{Viewed}
use Rattle.beet_transcripts.specs.RunsOn.{view_of_points}
use Rattle.beet_audit.specs.Audits.{curve_of, points_of_bidder, recombined_book}
use Rattle.beet_audit.proofs.BidFacts.{OnOwnLines, is-line, on-own-line, recombines}
use Rattle.beet_audit.proofs.FinishFacts.{ends-recombined}
use Rattle.beet_gathering.specs.Opened.{opened_answer}
use Rattle.beet_gathering.proofs.PointRuns.{points-end}
use Rattle.beet_witness_laws.specs.SealedCurves.{AreInEnvelopes, BidCurves, no_points}
use Rattle.beet_witness_laws.proofs.PointRuns.{count, points-of, same-points}
use Rattle.beet_words.specs.declared.bundle.TheConstants.{MOST_BIDDERS}

module _ (grid : Grid) (bidders : List (Trio (List ℕ))) (words : Trio ServerWords) (few : length bidders ≤ MOST_BIDDERS)
    (held : All (AreInEnvelopes grid) bidders) (masks : AreMasks (masks_of words)) (h : BidCurves grid bidders) where
  abbrev views : Trio Viewed
  views = trio_of (view_of_points grid bidders words)

  within : (i : ℕ) → i < length views.one.bidders → i < length bidders
  within i lt = omega (arith, count grid bidders words, lt)

  here : (i : ℕ) → i < length bidders → AreInEnvelopes grid (points_of_bidder views i)
  here i lt = subst (AreInEnvelopes grid) (sym (points-of grid bidders words i lt)) (held i no_points lt)

  shares : (i : ℕ) → i < length bidders → AreShares (quantities (h.curves i)) (points_of_bidder views i)
  shares i lt = subst (AreShares (quantities (h.curves i))) (sym (points-of grid bidders words i lt)) (h.bids i lt).shares

  curve : (i : ℕ) → i < length views.one.bidders → IsCurve (curve_of grid.prices (points_of_bidder views i))
  curve i lt =
      let bid = h.bids i (within i lt) in
      subst IsCurve
      (recombines grid (points_of_bidder views i) (h.curves i) bid.is_curve bid.of_grid (shares i (within i lt))) bid.is_curve

  line : (i : ℕ) → i < length views.one.bidders → OnOwnLines grid.prices (points_of_bidder views i)
  line i lt =
      let bid = h.bids i (within i lt) in
      let at = here i (within i lt) in
      on-own-line grid.prices (points_of_bidder views i) at.lengths at.elements
      (is-line grid (points_of_bidder views i) (h.curves i) bid.is_curve bid.of_grid (shares i (within i lt)))

  -- so what is said of the points is what is said of the book
  pub same-text : opened_answer grid words bidders
      ≡ outcome_answer grid (book_finish (recombined_book grid views) (masks_of words))
      (book_rounds (recombined_book grid views) (masks_of words))
  same-text =
      let finish = points_finish (auction_over grid) (inputs_at grid.prices bidders) (masks_of words) in
      let rounds = points_rounds (auction_over grid) (inputs_at grid.prices bidders) (masks_of words) in
      let same = ends-recombined grid views (omega (arith, count grid bidders words, few)) curve line words finish rounds
      (subst (λ (x : List (Trio (List ℕ))). EndsAuction grid (inputs_at grid.prices x) words finish rounds)
      (sym (same-points grid bidders words)) (points-end grid bidders words masks)) in
      λ j. outcome_answer grid (same.0 j) (same.1 j)
