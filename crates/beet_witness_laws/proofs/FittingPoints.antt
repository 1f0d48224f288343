-- What three servers see of points in envelopes may stand in transcripts, and is read from them again.
use Rattle.std.proofs.Common.{◌≡◌, ◌<◌, ◌≤◌, ◌*◌, ℕ, List, length, map, get_or, All, Ok, IfSome, arith, sym, subst}
use Rattle.std.proofs.lemmas.List.{length-map}
use Rattle.std.proofs.lemmas.List.Elements.{All-from_get_or, All-map}
use Rattle.beet_field.specs.Field.{IsElement}
use Rattle.beet_field.specs.Trio.{member, trio_of}
use Rattle.beet_field.specs.declared.point.Point.{Point}
use Rattle.beet_field.specs.declared.point.Point.TheVariants.{One, Two, Three}
use Rattle.beet_field.specs.declared.trio.Trio.{Trio}
use Rattle.beet_bids.specs.Grids.{Grid}
use Rattle.beet_plan.specs.Auction.{auction_over}
use Rattle.beet_plan.specs.Kept.{words_kept}
use Rattle.beet_book.specs.Dealing.{HasLengths}
use Rattle.beet_book.specs.PointSums.{inputs_at}
use Rattle.beet_book.specs.declared.book_file.TheConstants.{MOST_PRODUCT}
use Rattle.beet_auction.specs.AnyPoints.{ArePoints}
use Rattle.beet_auction.proofs.AddedPoints.{are-points}
use Rattle.beet_forms.specs.declared.faults.TheConstants.{LONGEST_FILE}
use Rattle.beet_load.specs.Servers.{ServerWords}
use Rattle.beet_view.specs.Transcripts.{AreNumbers, FitsFile, HasNumbers, view_bytes, view_in}
use Rattle.beet_view.specs.Views.{IsSeenAt, IsView}
use Rattle.beet_view.specs.declared.view.Seen.{Seen}
use Rattle.beet_view.proofs.ViewAgain.{view_in-view}
use Rattle.beet_view.proofs.ViewLength.{view_bytes-short}
use Rattle.beet_transcripts.specs.RunsOn.{seen_sealed, view_of_points}
use Rattle.beet_transcripts.proofs.FittingRuns.{run-fits, run-is-view, run-numbers}
use Rattle.beet_audit.specs.Audits.{HaveElements}
use Rattle.beet_shamir.specs.Line.{AreElements}
use Rattle.beet_book.specs.Totals.{points_on}
use Rattle.beet_witness_laws.specs.SealedCurves.{AreInEnvelopes, CanBeWitnessed, no_points}
use Rattle.beet_witness_laws.proofs.PointRuns.{count, points-of}

length-at : (points : Trio (List ℕ)) (n : ℕ) (s : Point) → HasLengths points n → length (member points s) ≡ n
length-at points n One h = h.one
length-at points n Two h = h.two
length-at points n Three h = h.three

sealed-seen : (grid : Grid) (s : Point) (points : Trio (List ℕ)) → HasLengths points (2 * grid.prices) →
    IsSeenAt s grid (seen_sealed s points)
sealed-seen grid s points h = record { points = length-at points (2 * grid.prices) s h; own = λ e. cc e }

-- the points in an envelope are numbers of the field
envelope-elements : (grid : Grid) (points : Trio (List ℕ)) (s : Point) → AreInEnvelopes grid points → All IsElement (member points s)
envelope-elements grid points s h =
    All-from_get_or IsElement (member points s) 0
    (λ k lt. at s k (omega (arith, length-at points (2 * grid.prices) s h.lengths, lt))) where
      at : (s : Point) (k : ℕ) → k < 2 * grid.prices → IsElement (get_or (member points s) k 0)
      at One k lt = (h.elements k lt).0
      at Two k lt = (h.elements k lt).1.0
      at Three k lt = (h.elements k lt).1.1

module _ (grid : Grid) (bidders : List (Trio (List ℕ))) (words : Trio ServerWords) (can : CanBeWitnessed grid bidders words) where
  abbrev inputs : Trio (List ℕ)
  inputs = inputs_at grid.prices bidders

  are : ArePoints (auction_over grid) inputs
  are = are-points grid bidders

  abbrev seen : Point → List Seen
  seen s = map (seen_sealed s) bidders

  pub points-fit : (s : Point) → FitsFile (view_of_points grid bidders words s)
  points-fit s =
      run-fits grid can.is_grid inputs words are.lengths s (seen s) can.cut
      (subst (λ n. n * grid.prices ≤ MOST_PRODUCT) (sym (length-map bidders (seen_sealed s))) can.product)
      (All-map (λ (seen : Seen). IfSome seen.own (λ own. length own.1 ≤ words_kept grid.prices)) (seen_sealed s) bidders (λ k d lt. tt))

  pub points-view : (s : Point) → IsView (view_of_points grid bidders words s)
  points-view s =
      run-is-view grid can.is_grid inputs words are.lengths s (seen s) (omega (arith, length-map bidders (seen_sealed s), can.few))
      (All-map (IsSeenAt s grid) (seen_sealed s) bidders
      (λ i d lt. sealed-seen grid s (get_or bidders i d) (can.held i d lt).lengths))

  pub points-short : (s : Point) → length (view_bytes (view_of_points grid bidders words s)) ≤ LONGEST_FILE
  points-short s = view_bytes-short (view_of_points grid bidders words s) can.is_grid (points-view s) (points-fit s)

  points-numbers : (s : Point) → AreNumbers (view_of_points grid bidders words s)
  points-numbers s =
      run-numbers grid can.is_grid inputs words are.lengths s (seen s) are.elements
      (All-map HasNumbers (seen_sealed s) bidders
      (λ k d lt. record { points = envelope-elements grid (get_or bidders k d) s (can.held k d lt); own = tt }))
      (can.masks s) (can.coefficients s)

  -- each transcript is read as the view
  pub points-again : (s : Point) → view_in (view_bytes (view_of_points grid bidders words s)) ≡ Ok (view_of_points grid bidders words s)
  points-again s = view_in-view (view_of_points grid bidders words s) (points-view s) (points-fit s) (points-numbers s)

  -- and the points in the three views are numbers of the field
  pub points-elements : HaveElements grid (trio_of (view_of_points grid bidders words))
  points-elements i lt n within =
      let there : i < length bidders = omega (arith, count grid bidders words, lt) in
      subst (λ (x : Trio (List ℕ)). AreElements (points_on x n)) (sym (points-of grid bidders words i there))
      ((can.held i no_points there).elements n within)
