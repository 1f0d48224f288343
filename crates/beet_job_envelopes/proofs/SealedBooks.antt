-- Envelopes that were sealed open the outcome of their book.
use Rattle.std.proofs.Common.{◌≡◌, ℕ, ◌+◌, ◌*◌, ◌%◌, ◌<◌, ◌≤◌, List, [], ◌∷◌, map, length, slice_index}
use Rattle.std.proofs.Common.{All, arith, refl, sym, ◌∙◌, ap}
use Rattle.std.specs.Prelude.{sum_by}
use Rattle.std.proofs.lemmas.List.Elements.{All-head, All-tail}
use Rattle.std.proofs.lemmas.List.Sums.{sum_by-cons}
use Rattle.beet_field.specs.Field.{p}
use Rattle.beet_field.specs.Trio.{member}
use Rattle.beet_field.specs.declared.point.Point.{Point}
use Rattle.beet_field.specs.declared.point.Point.TheVariants.{One, Two, Three}
use Rattle.beet_field.specs.declared.trio.Trio.{Trio}
use Rattle.beet_words.specs.Words.{accepted}
use Rattle.beet_gates.specs.Each.{each}
use Rattle.beet_gates.proofs.EachFacts.{each-same}
use Rattle.beet_bids.specs.Books.{IsBook}
use Rattle.beet_bids.specs.Curves.{Curve, IsOfGrid}
use Rattle.beet_bids.specs.Grids.{Grid, IsGrid}
use Rattle.beet_book.specs.Totals.{supply_first}
use Rattle.beet_farmer.specs.Envelopes.{envelope_bytes}
use Rattle.beet_farmer.specs.Sealing.{sealed_envelope}
use Rattle.beet_farmer.proofs.EnvelopeAgain.{envelope-size}
use Rattle.beet_farmer.proofs.SealedAgain.{item, long, member-dealt}
use Rattle.beet_auction.specs.Endings.{book_finish, book_rounds}
use Rattle.beet_plan.specs.Auction.{auction_over}
use Rattle.beet_book.specs.Farmers.{BidderWithWords, book_inputs, book_with, point_for, summed_point}
use Rattle.beet_auction.proofs.BookLines.{book-lines, slopes_of}
use Rattle.beet_auction.proofs.BookPoints.{points-finish, points-rounds}
use Rattle.beet_load.specs.Counts.{words_wanted}
use Rattle.beet_load.specs.Servers.{ServerWords, masks_of}
use Rattle.beet_run.specs.Outcomes.{outcome_answer}
use Rattle.beet_auction.specs.AnyPoints.{points_finish, points_rounds}
use Rattle.beet_book.specs.PointSums.{sum_at, inputs_at}
use Rattle.beet_gathering.specs.Opened.{opened_answer}
use Rattle.beet_job_envelopes.specs.SealedBooks.{HaveWords, sealed_points}
use Rattle.beet_farmer.specs.declared.envelope.TheConstants.{ENVELOPE_LIMIT}

-- the file of a sealed envelope is within the limit
pub sealed-size : (grid : Grid) (curve : Curve) (words : List ℕ) (s : Point) → IsGrid grid → IsOfGrid grid curve →
    words_wanted grid ≤ length (accepted words) →
    length (envelope_bytes grid (sealed_envelope curve words s)) ≤ ENVELOPE_LIMIT
sealed-size grid curve words s limits of_grid enough =
    let size = envelope-size grid (sealed_envelope curve words s)
    (rw (member-dealt curve (accepted words) s) (long grid curve words s of_grid enough)) in
    omega (arith, size, limits.prices_limit)

-- a point that a farmer seals is the one that it deals
sealed-point : (grid : Grid) (farmer : BidderWithWords) (s : Point) (k : ℕ) → IsOfGrid grid farmer.bidder.curve →
    words_wanted grid ≤ length (accepted farmer.words) → k < 2 * grid.prices →
    slice_index (member (sealed_points farmer) s) k ≡ point_for farmer s k
sealed-point grid farmer s k of_grid enough lt =
    ap (λ points. slice_index points k) (member-dealt farmer.bidder.curve (accepted farmer.words) s)
    ∙ item grid farmer.bidder.curve farmer.words s k of_grid enough lt

sealed-sum : (grid : Grid) (farmers : List BidderWithWords) (s : Point) (k : ℕ) → k < 2 * grid.prices →
    All (λ bidder. IsOfGrid grid bidder.curve) (map (λ farmer. farmer.bidder) farmers) → HaveWords grid farmers →
    sum_by (λ points. slice_index (member points s) k) (map sealed_points farmers) ≡ sum_by (λ farmer. point_for farmer s k) farmers
sealed-sum grid [] s k lt of_grid enough = refl
sealed-sum grid (farmer ∷ farmers) s k lt of_grid enough =
    let bidders = map (λ farmer. farmer.bidder) farmers in
    let here = sealed-point grid farmer s k (All-head (λ bidder. IsOfGrid grid bidder.curve) farmer.bidder bidders of_grid)
    (All-head (λ farmer. words_wanted grid ≤ length (accepted farmer.words)) farmer farmers enough) lt in
    let rest = sealed-sum grid farmers s k lt (All-tail (λ bidder. IsOfGrid grid bidder.curve) farmer.bidder bidders of_grid)
    (All-tail (λ farmer. words_wanted grid ≤ length (accepted farmer.words)) farmer farmers enough) in
    sum_by-cons (λ points. slice_index (member points s) k) (sealed_points farmer) (map sealed_points farmers)
    ∙ ap (λ n. n + sum_by (λ points. slice_index (member points s) k) (map sealed_points farmers)) here
    ∙ ap (λ n. point_for farmer s k + n) rest
    ∙ sym (sum_by-cons (λ farmer. point_for farmer s k) farmer farmers)

sealed-at : (grid : Grid) (farmers : List BidderWithWords) (s : Point) → IsBook (book_with grid farmers) → HaveWords grid farmers →
    supply_first grid.prices (each (sum_at (map sealed_points farmers) s) (2 * grid.prices))
    ≡ supply_first grid.prices (each (summed_point farmers s) (2 * grid.prices))
sealed-at grid farmers s b enough =
    ap (supply_first grid.prices) (each-same (sum_at (map sealed_points farmers) s) (summed_point farmers s) (2 * grid.prices)
    (λ k lt. ap (λ n. n % p) (sealed-sum grid farmers s k lt b.of_grid enough)))

-- the inputs are those of the book
pub inputs-sealed : (grid : Grid) (farmers : List BidderWithWords) → IsBook (book_with grid farmers) → HaveWords grid farmers →
    inputs_at grid.prices (map sealed_points farmers) ≡ book_inputs grid.prices farmers
inputs-sealed grid farmers b enough = λ j. record {
  one = sealed-at grid farmers One b enough j;
  two = sealed-at grid farmers Two b enough j;
  three = sealed-at grid farmers Three b enough j;
}

-- and the answer is its outcome
pub outcome-sealed : (grid : Grid) (farmers : List BidderWithWords) (servers : Trio ServerWords) →
    IsBook (book_with grid farmers) → HaveWords grid farmers →
    opened_answer grid servers (map sealed_points farmers)
    ≡ outcome_answer grid (book_finish (book_with grid farmers) (masks_of servers))
    (book_rounds (book_with grid farmers) (masks_of servers))
outcome-sealed grid farmers servers b enough =
    let a = auction_over grid in
    let masks = masks_of servers in
    let book = book_with grid farmers in
    let inputs = book_inputs grid.prices farmers in
    let slopes = slopes_of grid farmers in
    let lines = book-lines grid farmers b in
    let same = inputs-sealed grid farmers b enough in
    let finish = ap (λ inputs. points_finish a inputs masks) same ∙ points-finish book slopes inputs masks b lines in
    let rounds = ap (λ inputs. points_rounds a inputs masks) same ∙ points-rounds book slopes inputs masks b lines in
    λ j. outcome_answer grid (finish j) (rounds j)
