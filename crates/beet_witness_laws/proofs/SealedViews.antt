-- What a server sees of envelopes that were sealed is what it sees of their book.
use Rattle.std.proofs.Common.{◌≡◌, ◌≤◌, ◌*◌, ℕ, List, [], ◌∷◌, map, length, All, Option, None, refl, sym, ◌∙◌, ap}
use Rattle.std.proofs.lemmas.List.Elements.{All-head, All-tail}
use Rattle.beet_field.specs.Trio.{member}
use Rattle.beet_field.specs.declared.point.Point.{Point}
use Rattle.beet_field.specs.declared.point.Point.TheVariants.{One, Two, Three}
use Rattle.beet_field.specs.declared.trio.Trio.{Trio}
use Rattle.beet_words.specs.Words.{accepted}
use Rattle.beet_gates.specs.Each.{each}
use Rattle.beet_bids.specs.Books.{IsBook}
use Rattle.beet_bids.specs.Curves.{IsOfGrid}
use Rattle.beet_bids.specs.Grids.{Grid}
use Rattle.beet_bids.specs.declared.book.Bidder.{Bidder}
use Rattle.beet_book.specs.Farmers.{BidderWithWords, book_inputs, book_with, point_for}
use Rattle.beet_sharing.proofs.Lined.{member-trio}
use Rattle.beet_errand.specs.Errands.{file_for}
use Rattle.beet_load.specs.Counts.{words_wanted}
use Rattle.beet_load.specs.Servers.{ServerWords, coefficients_of, masks_of}
use Rattle.beet_view.specs.BookViews.{seen_at, seen_with, view_of_book}
use Rattle.beet_view.specs.Transcripts.{view_bytes}
use Rattle.beet_view.specs.declared.view.Seen.{Seen}
use Rattle.beet_transcripts.specs.RunsOn.{seen_sealed, view_of_points, view_on}
use Rattle.beet_transcripts.proofs.BookRuns.{view-of-book}
use Rattle.beet_audit.proofs.BookRunFacts.{seen-dealt}
use Rattle.beet_job_envelopes.specs.SealedBooks.{HaveWords, sealed_points}
use Rattle.beet_job_envelopes.proofs.SealedBooks.{inputs-sealed, outcome-sealed}
use Rattle.beet_job_record.specs.Records.{recorded_answer}
use Rattle.beet_job_witness.specs.Witness.{witnessed_answer}
use Rattle.beet_witness_laws.specs.SealedCurves.{AreSealed}

-- a bidder that no server knows is seen by its points alone
unmarked : (s : Point) (farmer : BidderWithWords) (points : List ℕ) (known : Option Point) → known ≡ None →
    seen_with s (record { bidder = record { known = known; curve = farmer.bidder.curve }; words = farmer.words }) points
    ≡ record { known = None; points = points; own = None }
unmarked s farmer points known e =
    ap (λ k. seen_with s (record { bidder = record { known = k; curve = farmer.bidder.curve }; words = farmer.words }) points) e

seen-one : (grid : Grid) (s : Point) (farmer : BidderWithWords) → IsOfGrid grid farmer.bidder.curve →
    words_wanted grid ≤ length (accepted farmer.words) → farmer.bidder.known ≡ None →
    seen_sealed s (sealed_points farmer) ≡ seen_at grid s farmer
seen-one grid s farmer of_grid enough unknown =
    let dealt = seen-dealt grid farmer of_grid enough in
    let points : member (sealed_points farmer) s ≡ each (point_for farmer s) (2 * grid.prices) =
    ap (λ (x : Trio (List ℕ)). member x s) (sym dealt)
    ∙ member-trio (λ at. each (point_for farmer at) (2 * grid.prices)) s in
    ap (λ (l : List ℕ). record { known = None; points = l; own = None }) points
    ∙ sym (unmarked s farmer (each (point_for farmer s) (2 * grid.prices)) farmer.bidder.known unknown)

seen-sealed : (grid : Grid) (s : Point) (farmers : List BidderWithWords) →
    All (λ bidder. IsOfGrid grid bidder.curve) (map (λ farmer. farmer.bidder) farmers) → HaveWords grid farmers → AreSealed farmers →
    map (seen_sealed s) (map sealed_points farmers) ≡ map (seen_at grid s) farmers
seen-sealed grid s [] of_grid enough unknown = refl
seen-sealed grid s (farmer ∷ farmers) of_grid enough unknown =
    let bidders = map (λ (f : BidderWithWords). f.bidder) farmers in
    let one = seen-one grid s farmer (All-head (λ (bidder : Bidder). IsOfGrid grid bidder.curve) farmer.bidder bidders of_grid)
    (All-head (λ (f : BidderWithWords). words_wanted grid ≤ length (accepted f.words)) farmer farmers enough)
    (All-head (λ (f : BidderWithWords). f.bidder.known ≡ None) farmer farmers unknown) in
    let rest = seen-sealed grid s farmers (All-tail (λ (bidder : Bidder). IsOfGrid grid bidder.curve) farmer.bidder bidders of_grid)
    (All-tail (λ (f : BidderWithWords). words_wanted grid ≤ length (accepted f.words)) farmer farmers enough)
    (All-tail (λ (f : BidderWithWords). f.bidder.known ≡ None) farmer farmers unknown) in
    λ j. one j ∷ rest j

module _ (grid : Grid) (farmers : List BidderWithWords) (words : Trio ServerWords) (b : IsBook (book_with grid farmers))
    (enough : HaveWords grid farmers) (unknown : AreSealed farmers) where
  -- the view of each server
  pub view-sealed : (s : Point) →
      view_of_points grid (map sealed_points farmers) words s ≡ view_of_book grid farmers (masks_of words) (coefficients_of words) s
  view-sealed s =
      ap (λ (x : Trio (List ℕ)). view_on grid x words (map (seen_sealed s) (map sealed_points farmers)) s)
      (inputs-sealed grid farmers b enough)
      ∙ ap (λ (l : List Seen). view_on grid (book_inputs grid.prices farmers) words l s)
      (seen-sealed grid s farmers b.of_grid enough unknown)
      ∙ view-of-book grid farmers words s

  -- and so the answer
  pub answer-sealed : (out : List ℕ) → witnessed_answer out grid words (map sealed_points farmers)
      ≡ recorded_answer out (record { grid = grid; servers = words; farmers = farmers })
  answer-sealed out =
      let same = outcome-sealed grid farmers words b enough in
      λ j. record (same j) {
        files = (file_for out One, view_bytes (view-sealed One j)) ∷ (file_for out Two, view_bytes (view-sealed Two j))
            ∷ (file_for out Three, view_bytes (view-sealed Three j)) ∷ [];
      }
