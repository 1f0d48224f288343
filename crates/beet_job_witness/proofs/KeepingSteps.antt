-- Keeping the bidders of envelopes, one after another.
use Rattle.std.proofs.Common.{◌≡◌, ◌*◌, ℕ, List, [], ◌∷◌, ◌++◌, refl, sym, ◌∙◌, ap}
use Rattle.std.proofs.lemmas.List.{map-append}
use Rattle.beet_field.specs.Trio.{member}
use Rattle.beet_field.specs.declared.point.Point.{Point}
use Rattle.beet_field.specs.declared.point.Point.TheVariants.{One, Two, Three}
use Rattle.beet_field.specs.declared.trio.Trio.{Trio}
use Rattle.beet_bids.specs.Grids.{Grid}
use Rattle.beet_book.specs.Dealing.{HasLengths}
use Rattle.beet_book.specs.Totals.{Totals, added, none_of}
use Rattle.beet_view.specs.declared.view.Seen.{Seen}
use Rattle.beet_transcripts.specs.RunsOn.{seen_sealed}
use Rattle.beet_book.proofs.PointsAdded.{added-more, added-none}
use Rattle.beet_job_witness.specs.Witness.{KeepsPoints}

abbrev no_seen : Trio (List Seen)
no_seen = record { one = []; two = []; three = [] }

nobody : (s : Point) → member no_seen s ≡ []
nobody One = refl
nobody Two = refl
nobody Three = refl

-- no bidder is kept yet
pub keeps-none : (grid : Grid) (totals : Totals) (seen : Trio (List Seen)) → totals ≡ none_of grid.prices →
    seen ≡ record { one = []; two = []; three = [] } → KeepsPoints grid totals seen []
keeps-none grid totals seen t h = record {
  sums = added-none grid totals t;
  shown = λ s. ap (λ (x : Trio (List Seen)). member x s) h ∙ nobody s;
}

-- one bidder more is kept
pub keeps-more : (grid : Grid) (bidders : List (Trio (List ℕ))) (points : Trio (List ℕ)) (before after : Totals)
    (seen seen' : Trio (List Seen)) → KeepsPoints grid before seen bidders → HasLengths points (2 * grid.prices) →
    after ≡ record before { points = added before.points points } →
    ((s : Point) → member seen' s ≡ member seen s ++ seen_sealed s points ∷ []) → KeepsPoints grid after seen' (bidders ++ points ∷ [])
keeps-more grid bidders points before after seen seen' h long a push = record {
  sums = added-more grid bidders points before after h.sums long a;
  shown = λ s. push s ∙ ap (λ (l : List Seen). l ++ seen_sealed s points ∷ []) (h.shown s)
      ∙ sym (map-append (seen_sealed s) bidders (points ∷ []));
}
