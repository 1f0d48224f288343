-- The curve and the words that two views keep of one bidder.
use Rattle.std.proofs.Common.{◌≡◌, ◌≢◌, ◌≤◌, ◌*◌, ℕ, List, length, slice_index, Option, Some, None, arith, sym, ◌∙◌, ap}
use Rattle.std.specs.Prelude.{IfSome, MatchOption}
use Rattle.beet_field.specs.declared.point.Point.{Point}
use Rattle.beet_field.specs.declared.point.Point.TheVariants.{One}
use Rattle.beet_field.specs.declared.trio.Trio.{Trio}
use Rattle.beet_shamir.specs.Line.{points_of}
use Rattle.beet_words.specs.Words.{IsWord, accepted}
use Rattle.beet_words.proofs.WordLists.{accepted_small}
use Rattle.beet_bids.specs.Curves.{Curve, IsOfGrid}
use Rattle.beet_bids.specs.Grids.{Grid}
use Rattle.beet_book.specs.Dealing.{dealt_points, quantities}
use Rattle.beet_book.specs.Totals.{points_on}
use Rattle.beet_audit.specs.OneRuns.{KeepsBid}
use Rattle.beet_audit.proofs.PointFacts.{item-shares, lengths-shares, trio-same}
use Rattle.beet_audit_laws.specs.InUse.{DealsAlike, KeptAlike, SameDrawn}
use Rattle.beet_audit_laws.proofs.CommonPoints.{same-slope}
use Rattle.beet_book.proofs.Quantities.{quantities-many}

-- what is kept where a mark names the server, and words that are words
abbrev pub IsKeptAt : Point → Option Point → Option (Curve × List ℕ) → Type 0
IsKeptAt s mark own = MatchOption own (mark ≢ Some s) (λ kept. (mark ≡ Some s) × ((n : ℕ) → IsWord (slice_index kept.1 n)))

module _ (grid : Grid) (curve : Curve) (of_grid : IsOfGrid grid curve) where
  -- words that draw the same numbers deal the same points
  pub same-dealt : (words others : List ℕ) → 2 * grid.prices ≤ length (accepted words) → 2 * grid.prices ≤ length (accepted others) →
      SameDrawn (2 * grid.prices) words others → dealt_points curve (accepted words) ≡ dealt_points curve (accepted others)
  same-dealt words others enough enough' same =
      let vs = quantities curve in
      let many = quantities-many grid curve of_grid in
      trio-same (dealt_points curve (accepted words)) (dealt_points curve (accepted others)) (2 * grid.prices)
      (lengths-shares vs (accepted words) (2 * grid.prices) many enough)
      (lengths-shares vs (accepted others) (2 * grid.prices) many enough')
      (λ k lt.
      item-shares vs (accepted words) k (omega (arith, many, lt)) (omega (arith, enough, lt))
      ∙ ap (points_of (slice_index vs k)) (sym (same k lt))
      ∙ sym (item-shares vs (accepted others) k (omega (arith, many, lt)) (omega (arith, enough', lt))))

  -- and words that deal the same points draw the same numbers
  pub same-drawn : (words others : List ℕ) → 2 * grid.prices ≤ length (accepted words) → 2 * grid.prices ≤ length (accepted others) →
      ((n : ℕ) → IsWord (slice_index words n)) → ((n : ℕ) → IsWord (slice_index others n)) →
      dealt_points curve (accepted others) ≡ dealt_points curve (accepted words) → SameDrawn (2 * grid.prices) words others
  same-drawn words others enough enough' are are' same k lt =
      let vs = quantities curve in
      let many = quantities-many grid curve of_grid in
      let point : points_of (slice_index vs k) (slice_index (accepted others) k)
      ≡ points_of (slice_index vs k) (slice_index (accepted words) k) =
      sym (item-shares vs (accepted others) k (omega (arith, many, lt)) (omega (arith, enough', lt)))
      ∙ ap (λ t. points_on t k) same
      ∙ item-shares vs (accepted words) k (omega (arith, many, lt)) (omega (arith, enough, lt)) in
      same-slope One (slice_index vs k) (slice_index (accepted words) k) (slice_index (accepted others) k)
      (accepted_small words are k) (accepted_small others are' k) (ap (λ (t : Trio ℕ). t.one) point)

  module _ (points points' : Trio (List ℕ)) (same : points' ≡ points) where
    -- what is kept of one bidder in two runs deals alike
    deals-alike : (own other : Curve × List ℕ) → KeepsBid grid curve points own → KeepsBid grid curve points' other →
        ((n : ℕ) → IsWord (slice_index own.1 n)) → ((n : ℕ) → IsWord (slice_index other.1 n)) → DealsAlike (2 * grid.prices) own other
    deals-alike own other keeps keeps' are are' = record {
      curve = keeps'.bid ∙ sym keeps.bid;
      enough = keeps'.words;
      numbers = same-drawn own.1 other.1 keeps.words keeps'.words are are' (sym keeps'.deals ∙ same ∙ keeps.deals);
    }

    pub kept-alike : (s : Point) (mark : Option Point) (own other : Option (Curve × List ℕ)) → IsKeptAt s mark own → IsKeptAt s mark other →
        IfSome own (KeepsBid grid curve points) → IfSome other (KeepsBid grid curve points') → KeptAlike (2 * grid.prices) own other
    kept-alike s mark None None h h' keeps keeps' = tt
    kept-alike s mark None (Some other) h h' keeps keeps' = h h'.0
    kept-alike s mark (Some own) None h h' keeps keeps' = h' h.0
    kept-alike s mark (Some own) (Some other) h h' keeps keeps' = deals-alike own other keeps keeps' h.1 h'.1

    -- and what deals alike is kept of one bidder
    pub keeps-alike : (own other : Option (Curve × List ℕ)) → KeptAlike (2 * grid.prices) own other →
        IfSome own (KeepsBid grid curve points) →
        IfSome other (KeepsBid grid curve points')
    keeps-alike None None h keeps = tt
    keeps-alike None (Some other) h keeps = absurd h
    keeps-alike (Some own) None h keeps = tt
    keeps-alike (Some own) (Some other) h keeps = record {
      bid = h.curve ∙ keeps.bid;
      words = h.enough;
      deals = same ∙ keeps.deals ∙ same-dealt own.1 other.1 keeps.words h.enough h.numbers;
    }
