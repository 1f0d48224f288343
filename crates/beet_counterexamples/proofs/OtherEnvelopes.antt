-- Other words that give a server the same envelope, and words that give it one of another bid.
use Rattle.std.proofs.Common.{◌≡◌, ◌≢◌, ◌<◌, ◌*◌, ℕ, List, [], ◌∷◌, ◌++◌, length, slice_index, refl}
use Rattle.std.proofs.Common.{sym, ap, ◌∙◌, arith, length-append}
use Rattle.std.proofs.lemmas.List.{ext_get_or, get_or_append_left, map-append}
use Rattle.std.proofs.lemmas.List.Elements.{All-append, All-cons}
use Rattle.beet_field.specs.declared.point.Point.{Point}
use Rattle.beet_field.specs.Field.{mul_of}
use Rattle.beet_field.specs.Point.{number_of}
use Rattle.beet_shamir.specs.Line.{point_of}
use Rattle.beet_words.specs.Words.{IsWord, accepted, ones_in}
use Rattle.beet_bids.specs.Curves.{Curve, IsOfGrid, quantity}
use Rattle.beet_bids.specs.Grids.{Grid}
use Rattle.beet_book.specs.Dealing.{points_at, quantities}
use Rattle.beet_words.proofs.WordLists.{accepted-append, is_ones}
use Rattle.beet_farmer.specs.Envelopes.{envelope_bytes}
use Rattle.beet_farmer.specs.Sealing.{envelope_for}
use Rattle.beet_farmer.proofs.SealedAgain.{item, long, member-dealt}
use Rattle.beet_headline.specs.Envelopes.{AreTwoBids, CanSeal}
use Rattle.beet_headline.proofs.Sealed.{points-told}
use Rattle.beet_headline.proofs.Told.{curves-told}
use Rattle.beet_counterexamples.proofs.OtherWords.{longer, longer-accepted, longer-other, longer-words}
use Rattle.beet_counterexamples.proofs.SameWords.{cancelled}
use Rattle.beet_two_books.proofs.BidderFacts.{quantity-element}

-- words of which the same numbers are drawn give the same envelope
envelope-same : (grid : Grid) (s : Point) (curve : Curve) (one other : List ℕ) →
    points_at (quantities curve) (accepted other) s ≡ points_at (quantities curve) (accepted one) s →
    envelope_for grid curve other s ≡ envelope_for grid curve one s
envelope-same grid s curve one other e =
    ap (λ l. envelope_bytes grid (record { server = s; points = l }))
    (member-dealt curve (accepted other) s ∙ e ∙ sym (member-dealt curve (accepted one) s))

pub other-places : (grid : Grid) (s : Point) (curve : Curve) (words : List ℕ) → CanSeal grid words →
    (other : List ℕ) × CanSeal grid other × (envelope_for grid curve other s
    ≡ envelope_for grid curve words s) × (other ≢ words)
other-places grid s curve words can = (
  longer words,
  record {
    are_words = longer-words words can.are_words;
    enough =
        omega (arith, can.enough, ap length (longer-accepted words));
  },
  envelope-same grid s curve words (longer words) (ap (λ l. points_at (quantities curve) l s) (longer-accepted words)),
  longer-other words,
)

module _ (grid : Grid) (s : Point) (curve : Curve) (g : IsOfGrid grid curve) (words : List ℕ)
    (can : CanSeal grid words) where
  abbrev with_last : ℕ → List ℕ
  with_last last = words ++ last ∷ []

  module _ (last : ℕ) (is_word : IsWord last) (some : accepted (last ∷ []) ≡ last ∷ []) where
    drawn : accepted (with_last last) ≡ accepted words ++ last ∷ []
    drawn = accepted-append words (last ∷ []) ∙ ap (λ l. accepted words ++ l) some

    can-last : CanSeal grid (with_last last)
    can-last = record {
      are_words = All-append IsWord words (last ∷ []) can.are_words
          (All-cons IsWord last [] is_word (λ k d lt. absurd (omega arith)));
      enough = omega (arith, can.enough, ap length drawn, length-append (accepted words) (last ∷ []));
    }

    points-last : points_at (quantities curve) (accepted (with_last last)) s ≡ points_at (quantities curve)
        (accepted words) s
    points-last =
        let mine : List ℕ = points_at (quantities curve) (accepted (with_last last)) s in
        let yours : List ℕ = points_at (quantities curve) (accepted words) s in
        let many : length mine ≡ 2 * grid.prices = long grid curve (with_last last) s g can-last.enough in
        ext_get_or 0 mine yours (many ∙ sym (long grid curve words s g can.enough))
        (λ n lt.
        let within : n < 2 * grid.prices = omega (arith, lt, many) in
        item grid curve (with_last last) s n g can-last.enough within
        ∙ ap (λ a. point_of (quantity curve n) a s)
        (ap (λ l. slice_index l n) drawn ∙ get_or_append_left (accepted words) (last ∷ []) 0 n
        (omega (arith, within, can.enough)))
        ∙ sym (item grid curve words s n g can.enough within))

  pub other-rest : (one : List ℕ) × (other : List ℕ) × CanSeal grid one × CanSeal grid other
      × (ones_in other ≡ ones_in one) × (envelope_for grid curve other s ≡ envelope_for grid curve one s) × (other ≢ one)
  other-rest = (
    with_last 0,
    with_last 1,
    can-last 0 (omega arith) refl,
    can-last 1 (omega arith) refl,
    map-append is_ones words (1 ∷ []) ∙ sym (map-append is_ones words (0 ∷ [])),
    envelope-same grid s curve (with_last 0) (with_last 1)
        (points-last 1 (omega arith) refl ∙ sym (points-last 0 (omega arith) refl)),
    λ e. ends-differ words e,
  )
    where
      ends-differ : (ws : List ℕ) → ws ++ 1 ∷ [] ≢ ws ++ 0 ∷ []
      ends-differ [] e = cc e
      ends-differ (w ∷ ws) e = ends-differ ws (let rest : ws ++ 1 ∷ [] ≡ ws ++ 0 ∷ [] = cc e in rest)

-- with the same words a server tells the bids apart
pub same-bid : (grid : Grid) (s : Point) (one other : Curve) (words : List ℕ) → AreTwoBids grid one other →
    CanSeal grid words →
    envelope_for grid other words s ≡ envelope_for grid one words s → other ≡ one
same-bid grid s one other words two can e =
    curves-told grid one other two.one_of_grid two.other_of_grid
    (λ n lt.
    cancelled (quantity one n) (quantity other n) (mul_of (slice_index (accepted words) n) (number_of s))
    (quantity-element one two.one_curve n)
    (quantity-element other two.other_curve n) (points-told grid s one other words words two can can e n lt))
