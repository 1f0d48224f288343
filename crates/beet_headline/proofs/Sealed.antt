-- What an envelope tells its server, and what the same words in two envelopes tell.
use Rattle.std.proofs.Common.{◌≡◌, ◌<◌, ◌*◌, ℕ, List, Result, Ok, inl, inr, length, slice_index, sym, ap, ◌∙◌}
use Rattle.std.proofs.Common.{arith}
use Rattle.std.proofs.lemmas.List.{ext_get_or}
use Rattle.std.proofs.lemmas.Bool.{cases_lt}
use Rattle.beet_field.specs.Field.{IsElement, sub_of}
use Rattle.beet_field.specs.declared.point.Point.{Point}
use Rattle.beet_field.specs.declared.point.Point.TheVariants.{One, Two, Three}
use Rattle.beet_shamir.specs.Line.{point_of}
use Rattle.beet_words.specs.Words.{accepted}
use Rattle.beet_bids.specs.Curves.{Curve, IsOfGrid, quantity}
use Rattle.beet_bids.specs.Grids.{Grid}
use Rattle.beet_book.specs.Dealing.{points_at, quantities}
use Rattle.beet_book.proofs.Quantities.{quantities-many}
use Rattle.beet_map.proofs.Moves.{moved_only, moved_same}
use Rattle.beet_words.proofs.WordLists.{words_same}
use Rattle.beet_mapped.proofs.WordPlaces.{accepted-length, accepted-small}
use Rattle.beet_farmer.specs.Envelopes.{envelope_bytes, envelope_of}
use Rattle.beet_farmer.specs.Sealing.{envelope_for, sealed_envelope}
use Rattle.beet_farmer.specs.declared.envelope.Envelope.{Envelope}
use Rattle.beet_farmer.proofs.SealedAgain.{item, long, member-dealt, sealed-again}
use Rattle.beet_headline.specs.Envelopes.{AreOneEnvelope, AreTwoBids, CanSeal, DifferInSlopes}
use Rattle.beet_trades.proofs.DealersThere.{moved}
use Rattle.beet_two_books.proofs.BidderFacts.{quantity-element}

-- what is read is one value
pub same-read : {A E : Type 0} (x y : A) (read : Result A E) → read ≡ Ok x → read ≡ Ok y → x ≡ y
same-read x y read e f = cc (e, f)

-- points of lines with one slope
pub difference : (s : Point) (v w a : ℕ) → IsElement v → IsElement w →
    sub_of (point_of w a s) (point_of v a s) ≡ sub_of w v
difference One v w a h l = omega (arith, h, l)
difference Two v w a h l = omega (arith, h, l)
difference Three v w a h l = omega (arith, h, l)

module _ (grid : Grid) (s : Point) where
  point-at : (curve : Curve) (words : List ℕ) → IsOfGrid grid curve → CanSeal grid words → (n : ℕ) →
      n < 2 * grid.prices →
      slice_index (sealed_envelope curve words s).points n ≡ point_of (quantity curve n)
      (slice_index (accepted words) n) s
  point-at curve words g can n lt =
      ap (λ l. slice_index l n) (member-dealt curve (accepted words) s) ∙ item grid curve words s n g can.enough lt

  -- the bytes of an envelope tell the points in it
  pub points-told : (one other : Curve) (words words' : List ℕ) → AreTwoBids grid one other → CanSeal grid words →
      CanSeal grid words' →
      envelope_for grid other words' s ≡ envelope_for grid one words s → (n : ℕ) → n < 2 * grid.prices →
      point_of (quantity other n) (slice_index (accepted words') n) s ≡ point_of (quantity one n)
      (slice_index (accepted words) n) s
  points-told one other words words' two can can' e n lt =
      let same : sealed_envelope other words' s ≡ sealed_envelope one words s =
      same-read (sealed_envelope other words' s) (sealed_envelope one words s)
      (envelope_of grid s (envelope_for grid other words' s))
      (sealed-again grid other words' s two.is_grid two.other_of_grid can'.enough)
      (ap (envelope_of grid s) e ∙ sealed-again grid one words s two.is_grid two.one_of_grid can.enough) in
      sym (point-at other words' two.other_of_grid can' n lt) ∙ ap (λ (z : Envelope). slice_index z.points n) same
      ∙ point-at one words two.one_of_grid can n lt

  pub slopes-told : (one other : Curve) (words : List ℕ) (n : ℕ) → AreTwoBids grid one other → CanSeal grid words →
      n < 2 * grid.prices →
      sub_of (slice_index (sealed_envelope other words s).points n) (slice_index (sealed_envelope one words s).points n)
      ≡ sub_of (quantity other n) (quantity one n)
  slopes-told one other words n two can lt =
      (λ i. sub_of (point-at other words two.other_of_grid can n lt i) (point-at one words two.one_of_grid can n lt i))
      ∙ difference s (quantity one n) (quantity other n) (slice_index (accepted words) n)
      (quantity-element one two.one_curve n)
      (quantity-element other two.other_curve n)

  -- words with which another bid has the same envelope, and no others
  pub one-envelope : (one other : Curve) (words : List ℕ) → AreTwoBids grid one other → CanSeal grid words →
      (words' : List ℕ) × AreOneEnvelope grid s one words other words'
  one-envelope one other words two can =
      let many : length (quantities one) ≡ 2 * grid.prices = quantities-many grid one two.one_of_grid in
      let m = moved s (quantities one) (quantities other) words can.are_words (omega (arith, many, can.enough)) in
      let as_many : length (accepted m.list) ≡ length (accepted words) = accepted-length m.list words m.moves.places in
      let can' : CanSeal grid m.list = record { are_words = m.are_words; enough = omega (arith, as_many, can.enough) }
      in
      let differ : DifferInSlopes grid words m.list =
      record { places = m.moves.places; rest = λ n le. m.moves.rest n (omega (arith, le, many)) } in
      let mine : List ℕ = points_at (quantities other) (accepted m.list) s in
      let yours : List ℕ = points_at (quantities one) (accepted words) s in
      let long-mine : length mine ≡ 2 * grid.prices = long grid other m.list s two.other_of_grid can'.enough in
      let points : mine ≡ yours =
      ext_get_or 0 mine yours (long-mine ∙ sym (long grid one words s two.one_of_grid can.enough))
      (λ n lt.
      let within : n < 2 * grid.prices = omega (arith, lt, long-mine) in
      let within-one : n < length (quantities one) = omega (arith, within, many) in
      item grid other m.list s n two.other_of_grid can'.enough within
      ∙ ap (λ a. point_of (quantity other n) a s) (m.moves.moves n within-one)
      ∙ moved_same s (slice_index (accepted words) n) (quantity one n) (quantity other n)
      (quantity-element other two.other_curve n)
      ∙ sym (item grid one words s n two.one_of_grid can.enough within)) in
      let same : envelope_for grid other m.list s ≡ envelope_for grid one words s =
      ap (λ l. envelope_bytes grid (record { server = s; points = l }))
      (member-dealt other (accepted m.list) s ∙ points ∙ sym (member-dealt one (accepted words) s)) in (
        m.list,
        record {
          can_seal = can';
          differ = differ;
          same = same;
          only = λ list can'' near e.
              let places = near.places ∙ sym m.moves.places in
              words_same list m.list places
              (ext_get_or 0 (accepted list) (accepted m.list) (accepted-length list m.list places)
              (λ n lt. elim (cases_lt n (2 * grid.prices)) [
                | inl low ↦
                    moved_only s (slice_index (accepted words) n) (slice_index (accepted list) n) (quantity one n)
                    (quantity other n)
                    (quantity-element other two.other_curve n) (accepted-small list can''.are_words n)
                    (points-told one other words list two can can'' e n low)
                    ∙ sym (m.moves.moves n (omega (arith, low, many)))
                | inr high ↦ near.rest n (omega (arith, high)) ∙ sym (differ.rest n (omega (arith, high)))
              ]));
        },
      )
